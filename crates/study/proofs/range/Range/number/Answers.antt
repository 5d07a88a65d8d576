use Rattle.study.proofs.{Basics.{◌≡◌, ◌*◌, ◌-ℤ◌, ◌≤ℤ◌, pos, ◌∙◌, ap, arith, w64, rules, ints, to_z-of_z, FitsSigned, unsigned_abs}, Pieces.{reached}}
use Rattle.study.proofs.range.Range.number.Goals as goal
use Rattle.study.proofs.range.Range.number.Goals.{After-from-2}

record Known (c : After-from-2) : Type 0 where
  low : FitsSigned w64 c.args.self.low
  high : FitsSigned w64 c.args.self.high
  moved : c.from-2.result ≡ pos (c.args.step * unsigned_abs c.args.self.step)
  within : pos (c.args.step * unsigned_abs c.args.self.step) ≤ℤ (c.args.self.high -ℤ c.args.self.low)

known : (c : After-from-2) → Known c
known c =
    let r = c.args.self in
    let step : FitsSigned w64 r.step = search rules in
    record {
      low = search rules;
      high = search rules;
      moved = c.from-2.ensures ∙ (ap (λ n. pos (c.args.step * n)) c.unsigned_abs.ensures.value
          ∙ ap (λ z. pos (c.args.step * unsigned_abs z)) (to_z-of_z w64 r.step step));
      within = reached r.low r.high r.step c.args.step r.rises r.some c.requires;
    }

pub overflow_add-result : goal.overflow_add-result
overflow_add-result c = let k = known c in omega (arith, ints, c.from.ensures)

pub overflow_cast-result : goal.overflow_cast-result
overflow_cast-result c = let k = known c in omega (arith, ints, c.from.ensures)

pub returns : goal.returns
returns c = let k = known c in omega (arith, ints, c.from.ensures)
