use Rattle.process_api.proofs.{Basics.{◌≡◌, ◌-◌, ◌/◌, ◌%◌, ap, sym, ◌∙◌, nat_eq, get_or, arith, shr_and_one, is_set, most_processes}, Told.{told_in_range}}
use Rattle.std.specs.FinSet as set
use Rattle.process_api.proofs.proc_set.ProcSet.contains.Goals as goal

pub returns : goal.returns
returns c =
    let words = c.self.inside.words in
    let p = c.args.p in
    let place = c.from-place.result - 1 in
    let at : place ≡ p - 1 = omega (arith, c.from-place.ensures, c.number.ensures.value) in
    ap (λ b. nat_eq b 1) (shr_and_one (get_or words (place / 64) 0) (place % 64))
    ∙ (ap (is_set words) at
    ∙ (sym (told_in_range (is_set words) most_processes p (omega (arith, c.number.ensures.low, c.number.ensures.value)) (omega (arith, c.number.ensures.high, c.number.ensures.value)))
    ∙ ap (λ s. set.contains s p) c.self.view_is))
