use Rattle.sweep.proofs.{Words.{rules, ◌≡◌, ◌+◌, ℕ, suc, ◌∷◌, None, ap, subst, ◌∙◌, vec_len, arith, slice_index_or, FnReturns, into_iter_items}, Placed.{one_more}, parallel.filled.Goals.{in-Some-place, in-None-place}}
use Rattle.sweep.proofs.parallel.filled.Goals as goal

pub loop-place-preserved : goal.loop-place-preserved
loop-place-preserved g c =
    let rest = into_iter_items c.loop-place.place-iterator in
    let left = into_iter_items c.next.new.self in
    let e : rest ≡ c.in-Some.place ∷ left = c.in-Some.ensures.steps.0 in
    let i = c.loop-place.invariant in
    let n = c.loop-place.number in
    let here : n + 0 ≡ n = omega arith in
    let Q : ℕ → Type 0 = λ m. FnReturns g.F.Fn c.args.job.now (m, tt) c.match-place.answer in
    let gives : FnReturns g.F.Fn c.args.job.now (n, tt) c.match-place.answer =
    elim c.match-place.branch [
      | in-Some-place w ↦ subst Q here (i.left 0 c.match-place.answer (ap (λ r. slice_index_or r 0 None) e ∙ search rules))
      | in-None-place w ↦ search rules
    ] in
    record {
      number_is = search rules;
      all = search rules;
      left = λ k answer is.
          let P : ℕ → Type 0 = λ m. FnReturns g.F.Fn c.args.job.now (m, tt) answer in
          let later : n + suc k ≡ n + 1 + k = omega arith in
          subst P later (i.left (suc k) answer (ap (λ r. slice_index_or r (suc k) None) e ∙ is));
      each = let R : ℕ → Type 0 = λ m. FnReturns g.F.Fn c.args.job.now (m, tt) c.match-place.answer in
          let more = one_more g.F.Fn c.args.job.now c.args.first (vec_len c.loop-place.answers) c.loop-place.answers.items
          c.push.new.self.items c.match-place.answer c.loop-place.answers.ok.0 (search rules)
          (subst R i.number_is gives) i.each in
          λ k d lt. more k d (search rules);
    }
