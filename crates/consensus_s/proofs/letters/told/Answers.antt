use Rattle.consensus_s.proofs.{Words.{◌∙◌, ℕ, ap, sym, Option, None, Some, cell, kept_of}, Counting.{first_is}}
use Rattle.consensus_s.proofs.letters.told.Goals as goal

pub returns-then-is_some : goal.returns-then-is_some
returns-then-is_some c =
    let tells : ℕ → Option ℕ = λ q. elim (kept_of c.args.letters.now c.args.round q) [ None ↦ None | Some cells ↦ cell cells c.args.k ] in
    sym (first_is c.args.n c.loop-before.before tells c.told_by-told.result c.loop-before-test.true c.loop-before.invariant
    (ap tells (sym c.after.ensures) ∙ sym c.told_by-told.ensures) (sym c.is_some.ensures ∙ c.if-is_some.true))
