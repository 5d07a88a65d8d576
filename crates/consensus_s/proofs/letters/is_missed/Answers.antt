use Rattle.consensus_s.proofs.{Words.{◌∙◌, ◌≤◌, ℕ, sym, arith, Bool, false, not, is_some, None, Some, cell, kept_of}, Counting.{any_holds}}
use Rattle.consensus_s.proofs.letters.is_missed.Goals as goal

pub returns-then-is_missed_by : goal.returns-then-is_missed_by
returns-then-is_missed_by c =
    let misses : ℕ → Bool = λ q. elim (kept_of c.args.letters.now c.args.round q) [ None ↦ false | Some cells ↦ not (is_some (cell cells c.args.k)) ] in
    let q = c.after.result in
    let low : 1 ≤ q = omega (arith, c.after.ensures) in
    let high : q ≤ c.args.n = omega (arith, c.after.ensures, c.loop-before-test.true) in
    sym (any_holds c.args.n misses q low high (sym c.is_missed_by.ensures ∙ c.if-is_missed_by.true))
