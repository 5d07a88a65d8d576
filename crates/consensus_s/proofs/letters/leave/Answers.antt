use Rattle.consensus_s.proofs.Words.{◌≡◌, ◌∙◌, ℕ, ◌+◌, cond, None, nat_le, nat_lt, arith, nat_tests, kept_of}
use Rattle.consensus_s.proofs.letters.leave.Goals as goal

same_rounds : (r round : ℕ) → nat_lt r (round + 1) ≡ nat_le r round
same_rounds r round = grind (arith, nat_tests)

pub returns : goal.returns
returns c = c.drop_before.ensures ∙ (λ i r q. cond (same_rounds r c.args.round i) None (kept_of c.args.letters.now r q))
