use Rattle.trace_merge.proofs.Words.{rules, answers_always}
use Rattle.trace_merge.proofs.joined.Joined.in_order.Goals as goal

pub returns-then-not-rises-clause-order : goal.returns-then-not-rises-clause-order
returns-then-not-rises-clause-order c = c.sort_unstable_by_key.ensures.sorted (λ e. e.key) (answers_always _ _ _ (λ f a r f' k. search rules))
