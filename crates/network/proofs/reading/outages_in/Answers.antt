use Rattle.std.proofs.{Common.{rules}, lemmas.Fn.{always_returns_same}}
use Rattle.network.proofs.reading.outages_in.Goals as goal

pub returns-clause-in_order : goal.returns-clause-in_order
returns-clause-in_order c =
    c.in_ok-sort_by_key.ensures.sorted (λ o. record { 0 = o.begin; 1 = o.until }) (always_returns_same _ _ _ (λ a r g k. search rules))
