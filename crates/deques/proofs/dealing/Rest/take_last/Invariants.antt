use Rattle.std.proofs.Common.{◌≡◌}
use Rattle.deques.proofs.Deals.{Emptied}
use Rattle.deques.proofs.dealing.Rest.take_last.Given as goal

abbrev pub invariant-loop-at : goal.invariant-loop-at
invariant-loop-at g l =
    (l.self-inside.owners.items ≡ l.initial.self-inside.owners.items) × (l.self-inside.out ≡ l.initial.self-inside.out)
    × Emptied l.at l.initial.self-inside.owners.items
