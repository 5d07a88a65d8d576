use Rattle.std.proofs.Common.{◌≡◌, ◌<◌, length}
use Rattle.deques.proofs.hand.Hand.steal.Given as goal

abbrev pub invariant-loop : goal.invariant-loop
invariant-loop g l =
    (l.at < length l.self-inside.permits.items) × (l.self-inside.permits.items ≡ l.initial.self-inside.permits.items)
    × (l.self-inside.owner ≡ l.initial.self-inside.owner) × (l.self-inside.place ≡ l.initial.self-inside.place)
