use Rattle.deques.proofs.Words.{◌≡◌, ◌≤◌, ◌++◌, map, take, drop, vec_len, vec_capacity, one_out, blank}
use Rattle.deques.proofs.dealing.permits_of.Given as goal

abbrev pub invariant-loop-at : goal.invariant-loop-at
invariant-loop-at g l =
    (l.owners.items ≡ map one_out (take l.at l.initial.owners.items) ++ drop l.at l.initial.owners.items)
    × (l.permits.items ≡ map blank (take l.at l.initial.owners.items))
    × (vec_len l.initial.owners ≤ vec_capacity l.permits)
    × (vec_len l.owners ≡ vec_len l.initial.owners)
