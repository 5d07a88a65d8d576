use Rattle.deques.proofs.Words.{◌≡◌, ◌≤◌, map, vec_len, vec_capacity, All, many_out, blank}
use Rattle.deques.proofs.dealing.all_permits.Given as goal

abbrev pub invariant-loop : goal.invariant-loop
invariant-loop g l =
    (l.owners.items ≡ map (many_out l.counter) l.initial.owners.items)
    × All (λ v. v.items ≡ map blank l.initial.owners.items) l.lists.items
    × (vec_len l.lists ≡ l.counter)
    × (vec_len l.initial.owners ≤ vec_capacity l.lists)
