use Rattle.deques.proofs.Words.{◌≡◌, ◌≤◌, [], map, vec_len, vec_capacity, None, All}
use Rattle.deques.proofs.dealing.Dealer.open.Given as goal

abbrev pub invariant-loop : goal.invariant-loop
invariant-loop g l =
    (l.count ≤ vec_capacity l.fronts) × (l.count ≤ vec_capacity l.owners) × (vec_len l.fronts ≡ l.counter) × (vec_len l.owners ≡ l.counter) × (l.counter ≤ l.count)
    × (l.fronts.items ≡ map (λ o. o.deque) l.owners.items)
    × All (λ o. (o.out ≡ 0) × (o.taken ≡ []) × (o.told ≡ None)) l.owners.items
    × All (λ o. o.put ≡ []) l.owners.items
