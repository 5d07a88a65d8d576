use Rattle.deques.proofs.Words.{◌≡◌, length, map, IsPermutation, deques_of, all_put, AreShares}
use Rattle.deques.proofs.dealing.deal.Given as goal

abbrev pub invariant-loop-item : goal.invariant-loop-item
invariant-loop-item g l =
    (goal.iterator-loop-item g).can_next l.item-iterator ×
    (goal.iterator-loop-item g).is_finite l.item-iterator ×
    (l.dealt ≡ length l.yielded) × (length l.dealer ≡ l.count)
    × (l.fronts.items ≡ deques_of l.dealer)
    × AreShares l.count l.yielded (map (λ d. d.1) l.dealer)
    × IsPermutation l.yielded (all_put l.dealer)
