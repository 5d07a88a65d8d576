use Rattle.deques.proofs.Words.{◌≡◌, length, map, each_with, one_back}
use Rattle.deques.proofs.dealing.take_all_back.Given as goal

abbrev pub invariant-loop-permit : goal.invariant-loop-permit
invariant-loop-permit g l =
    (goal.iterator-loop-permit g).can_next l.permit-iterator ×
    (goal.iterator-loop-permit g).is_finite l.permit-iterator ×
    (l.at ≡ length l.yielded) × (l.owners.items ≡ each_with one_back l.initial.owners.items (map (λ t. t.taken) l.yielded))
