use Rattle.mailboxes.proofs.Words.{◌≡◌, length, map, all_back}
use Rattle.mailboxes.proofs.mailboxes.take_back.Given as goal

abbrev pub invariant-loop-ticket : goal.invariant-loop-ticket
invariant-loop-ticket l =
    (goal.iterator-loop-ticket).can_next l.ticket-iterator ×
    (goal.iterator-loop-ticket).is_finite l.ticket-iterator ×
    (l.at ≡ length l.yielded) × (l.homes.items ≡ all_back l.initial.homes.items (map (λ t. t.posted) l.yielded))
