use Rattle.windows.proofs.Words.{◌≡◌, ◌++◌, [], length, map, All, into_iter_items, AreOne, delivered, kept_in}
use Rattle.windows.proofs.stage.hand_over.Given as goal

-- what was done so far and what the rest gives is what all give
abbrev pub invariant-loop-berth : goal.invariant-loop-berth
invariant-loop-berth g l =
    let rest = into_iter_items l.berth-iterator in
    let letters = into_iter_items l.inboxes in
    record {
      berths : map kept_in l.done.items ++ delivered rest letters ≡ delivered l.fn.berths.items l.fn.inboxes.items;
      parts : map (λ v. v.items) l.parts.items ++ map (λ b. b.part.items) rest ≡ map (λ b. b.part.items) l.fn.berths.items;
      same : length letters ≡ length rest;
      one : All AreOne letters;
      emptied : All (λ i. i ≡ []) l.emptied.items;
    }
