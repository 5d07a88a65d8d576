use Rattle.mailboxes.proofs.{Words.{[], ap, append_assoc, into_iter_items, letters_in, map-append, subst, sym, Shuffled, Shuffled-next, Shuffled-refl, ◌++◌, ◌∙◌, ◌∷◌, IsPermutation}, Homes.{items_of}}
use Rattle.mailboxes.proofs.mailboxes.letters_from_all.Goals as goal

pub loop-inbox-init : goal.loop-inbox-init
loop-inbox-init g c =
    let none = c.new-lists.ensures.items in
    let all = c.into_iter-inbox-iterator.ensures.into_iter_gives.0 in
    subst (Shuffled c.args.inboxes.items) (λ i. letters_in (sym none i) ++ sym all i) (Shuffled-refl c.args.inboxes.items)

pub loop-inbox-preserved : goal.loop-inbox-preserved
loop-inbox-preserved g c =
    let all = c.args.inboxes.items in
    let lists = c.loop-inbox.lists.items in
    let rest = into_iter_items c.next.new.self in
    let v = c.empty.new.to in
    let came = c.in_ok-empty.ensures.letters in
    subst (Shuffled all) (sym (ap (λ xs. letters_in xs ++ rest) c.in_ok-push.ensures.items ∙ (ap (λ xs. xs ++ rest) (map-append items_of lists (v ∷ [])) ∙ append_assoc (letters_in lists) (v.items ∷ []) rest)))
    (Shuffled-next all (letters_in lists) rest c.in-Some.inbox v.items (subst (λ xs. Shuffled all (letters_in lists ++ xs)) c.in-Some.ensures.steps.0 c.loop-inbox.invariant)
    (subst (IsPermutation c.in-Some.inbox) (sym (came.2 c.new-letters.result [] c.new-letters.ensures.items)) came.1))
