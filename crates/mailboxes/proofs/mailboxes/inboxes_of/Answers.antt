use Rattle.mailboxes.proofs.{Words.{◌≡◌, ◌∙◌, ◌++◌, ◌∷◌, [], ap, map, drop, length, sym, subst, append_assoc, All, into_iter_items, length-map, All-tail}, Homes.{back_of, mailbox_of, IsIn}}
use Rattle.mailboxes.proofs.mailboxes.inboxes_of.Goals as goal

pub loop-home-preserved : goal.loop-home-preserved
loop-home-preserved c =
    let i = c.loop-home.invariant in
    let h = c.in-Some.home in
    let rest = into_iter_items c.next.new.self in
    let e : into_iter_items c.loop-home.home-iterator ≡ h ∷ rest = c.in-Some.ensures.steps.0 in
    let done = c.loop-home.inboxes.items in
    let boxes = ap (λ l. drop 1 l) (sym c.in-Some-next.ensures.items ∙ (i.boxes ∙ ap (map mailbox_of) e)) in
    record {
      boxes = boxes;
      out = All-tail IsIn h rest (subst (All IsIn) e i.out);
      letters = ap (λ xs. xs ++ map back_of rest) c.in_ok-push.ensures.items
          ∙ (append_assoc done (h.back ∷ []) (map back_of rest) ∙ (ap (λ xs. done ++ map back_of xs) (sym e) ∙ i.letters));
      same = ap length boxes ∙ length-map rest mailbox_of;
    }
