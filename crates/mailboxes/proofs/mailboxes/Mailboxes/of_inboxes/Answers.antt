use Rattle.mailboxes.proofs.{Words.{◌≡◌, ◌∙◌, ◌++◌, ◌∷◌, List, [], ap, length, length-append, sym, subst, arith, All, into_iter_items, map-append, All-head, All-tail, MailboxId, home_of, homes_of}, Homes.{IsEmpty}}
use Rattle.mailboxes.proofs.mailboxes.Mailboxes.of_inboxes.Goals as goal

pub loop-inbox-preserved : goal.loop-inbox-preserved
loop-inbox-preserved c =
    let i = c.loop-inbox.invariant in
    let rest = into_iter_items c.next.new.self in
    let e : into_iter_items c.loop-inbox.inbox-iterator ≡ c.in-Some.inbox ∷ rest = c.in-Some.ensures.steps.0 in
    let empty = subst (All IsEmpty) e i.empty in
    let boxes : List MailboxId = c.loop-inbox.boxes.items in
    let mailbox : MailboxId = c.inbox.inside.mailbox in
    let of = c.inbox.invariant in
    let none = c.inbox.view_is ∙ All-head IsEmpty c.in-Some.inbox rest empty in
    let more = c.in_ok-push.ensures.items in
    record {
      homes = c.in_ok-push-2.ensures.items ∙ (λ j. i.homes j ++ home_of (of.0 j) (of.1 j) (none j) ∷ []) ∙ sym (map-append (λ m. home_of m 0 []) boxes (mailbox ∷ [])) ∙ ap (homes_of 0) (sym more);
      empty = All-tail IsEmpty c.in-Some.inbox rest empty;
      count = omega (arith, i.count, ap length e, ap length more, length-append boxes (mailbox ∷ []));
    }
