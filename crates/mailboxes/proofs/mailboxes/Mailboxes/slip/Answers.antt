use Rattle.mailboxes.proofs.Words.{◌≡◌, ◌≤◌, ℕ, ◌+◌, ◌<◌, List, [], ◌∷◌, ◌++◌, length, map, set, get_or, refl, sym, ap, ◌∙◌, add-one, append-nil, arith, rules, take, drop, drop_all, take_all, get_or-map, map-map, map_take_more, mixed_at, mixed_more, MailboxId, HomeView, home_of, homes_of, MailboxesView, one_out, slip_of, ticket_of, unused}
use Rattle.mailboxes.proofs.Homes.{mailbox_of, slip_with}
use Rattle.mailboxes.proofs.mailboxes.Mailboxes.slip.Goals as goal

-- the pass at the place of the loop is as it was
as_was : (n : ℕ) (hs homes : List HomeView) (ids : List MailboxId) (i : ℕ) (d : HomeView) (e : MailboxId) → hs ≡ homes_of n ids → i < length ids → e ≡ get_or ids i e → d ≡ get_or homes i d → homes ≡ map one_out (take i hs) ++ drop i hs
    → (d ≡ get_or hs i d) × (d ≡ home_of e n [])
as_was n hs homes ids i d e are lt at is so_far =
    let old = is ∙ ap (λ l. get_or l i d) so_far ∙ mixed_at one_out hs i d in
    (old, old ∙ ap (λ l. get_or l i d) are ∙ get_or-map (λ m. home_of m n []) ids i e d lt ∙ ap (λ m. home_of m n []) (sym at))

pub ticket-ticket-requires : goal.ticket-ticket-requires
ticket-ticket-requires c =
    ap mailbox_of (as_was c.self.inside.slips c.self.inside.homes.items c.loop-at.homes.items c.shared.inside.boxes.items c.loop-at.at c.index_mut.result.now c.index.result.now (search rules) (search rules) c.index.ensures c.index_mut.ensures.value c.loop-at.invariant.0).1

pub loop-at-preserved : goal.loop-at-preserved
loop-at-preserved c =
    let hs = c.self.inside.homes.items in
    let ids : List MailboxId = c.shared.inside.boxes.items in
    let i = c.loop-at.at in
    let e : MailboxId = c.index.result.now in
    let lt : i < length ids = search rules in
    let was = as_was c.self.inside.slips hs c.loop-at.homes.items ids i c.index_mut.result.now e (search rules) lt c.index.ensures c.index_mut.ensures.value c.loop-at.invariant.0 in
    rw (add-one i) (
      (λ j. set (c.loop-at.invariant.0 j) i ((c.ticket-ticket.ensures.home ∙ ap one_out was.0) j)) ∙ mixed_more one_out hs i _ (omega arith),
      c.push_reserved.ensures.items ∙ (λ j. c.loop-at.invariant.1 j ++ (c.ticket-ticket.ensures.ticket ∙ ap (λ (h : HomeView). ticket_of h.mailbox []) was.1 ∙ ap (λ m. ticket_of m []) c.index.ensures) j ∷ []) ∙ sym (map_take_more (λ m. ticket_of m []) ids i e lt),
      search rules,
      search rules,
      search rules,
    )

pub invariant_of-self-2 : goal.invariant_of-self-2
invariant_of-self-2 c =
    let hs = c.self.inside.homes.items in
    let n = c.self.inside.slips in
    let ids : List MailboxId = c.self.inside.shared in
    let end : length hs ≤ c.loop-at.at = search rules in
    let more : c.in_ok-more.more ≡ n + 1 = search rules in
    c.kept.ensures ∙ c.loop-at.invariant.0 ∙ (λ j. map one_out (take_all c.loop-at.at hs end j) ++ drop_all c.loop-at.at hs end j) ∙ append-nil (map one_out hs)
    ∙ ap (map one_out) c.self.invariant ∙ map-map one_out (λ m. home_of m n []) ids ∙ ap (λ k. homes_of k ids) (sym more)

-- tickets by which nothing was posted yet
blank : (ids : List MailboxId) → slip_with (map (λ m. ticket_of m []) ids) ≡ unused ids
blank [] = refl
blank (m ∷ ids) = λ i. slip_of (m ∷ (blank ids i).mailboxes) ([] ∷ (blank ids i).posted)

pub returns-clause-slip : goal.returns-clause-slip
returns-clause-slip c =
    let ids : List MailboxId = c.shared.inside.boxes.items in
    ap slip_with (c.loop-at.invariant.1 ∙ ap (map (λ m. ticket_of m [])) (take_all c.loop-at.at ids (search rules))) ∙ blank ids ∙ ap unused (c.shared.view_is ∙ ap (λ (m : MailboxesView). m.mailboxes) c.self.view_is)
