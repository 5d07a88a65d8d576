use Rattle.mailboxes.proofs.Words.{◌≡◌, ◌++◌, ◌∷◌, ℕ, List, [], length, map, get_or, sym, ap, ◌∙◌, subst, arith, append_assoc, All, flat_map, into_iter_items, All-tail, All-map, map-map, map-id, Letter, MailboxId, HomeView, home_of, homes_of, MailboxesView, SlipView, IsSlipOf}
use Rattle.mailboxes.proofs.Homes.{mailbox_of, back_of, back-mailboxes, back-out, back-posted, none_back}
use Rattle.mailboxes.proofs.mailboxes.Mailboxes.into_inboxes.Goals as goal

abbrev sent : ℕ → List SlipView → List Letter
sent k ss = flat_map (λ s. get_or s.posted k []) ss

pub loop-slip-init : goal.loop-slip-init
loop-slip-init c =
    let ids : List MailboxId = c.shared.inside.boxes.items in
    let n = c.self.inside.slips in
    let fresh : MailboxId → HomeView = λ m. home_of m n [] in
    let rest = into_iter_items c.into_iter-slip-iterator.result in
    let all : rest ≡ c.args.slips.items = c.into_iter-slip-iterator.ensures.into_iter_gives.0 in
    let of : ids ≡ c.args.self.mailboxes = c.shared.view_is ∙ ap (λ (m : MailboxesView). m.mailboxes) c.self.view_is in
    let are : c.self.inside.homes.items ≡ homes_of n ids = c.self.invariant ∙ ap (homes_of n) (sym c.shared.view_is) in
    let many : n ≡ length rest = omega (arith, ap (λ (m : MailboxesView). m.slips) c.self.view_is, c.requires.all, c.args.slips.ok.0, ap length all) in
    record {
      of = ap (map mailbox_of) are ∙ map-map mailbox_of fresh ids ∙ map-id ids;
      slips = subst (λ (p : List MailboxId × List SlipView). All (IsSlipOf p.0) p.1) (λ i. (sym of i, sym all i)) c.requires.slips;
      out = subst (All (λ h. h.out ≡ length rest)) (sym are) (All-map (λ (h : HomeView). h.out ≡ length rest) fresh ids (λ k d lt. many));
      letters = λ k. ap (λ l. get_or (map back_of l) k [] ++ sent k rest) are ∙ ap (λ l. l ++ sent k rest) (none_back n k ids) ∙ ap (sent k) all;
    }

pub loop-slip-preserved : goal.loop-slip-preserved
loop-slip-preserved c =
    let i = c.loop-slip.invariant in
    let hs = c.loop-slip.homes.items in
    let s = c.in-Some.slip in
    let rest = into_iter_items c.next.new.self in
    let e : into_iter_items c.loop-slip.slip-iterator ≡ s ∷ rest = c.in-Some.ensures.steps.0 in
    let is = c.take_back.ensures.homes in
    let fits : length s.posted ≡ length hs = c.take_back.ensures.lists ∙ c.loop-slip.homes.ok.0 in
    record {
      of = ap (map mailbox_of) is ∙ back-mailboxes hs s.posted ∙ i.of;
      slips = All-tail (IsSlipOf c.shared.inside.boxes.items) s rest (subst (All (IsSlipOf c.shared.inside.boxes.items)) e i.slips);
      out = subst (All (λ h. h.out ≡ length rest)) (sym is) (back-out _ (length rest) hs s.posted (ap length e) fits i.out);
      letters = λ k.
          ap (λ l. get_or (map back_of l) k [] ++ sent k rest) is ∙ ap (λ l. l ++ sent k rest) (back-posted k hs s.posted fits)
          ∙ append_assoc (get_or (map back_of hs) k []) (get_or s.posted k []) (sent k rest) ∙ ap (λ l. get_or (map back_of hs) k [] ++ sent k l) (sym e) ∙ i.letters k;
    }
