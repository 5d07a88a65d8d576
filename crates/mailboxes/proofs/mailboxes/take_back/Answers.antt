use Rattle.mailboxes.proofs.Words.{◌≡◌, ◌<◌, List, refl, map, length, get_or, sym, ap, ◌∙◌, subst, arith, length-map, All-get_or, get_or-map, MailboxId, TicketView, HomeView, one_back, SlipView, with-nil, with-length, length_more, turn_at, turn_more}
use Rattle.mailboxes.proofs.{Homes.{mailbox_of, whose, posted_by}, mailboxes.take_back.Goals.{In-Some}}
use Rattle.std.proofs.lemmas.Iterator.{Adapters.{YieldsList-from_vec}, Consumers.{YieldsList-turn}}
use Rattle.mailboxes.proofs.mailboxes.take_back.Goals as goal

pub loop-ticket-init : goal.loop-ticket-init
loop-ticket-init c = (tt, tt, refl, sym (with-nil one_back _))

-- the ticket at hand, and that there is a pass for it
turn : (c : In-Some) → let ys = c.loop-ticket.yielded in (length ys < length c.args.homes.now.items) × ((e : MailboxId) → c.in-Some.ticket.mailbox ≡ get_or c.args.boxes.now.items (length ys) e)
turn c =
    let b = c.into_iter-ticket-iterator.ensures.into_iter_gives in
    let ts : List TicketView = c.slip.inside.tickets.items in
    let ys = c.loop-ticket.yielded in
    let t = c.in-Some.ticket in
    let at : (length ys < length ts) × (t ≡ get_or ts (length ys) t) =
    YieldsList-turn (YieldsList-from_vec ts b.0 (b.1 ∙ c.slip.inside.tickets.ok.0)) ys c.loop-ticket.ticket-iterator c.loop-ticket.yielded_by c.next.result c.next.new.self t c.in-Some.is c.next.ensures.steps in
    let mine : map whose ts ≡ c.args.boxes.now.items = ap (λ (s : SlipView). s.mailboxes) c.slip.view_is ∙ c.requires.slip in (
      omega (arith, at.0, length-map ts whose, ap length mine, ap length c.requires.homes, length-map c.args.homes.now.items mailbox_of),
      λ e. ap whose at.1 ∙ sym (get_or-map whose ts (length ys) t e at.0) ∙ ap (λ l. get_or l (length ys) e) mine,
    )

pub index_mut-requires : goal.index_mut-requires
index_mut-requires c =
    omega (arith, (turn c.before.before).0, c.loop-ticket.invariant.2, c.loop-ticket.homes.ok.0, ap length c.loop-ticket.invariant.3, with-length one_back c.args.homes.now.items (map posted_by c.loop-ticket.yielded))

pub take_back-requires : goal.take_back-requires
take_back-requires c =
    let hs = c.args.homes.now.items in
    let ys = c.loop-ticket.yielded in
    let d = c.index_mut.result.now in
    let e : MailboxId = c.index.result.now in
    let inv = c.loop-ticket.invariant in
    let here = turn c.before.before.before in
    let was : d ≡ get_or hs (length ys) d = turn_at one_back posted_by hs c.loop-ticket.homes.items ys c.loop-ticket.at d c.index_mut.ensures.value inv.3 inv.2 in
    let box : get_or c.args.boxes.now.items (length ys) e ≡ e = (λ j. get_or c.args.boxes.now.items (sym inv.2 j) e) ∙ sym c.index.ensures in
    record {
      home = ap mailbox_of was ∙ sym (get_or-map mailbox_of hs (length ys) d e here.0) ∙ ap (λ l. get_or l (length ys) e) c.requires.homes ∙ box;
      ticket = here.1 e ∙ box;
      out = subst (λ (h : HomeView). 0 < h.out) (sym was) (All-get_or (λ (h : HomeView). 0 < h.out) hs (length ys) d here.0 c.requires.out);
    }

pub loop-ticket-preserved : goal.loop-ticket-preserved
loop-ticket-preserved c =
    let i = c.loop-ticket.invariant in
    let t = c.in-Some.ticket in (
      tt,
      tt,
      length_more c.loop-ticket.yielded t c.loop-ticket.at i.2,
      turn_more one_back posted_by c.args.homes.now.items c.loop-ticket.homes.items c.loop-ticket.yielded c.loop-ticket.at c.index_mut.result.now c.index_mut.ensures.value i.3 i.2 t c.take_back.new.home (turn c.before.before.before.before.before).0 c.take_back.ensures,
    )
