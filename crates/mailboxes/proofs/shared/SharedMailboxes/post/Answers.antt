use Rattle.mailboxes.proofs.{Words.{◌≡◌, ◌-◌, ◌++◌, ◌∷◌, [], set, get_or, sym, ap, ◌∙◌, arith, Key, SlipView, slip_of, on_ok_weaker}, Homes.{posted_by}, Rows.{row_more, whose_same}}
use Rattle.mailboxes.proofs.shared.SharedMailboxes.post.Goals as goal

-- the ticket at the receiver's place is changed
pub returns-clause-slip : goal.returns-clause-slip
returns-clause-slip g c =
    whose_same c.slip.inside.tickets.items c.place_of-at.result c.index_mut.result.now c.post.new.ticket c.index_mut.ensures.value c.post.ensures.mailbox ∙ ap (λ (s : SlipView). s.mailboxes) c.slip.view_is ∙ c.requires.slip

pub returns-clause-ok : goal.returns-clause-ok
returns-clause-ok g c =
    let i = c.place_of-at.result in
    let x = c.args.letter in
    let at : i ≡ x.key.receiver - 1 = omega (arith, c.place_of-at.ensures, ap (λ (k : Key). k.receiver) c.key.ensures) in
    let rows = ap (λ (s : SlipView). s.posted) c.slip.view_is in
    on_ok_weaker c.post.result
    (λ p. let more = row_more posted_by c.slip.inside.tickets.items i c.index_mut.result.now c.post.new.ticket c.index_mut.ensures.value (x ∷ []) (ap posted_by p) ∙ (λ j. set (rows j) (at j) (get_or (rows j) (at j) [] ++ x ∷ [])) in
    λ j. slip_of ((returns-clause-slip g c ∙ sym c.requires.slip) j) (more j)) c.post.ensures.ok
