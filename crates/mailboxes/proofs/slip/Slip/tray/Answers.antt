use Rattle.mailboxes.proofs.{Words.{◌≡◌, ◌∙◌, ◌++◌, ◌+◌, ◌∷◌, ℕ, List, [], length, replicate, ap, sym, arith, length-map, map-append, replicate_more, Vec, Letter, TicketView, SlipView, letters_in}, Homes.{items_of, posted_by, slip_with, whose}}
use Rattle.mailboxes.proofs.slip.Slip.tray.Goals as goal

as_many : (s : SlipView) (ts : List TicketView) → slip_with ts ≡ s → length s.posted ≡ length s.mailboxes
as_many s ts is =
    ap (λ (v : SlipView). length v.posted) (sym is) ∙ (length-map ts posted_by ∙ (sym (length-map ts whose) ∙ ap (λ (v : SlipView). length v.mailboxes) is))

-- one empty list more
one_more : (n : ℕ) (old new : List (Vec Letter)) (v : Vec Letter) → letters_in old ≡ replicate n [] → v.items ≡ []
    → new ≡ old ++ v ∷ [] → letters_in new ≡ replicate (n + 1) []
one_more n old new v was none more =
    ap letters_in more ∙ (map-append items_of old (v ∷ []) ∙ ((λ j. was j ++ none j ∷ []) ∙ replicate_more n []))

pub returns-clause-fits : goal.returns-clause-fits
returns-clause-fits c = as_many _ c.self.inside.tickets.items c.self.view_is

pub returns-in_err-lists-clause-fits : goal.returns-in_err-lists-clause-fits
returns-in_err-lists-clause-fits c = as_many _ c.self.inside.tickets.items c.self.view_is

pub loop-preserved : goal.loop-preserved
loop-preserved c =
    let i = c.loop.invariant in
    let more = c.push_reserved.ensures in (
      omega (arith, more.len, i.0),
      omega (arith, more.capacity, i.1),
      one_more c.loop.counter c.loop.lists.items c.push_reserved.new.self.items c.clear.new.self i.2 c.clear.ensures.items more.items,
    )
