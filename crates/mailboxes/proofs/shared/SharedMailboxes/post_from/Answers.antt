use Rattle.mailboxes.proofs.{Words.{rules, ◌<◌, [], ◌∷◌, ◌++◌, ◌+◌, length, take, set, ap, ◌∙◌, arith, length-map, map-set, SlipView, letters_in, replicate_more, take_more_set}, Homes.{posted_by, items_of}, Rows.{whose_same, total_same}}
use Rattle.mailboxes.proofs.shared.SharedMailboxes.post_from.Goals as goal

pub returns-in_err-post_list-clause-slip : goal.returns-in_err-post_list-clause-slip
returns-in_err-post_list-clause-slip g c =
    whose_same c.loop-at.tickets.items c.loop-at.at c.index_mut.result.now _ c.index_mut.ensures.value c.post_list.ensures.mailbox ∙ c.loop-at.invariant.0 ∙ ap (λ (s : SlipView). s.mailboxes) c.slip.view_is ∙ c.requires.slip

pub loop-at-preserved : goal.loop-at-preserved
loop-at-preserved g c =
    let ts = c.loop-at.tickets.items in
    let ls = c.loop-at.lists.items in
    let i = c.loop-at.at in
    let inv = c.loop-at.invariant in
    let is = c.in_ok-post_list.ensures in
    let le : i < length ls = search rules in
    let old = c.index_mut.ensures.value in (
      whose_same ts i c.index_mut.result.now c.post_list.new.ticket old is.mailbox ∙ inv.0,
      total_same ts ls i _ _ _ c.post_list.new.letters old c.index_mut-in-loop-at.ensures.value le (ap posted_by is.ok) is.empty ∙ inv.1,
      λ e. ap (take (i + 1)) (map-set items_of ls i c.post_list.new.letters ∙ ap (set (letters_in ls) i) is.empty) ∙ take_more_set (letters_in ls) i [] (omega (arith, le, length-map ls items_of))
          ∙ ap (λ l. l ++ [] ∷ []) (inv.2 e) ∙ replicate_more i [],
      inv.3,
    )
