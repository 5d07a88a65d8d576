use Rattle.mailboxes.proofs.{Words.{◌++◌, length, refl, sym, ap, ◌∙◌, slip_of, each_with}, Rows.{with_nothing}}
use Rattle.mailboxes.proofs.shared.SharedMailboxes.post_all.Goals as goal

pub returns-clause-ok : goal.returns-clause-ok
returns-clause-ok g c =
    let new = c.post_from-2.new.slip in
    let is = c.in_ok-post_from-2.ensures in
    λ j. slip_of ((is.slip ∙ sym c.requires.slip) j) ((sym (with_nothing new.posted (length c.post_from.new.tray)) ∙ ap (each_with (◌++◌) new.posted) (sym (is.empty refl)) ∙ is.same ∙ c.in_ok-post_from.ensures.same) j)
