use Rattle.reporting.proofs.{Words.{◌≡◌, ◌∙◌, ◌++◌, ◌∷◌, sym, ap, flat_map, note_text, notes_text}, Fed.{on_ok}, Joining.{notes_text_none, notes_text_first}}
use Rattle.reporting.proofs.notes.form_notes.Goals as goal

pub returns-in-None-clause-text : goal.returns-in-None-clause-text
returns-in-None-clause-text c = c.clear.ensures.items ∙ sym (notes_text_none c.args.notes.now c.in-None.ensures.cases)

pub returns-in-Some-clause-text : goal.returns-in-Some-clause-text
returns-in-Some-clause-text c =
    let first = c.in-Some.first.now in
    let others = c.in-Some.others.now in
    let whole : notes_text c.args.notes.now ≡ notes_text (first ∷ others) = ap notes_text c.in-Some.ensures.cases.0 in
    on_ok c.append_notes.result
    (λ is. is ∙ ap (λ t. t ++ (note_text first ++ flat_map (λ n. 32 ∷ note_text n) others)) c.clear.ensures.items ∙ sym (whole ∙ notes_text_first first others))
    c.append_notes.ensures.text
