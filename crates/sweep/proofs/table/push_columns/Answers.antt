use Rattle.sweep.proofs.Words.{◌≡◌, ◌∙◌, ◌++◌, ap, sym, append_assoc, map, map-append, List, fields_of, on_ok_weaker, number_text, Text, Column, columns_of_detections, columns_of_mistakes, columns_of_outcomes, columns_of_runs, number_of, Columns}
use Rattle.sweep.specs.declared.column_table.Told.{Told}
use Rattle.sweep.proofs.table.push_columns.Goals as goal

abbrev texts : Columns → List Column → List Text
texts its part = map number_text (map (number_of its) (map (λ d. d.1 its) part))

-- the texts of one part more
one_more : (its : Columns) (front part : List Column) (old : List Text) {before after : List Text} → before ≡ old ++ texts its front
    → after ≡ before ++ texts its part → after ≡ old ++ texts its (front ++ part)
one_more its front part old first then =
    let both : texts its (front ++ part) ≡ texts its front ++ texts its part =
    ap (λ t. map number_text (map (number_of its) t)) (map-append (λ d. d.1 its) front part)
    ∙ (ap (map number_text) (map-append (number_of its) (map (λ d. d.1 its) front) (map (λ d. d.1 its) part))
    ∙ map-append number_text (map (number_of its) (map (λ d. d.1 its) front)) (map (number_of its) (map (λ d. d.1 its) part))) in
    then ∙ (ap (λ t. t ++ texts its part) first
    ∙ (append_assoc old (texts its front) (texts its part) ∙ ap (λ t. old ++ t) (sym both)))

pub returns : goal.returns
returns c =
    let its = c.args.columns.now in
    let runs = columns_of_runs c.args.layer in
    let told : List Text → List Told → List Text = λ old told. old ++ map number_text (map (number_of its) told) in
    let first : fields_of c.push_told.new.fields ≡ fields_of c.args.fields.now ++ texts its runs =
    c.in_ok-push_told.ensures ∙ ap (told (fields_of c.args.fields.now)) c.run_columns.ensures.told in
    let second = one_more its runs columns_of_mistakes (fields_of c.args.fields.now) first
    (c.in_ok-push_told-2.ensures ∙ ap (told (fields_of c.push_told.new.fields)) c.mistake_columns.ensures.told) in
    let third = one_more its (runs ++ columns_of_mistakes) columns_of_detections (fields_of c.args.fields.now) second
    (c.in_ok-push_told-3.ensures ∙ ap (told (fields_of c.push_told-2.new.fields)) c.detection_columns.ensures.told) in
    on_ok_weaker c.push_told-4.result (λ fourth. one_more its (runs ++ columns_of_mistakes ++ columns_of_detections) columns_of_outcomes (fields_of c.args.fields.now) third
    (fourth ∙ ap (told (fields_of c.push_told-3.new.fields)) c.outcome_columns.ensures.told)) c.push_told-4.ensures
