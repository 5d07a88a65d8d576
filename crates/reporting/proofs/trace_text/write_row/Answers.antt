use Rattle.reporting.proofs.{Words.{◌≡◌, ◌≢◌, ◌∙◌, ◌++◌, ap, subst, arith, default_writer, row_text, writer_setup, ArePlain, kind_text, written}, NoQuotes.{plain_name}, PlainRows.{row_text-bare}, trace_text.write_row.Goals.{in-Ok, in-Err}}
use Rattle.csv.specs.declared.writer.QuoteStyle.TheVariants as style
use Rattle.reporting.specs.Inside.RowTexts.{texts_of}
use Rattle.reporting.proofs.trace_text.write_row.Goals as goal

pub returns-clause-text : goal.returns-clause-text
returns-clause-text c =
    let its = c.args.fields.now in
    let kind = kind_text c.args.kind in
    let texts = c.row_in.ensures.texts ∙ ap (texts_of its) c.name_of_kind.ensures.text in
    elim c.match-written.branch [
      | in-Ok w ↦ rw w.result-is (λ plain between.
          let other : (writer_setup c.args.writer.now).style ≢ style.NonNumeric = λ e. (let needed : style.Necessary ≡ style.NonNumeric = rw between.setup at e in cc) in
          let appended = rw between.setup at (w.in-Ok.ensures.bytes between.fields between.wrote other) in
          let all_plain = subst ArePlain texts (c.row_in.ensures.plain plain (plain_name _ _ c.name_of_kind.ensures.text)) in
          let row = ap (row_text default_writer) texts ∙ row_text-bare (texts_of its kind) (omega arith) all_plain in
          appended ∙ ap (λ r. written c.args.writer.now ++ r) row)
      | in-Err w ↦ rw w.result-is tt
    ]
