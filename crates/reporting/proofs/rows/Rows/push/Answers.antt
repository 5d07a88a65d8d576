use Rattle.reporting.proofs.{Words.{◌≡◌, ◌≢◌, ◌∙◌, ◌++◌, ap, map, length-map, text_of}, PlainRows.{row_text-plain}, rows.Rows.push.Goals.{in-Ok, in-Err}}
use Rattle.csv.specs.declared.writer.QuoteStyle.TheVariants as style
use Rattle.reporting.proofs.rows.Rows.push.Goals as goal

pub returns-clause-text : goal.returns-clause-text
returns-clause-text c = elim c.match-write_fields.branch [
  | in-Ok w ↦
      let fields = map (λ f. f.now) c.args.fields.now in
      let setup = c.requires.between.setup in
      let other : c.args.self.now.writer.cfg.style ≢ style.NonNumeric = λ e. (let never : style.Never ≡ style.NonNumeric = rw setup at e in cc) in
      let appended = rw setup at (w.in-Ok.ensures.bytes c.requires.between.fields c.requires.between.wrote other) in
      rw w.result-is (appended ∙ ap (λ r. text_of c.args.self.now ++ r) (row_text-plain fields (simp length-map c.requires.fields)))
  | in-Err w ↦ rw w.result-is tt
]
