use Rattle.reporting.proofs.{Words.{rules, ◌≡◌, [], ◌∙◌, text_of, front_of, value_text}, Fronts.{one_more}}
use Rattle.reporting.specs.declared.values.Value.TheVariants.{Number}
use Rattle.reporting.proofs.report_rows.push_values.Goals as goal

pub loop-name-preserved : goal.loop-name-preserved
loop-name-preserved c =
    let front : c.deref.result.now ≡ front_of c.args.about = search rules in
    let text = one_more c.args.about (λ v. (v.0.now, value_text v.1)) c.args.values.now c.loop-name.name-index
    (record { ref_ptr = (0, 0); now = [] }, Number 0) (text_of c.args.rows.now) c.loop-name-test.true front c.as_bytes.ensures.value
    (c.as_bytes-in-loop-name.ensures.value ∙ c.text-text.ensures) c.loop-name.invariant.text
    c.in_ok-push.ensures.text in
    record { front = search rules; between = search rules; text = text }
