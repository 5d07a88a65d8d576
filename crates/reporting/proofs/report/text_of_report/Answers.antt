use Rattle.reporting.proofs.Words.{append_assoc, found_text, report_header}
use Rattle.reporting.proofs.report.text_of_report.Goals as goal

pub returns : goal.returns
unfolding found_text report_header
returns c =
    simp append_assoc
    (simp (c.in_ok-rows.ensures.text, c.in_ok-push_run.ensures.text, c.in_ok-push_layers.ensures.text, c.in_ok-push_pairs.ensures.text, c.in_ok-push_decisions.ensures.text, c.deref.ensures.value, c.deref-2.ensures.value, append_assoc)
    at c.into_text.ensures)
