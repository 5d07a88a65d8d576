use Rattle.reporting.specs.ReportText.{pair_text}
use Rattle.reporting.proofs.report_rows.push_pair.Goals as goal

pub returns-clause-text : goal.returns-clause-text
unfolding pair_text
returns-clause-text c =
    simp (c.of_detection.ensures, c.number.ensures.value, c.number-2.ensures.value) at c.push_values.ensures.text
