use Rattle.reporting.proofs.report_rows.push_verdicts.Goals as goal

pub returns-clause-text : goal.returns-clause-text
returns-clause-text c =
    simp (c.of_tick.ensures, c.of_tick-2.ensures, c.of_tick-3.ensures, c.of_tick-4.ensures, c.of_truth.ensures, c.of_truth-2.ensures)
    at c.push_values.ensures.text
