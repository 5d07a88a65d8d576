-- The text of a report, from what was found of a run.
use Rattle.std.specs.{Prelude.{Option, None, Some, [], ◌++◌, ℕ, List, ◌∷◌, decimal}, List.{flat_map, join_with_byte}}
use Rattle.{judges.specs.declared.verdicts.Verdicts.{Verdicts}, scenario_record.specs.declared.algorithm.AlgorithmKind.{AlgorithmKind}}
use Rattle.reporting.specs.{ReportText.{Text, report_header, run_text, verdict_text, pair_text, decisions_text, report_rows}, Rows.{comma}}
use Rattle.reporting.specs.declared.{findings.RunFindings.{RunFindings}, report_rows.About.{About}, values.Value.{Value, TheVariants.{Number, Count, Sum, Word}}}

-- the verdicts on layer 2, where there is a reduction
abbrev pub second_text : Option Verdicts → Text
second_text None = []
second_text (Some v) = verdict_text 2 v

abbrev pub layers_text : RunFindings → Text
layers_text f = verdict_text 1 f.first ++ second_text f.second

unfoldable pub found_text : AlgorithmKind → RunFindings → Text
found_text algorithm f = report_header
    ++ (run_text f.summary.entries f.summary.sent f.summary.lost
    ++ (layers_text f
    ++ (flat_map pair_text f.measures.items ++ decisions_text algorithm f.summary.outcomes.items)))

-- the text of a report's value, and of the rows of values
abbrev pub value_text : Value → List ℕ
value_text (Number number) = decimal number
value_text (Count count) = decimal count
value_text (Sum sum) = decimal sum
value_text (Word word) = word.now

-- the fields that all rows of one subject begin with
abbrev pub front_of : About → Text
front_of a = join_with_byte comma (a.section.now ∷ decimal a.layer ∷ decimal a.observer ∷ decimal a.subject ∷ [])

-- the rows of values with their names
abbrev pub rows_about : About → List (Text × Text) → Text
rows_about a values = report_rows a.section.now a.layer a.observer a.subject values
