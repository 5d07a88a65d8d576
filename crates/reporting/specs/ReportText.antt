-- The text of a report.
use Rattle.std.specs.{Prelude.{ℕ, Bool, if◌then◌else◌, Option, None, Some, List, [], ◌∷◌, ◌++◌, length, codes, decimal, true, false}, List.{flat_map, sum_by}, Global.{Vec}}
use Rattle.judges.specs.{Outcomes.{outcomes}, Verdicts.{verdicts}, declared.{outcomes.{Answer.{Answer}, Outcome.{Outcome}}, verdicts.Verdicts.{Verdicts}}}
use Rattle.judges.specs.declared.outcomes.Answer.TheVariants as answer
use Rattle.process_api.specs.{Order.{EntryRecord}, declared.print_choice.PrintChoice.{PrintChoice}}
use Rattle.process_api.specs.declared.print_choice.PrintChoice.TheVariants as choice
use Rattle.scenario_record.specs.{Record.{Record}, declared.algorithm.AlgorithmKind.{AlgorithmKind}}
use Rattle.scenario_record.specs.declared.algorithm.AlgorithmKind.TheVariants as kind
use Rattle.reporting.specs.{Measures.{layers, all_measures}, Rows.{row_of}, TraceText.{trace_text}, declared.pair_measures.{PairMeasures.{PairMeasures}, Detection.{Detection, TheVariants.{Na, NoTick, At}}}}

abbrev pub Text : Type 0
Text = List ℕ

-- the first line: the names of the columns
unfoldable pub report_header : Text
report_header = codes "section,layer,observer,subject,measure,value\n"

-- a row, and rows, of what has no layer, observer or subject 0 in their place; a value comes with its name
unfoldable pub report_row : (section : Text) (layer observer subject : ℕ) → Text × Text → Text
report_row section layer observer subject value =
    row_of (section ∷ decimal layer ∷ decimal observer ∷ decimal subject ∷ value.0 ∷ value.1 ∷ [])

unfoldable pub report_rows : (section : Text) (layer observer subject : ℕ) → List (Text × Text) → Text
report_rows section layer observer subject values = flat_map (report_row section layer observer subject) values

abbrev pub truth_text : Bool → Text
truth_text holds = if holds then codes "yes" else codes "no"

abbrev pub tick_text : Option ℕ → Text
tick_text None = codes "none"
tick_text (Some tick) = decimal tick

abbrev pub detection_text : Detection → Text
detection_text Na = codes "na"
detection_text NoTick = codes "none"
detection_text (At ticks) = decimal ticks

abbrev pub answer_text : Answer → Text
answer_text answer.None = codes "none"
answer_text answer.NoValue = codes "novalue"
answer_text (answer.Value value) = decimal value

-- the run: its entries, its letters, and how many of these were lost
abbrev pub run_values : (entries sent lost : ℕ) → List (Text × Text)
run_values entries sent lost =
    (codes "entries", decimal entries) ∷ (codes "sent", decimal sent) ∷ (codes "lost", decimal lost) ∷ []

abbrev pub run_text : (entries sent lost : ℕ) → Text
run_text entries sent lost = report_rows (codes "run") 0 0 0 (run_values entries sent lost)

abbrev pub verdict_values : Verdicts → List (Text × Text)
verdict_values v = (codes "strong_completeness", tick_text v.strong_completeness)
    ∷ (codes "weak_completeness", tick_text v.weak_completeness)
    ∷ (codes "strong_accuracy", truth_text v.strong_accuracy) ∷ (codes "weak_accuracy", truth_text v.weak_accuracy)
    ∷ (codes "eventual_strong_accuracy", tick_text v.eventual_strong_accuracy)
    ∷ (codes "eventual_weak_accuracy", tick_text v.eventual_weak_accuracy) ∷ []

abbrev pub verdict_text : (layer : ℕ) → Verdicts → Text
verdict_text layer v = report_rows (codes "verdict") layer 0 0 (verdict_values v)

abbrev pub pair_values : PairMeasures → List (Text × Text)
pair_values m = (codes "mistakes", decimal m.mistakes) ∷ (codes "mistake_ticks", decimal m.mistake_ticks)
    ∷ (codes "recurrence_sum", decimal m.recurrence_sum) ∷ (codes "recurrence_count", decimal m.recurrence_count)
    ∷ (codes "duration_sum", decimal m.duration_sum) ∷ (codes "duration_count", decimal m.duration_count)
    ∷ (codes "good_sum", decimal m.good_sum) ∷ (codes "good_count", decimal m.good_count)
    ∷ (codes "detection", detection_text m.detection) ∷ []

unfoldable pub pair_text : PairMeasures → Text
pair_text m = report_rows (codes "pair") m.layer m.observer m.subject (pair_values m)

abbrev pub decision_values : Outcome → List (Text × Text)
decision_values o =
    (codes "value", answer_text o.value) ∷ (codes "tick", tick_text o.tick) ∷ (codes "rounds", decimal o.rounds) ∷ []

abbrev pub decision_text : Outcome → Text
decision_text o = report_rows (codes "decision") 0 o.pid 0 (decision_values o)

-- where there is no algorithm nothing is told of decisions
abbrev pub decisions_text : AlgorithmKind → List Outcome → Text
decisions_text kind.Idle outcomes = []
decisions_text kind.Strong outcomes = flat_map decision_text outcomes
decisions_text kind.EventuallyStrong outcomes = flat_map decision_text outcomes

-- a report's text: a header, and rows of the run, of verdicts by layer, of pairs by layer, and of decisions by process
unfoldable pub report_text : Record → List EntryRecord → Text
report_text S trace = report_header
    ++ (run_text (length trace) (sum_by (λ e. e.sent) trace) (sum_by (λ e. e.lost) trace)
    ++ (flat_map (λ layer. verdict_text layer (verdicts S trace layer)) (layers S)
    ++ (flat_map pair_text (all_measures S trace)
    ++ decisions_text S.algorithm (outcomes trace S.processes))))

-- whether the trace is asked for, and whether the report is
abbrev pub prints_trace : PrintChoice → Bool
prints_trace choice.Trace = true
prints_trace choice.Report = false
prints_trace choice.Both = true

abbrev pub prints_report : PrintChoice → Bool
prints_report choice.Trace = false
prints_report choice.Report = true
prints_report choice.Both = true

-- a text, if there is one
abbrev pub items_of : Option (Vec ℕ) → Text
items_of None = []
items_of (Some text) = text.items

-- the texts of a trace that are asked for
abbrev pub printed : PrintChoice → Record → List EntryRecord → List ℕ
printed choice.Trace S trace = trace_text trace
printed choice.Report S trace = report_text S trace
printed choice.Both S trace = trace_text trace ++ report_text S trace
