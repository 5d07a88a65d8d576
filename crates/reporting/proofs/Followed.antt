-- Whoever follows a run, as it is put together: fed with nothing, and told of a trace.
use Rattle.reporting.proofs.Words.{◌≡◌, ℕ, Bool, true, false, sym, ap, subst, is_some, Option, List, [], ◌++◌, append-nil, HasFollowedWhere, same_where, then_where, EntryRecord, Record, prints_report, prints_trace, AreLayers, IsLayer, IsMeasuring, IsRecording, IsRunning, IsSumming, LayerFollowed, LayersFollowed, Running, RunningFollowed, SummingFollowed, Holds, rows_text, trace_header, trace_text, Counts}
use Rattle.process_api.specs.{Order.{is_rising}, declared.print_choice.PrintChoice.{PrintChoice}}
use Rattle.judges.specs.declared.outcomes.RunningOutcomes.{RunningOutcomes}
use Rattle.reporting.specs.declared.{layer.Layer.{Layer}, trace_text.TraceText.{TraceText}}

abbrev Summing : Type 0
Summing = Counts × RunningOutcomes

abbrev Layers : Type 0
Layers = Layer × Option Layer

abbrev pub MeasuringFollowed : (first now : Summing × Layers) → List EntryRecord → Type 0
MeasuringFollowed first now told = SummingFollowed first.0 now.0 told × LayersFollowed first.1 now.1 told

abbrev pub TextFollowed : (first now : TraceText) → List EntryRecord → Type 0
TextFollowed first now told = (text : List ℕ) → Holds first text → Holds now (text ++ rows_text told)

abbrev pub RecordingFollowed : (first now : Running × Option TraceText) → List EntryRecord → Type 0
RecordingFollowed first now told = RunningFollowed first.0 now.0 told × HasFollowedWhere TextFollowed first.1 now.1 told

-- ---- told of nothing

summing_same : (s : Summing) → SummingFollowed s s []
summing_same s = (λ h. h, λ n h. h)

layer_same : (l : Layer) → LayerFollowed l l []
layer_same l = λ listed S layer h rises. h

layers_same : (l : Layers) → LayersFollowed l l []
layers_same l = (layer_same l.0, same_where LayerFollowed [] layer_same l.1)

pub running_same : (r : Running) → RunningFollowed r r []
running_same r = (summing_same r.0, same_where LayersFollowed [] layers_same r.1)

pub measuring_same : (m : Summing × Layers) → MeasuringFollowed m m []
measuring_same m = (summing_same m.0, layers_same m.1)

pub text_same : (t : TraceText) → TextFollowed t t []
text_same t text held = subst (Holds t) (sym (append-nil text)) held

pub recording_same : (r : Running × Option TraceText) → RecordingFollowed r r []
recording_same r = (running_same r.0, same_where TextFollowed [] text_same r.1)

-- ---- told of a trace

pub text_told : (first now : TraceText) (told : List EntryRecord) → TextFollowed first now told → Holds first (trace_text []) → Holds now (trace_text told)
unfolding trace_text
text_told first now told is opened =
    subst (Holds now) (ap (λ t. t ++ rows_text told) (append-nil trace_header)) (is (trace_text []) opened)

module _ (S : Record) (told : List EntryRecord) (rises : is_rising told ≡ true) where
  summing_told : (first now : Summing) → SummingFollowed first now told → IsSumming S [] first → IsSumming S told now
  summing_told first now followed h = (followed.0 h.0, followed.1 S.processes h.1)

  layers_told : (listed : Bool) (first now : Layers) → LayersFollowed first now told → AreLayers listed S [] first → AreLayers listed S told now
  layers_told listed first now followed h = (
    followed.0 listed S 1 h.0 rises,
    then_where LayerFollowed told (IsLayer listed S 2 []) (IsLayer listed S 2 told) (λ f g layer was. layer listed S 2 was rises) (is_some S.share) first.1 now.1 followed.1 h.1,
  )

  pub measuring_told : (listed : Bool) (first now : Summing × Layers) → MeasuringFollowed first now told → IsMeasuring listed S [] first → IsMeasuring listed S told now
  measuring_told listed first now followed h = (summing_told first.0 now.0 followed.0 h.0, layers_told listed first.1 now.1 followed.1 h.1)

  pub running_told : (reported : Bool) (first now : Running) → RunningFollowed first now told → IsRunning S [] reported first → IsRunning S told reported now
  running_told reported first now followed h = (
    summing_told first.0 now.0 followed.0 h.0,
    then_where LayersFollowed told (AreLayers false S []) (AreLayers false S told) (layers_told false) reported first.1 now.1 followed.1 h.1,
  )

  pub recording_told : (print : PrintChoice) (first now : Running × Option TraceText) → RecordingFollowed first now told → IsRecording S print [] first → IsRecording S print told now
  recording_told print first now followed h = (
    running_told (prints_report print) first.0 now.0 followed.0 h.0,
    then_where TextFollowed told (λ t. Holds t (trace_text [])) (λ t. Holds t (trace_text told)) (λ f g. text_told f g told) (prints_trace print) first.1 now.1 followed.1 h.1,
  )
