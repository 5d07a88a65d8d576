-- Worked runs: what the definitions give of them, by computing.
use Rattle.reporting.proofs.Words.{◌≡◌, ℕ, List, [], ◌∷◌, refl, Option, Some, None, EntryRecord, Note, Record, pair_durations, pair_measures, layer_measures, all_measures, Na, NoTick, At}
use Rattle.process_api.specs.declared.action.Note.TheVariants.{Suspect, Trust}
use Rattle.process_api.specs.declared.entry.Kind.TheVariants as kind
use Rattle.process_api.specs.declared.numbers.DetectorNumbers.TheVariants as numbers
use Rattle.process_api.specs.declared.numbers.Watch.TheVariants as watch
use Rattle.scenario_record.specs.declared.algorithm.AlgorithmKind.TheVariants as algorithm
use Rattle.reporting.specs.declared.pair_measures.{PairMeasures.{PairMeasures}, Detection.{Detection}}

-- a step with these notes; no measure reads its kind or its counts
abbrev step : (tick receiver sender number : ℕ) → List Note → EntryRecord
step tick receiver sender number notes = record {
  key = record { tick = tick; receiver = receiver; sender = sender; number = number };
  kind = kind.Check;
  sent = 0;
  lost = 0;
  notes = notes;
}

-- a scenario; no measure reads more of it
abbrev scenario : (processes horizon : ℕ) → (share : Option ℕ) → (crashes : List (Option ℕ)) → Record
scenario processes horizon share crashes = record {
  processes = processes;
  horizon = horizon;
  lookahead = 2;
  limit = 1000000;
  seed = 1;
  algorithm = algorithm.Idle;
  detector = numbers.Timeout (record { period = 4; check = 3; timeout = 5; grow = 1; watch = watch.All });
  share = share;
  proposals = [];
  crashes = crashes;
  links = [];
  outages = [];
}

-- a pair of which nothing is counted
abbrev quiet : (layer observer subject : ℕ) → Detection → PairMeasures
quiet layer observer subject detection = record {
  layer = layer;
  observer = observer;
  subject = subject;
  mistakes = 0;
  mistake_ticks = 0;
  recurrence_sum = 0;
  recurrence_count = 0;
  duration_sum = 0;
  duration_count = 0;
  good_sum = 0;
  good_count = 0;
  detection = detection;
}

-- process 2 crashes at tick 3, and process 1 suspects it from tick 9 on
one_crash : all_measures (scenario 2 10 None (None ∷ Some 3 ∷ [])) (step 9 1 1 5 (Suspect 1 2 ∷ []) ∷ []) ≡ quiet 1 1 2 (At 6) ∷ quiet 1 2 1 Na ∷ []
unfolding all_measures layer_measures pair_measures
one_crash = refl

-- a suspicion that is taken back in its tick, and one that lasts from tick 4 to the horizon
taken_back : all_measures (scenario 2 8 None (None ∷ None ∷ [])) (step 2 1 1 2 (Suspect 1 2 ∷ []) ∷ step 2 1 2 1 (Trust 1 2 ∷ []) ∷ step 4 2 2 3 (Suspect 1 1 ∷ []) ∷ [])
    ≡ quiet 1 1 2 Na ∷ record (quiet 1 2 1 Na) { mistakes = 1; mistake_ticks = 4 } ∷ []
unfolding all_measures layer_measures pair_measures
taken_back = refl

-- process 1 suspects process 2 at tick 1, trusts it at tick 2 and suspects it again from tick 4 on
two_mistakes : pair_measures (scenario 2 10 None (None ∷ None ∷ [])) (step 1 1 1 2 (Suspect 1 2 ∷ []) ∷ step 2 1 2 1 (Trust 1 2 ∷ []) ∷ step 4 1 1 7 (Suspect 1 2 ∷ []) ∷ []) 1 1 2
    ≡ record (quiet 1 1 2 Na) { mistakes = 2; mistake_ticks = 7; recurrence_sum = 3; recurrence_count = 1; duration_sum = 1; duration_count = 1; good_sum = 2; good_count = 1 }
unfolding pair_measures
two_mistakes = refl

-- process 2 crashes at tick 0. Each process watches the next one, and shares whom it suspects
shared : all_measures (scenario 3 20 (Some 4) (None ∷ Some 0 ∷ None ∷ [])) (step 6 1 1 5 (Suspect 1 2 ∷ []) ∷ step 9 1 1 11 (Suspect 2 2 ∷ []) ∷ step 10 3 1 6 (Suspect 2 2 ∷ []) ∷ [])
    ≡ quiet 1 1 2 (At 6) ∷ quiet 1 1 3 Na ∷ quiet 1 2 1 Na ∷ quiet 1 2 3 Na ∷ quiet 1 3 1 Na ∷ quiet 1 3 2 NoTick
    ∷ quiet 2 1 2 (At 9) ∷ quiet 2 1 3 Na ∷ quiet 2 2 1 Na ∷ quiet 2 2 3 Na ∷ quiet 2 3 1 Na ∷ quiet 2 3 2 (At 10) ∷ []
unfolding all_measures layer_measures pair_measures
shared = refl

-- the timeline of docs/measures.md: process 1 suspects process 2 at ticks 2 and 3, at ticks 7 to 9, and from tick 14 on
abbrev timeline : List EntryRecord
timeline = step 2 1 1 1 (Suspect 1 2 ∷ []) ∷ step 4 1 2 1 (Trust 1 2 ∷ []) ∷ step 7 1 1 2 (Suspect 1 2 ∷ []) ∷ step 10 1 2 2 (Trust 1 2 ∷ []) ∷ step 14 1 1 3 (Suspect 1 2 ∷ []) ∷ []

crash_at_12 : pair_measures (scenario 2 16 None (None ∷ Some 12 ∷ [])) timeline 1 1 2
    ≡ record (quiet 1 1 2 (At 2)) { mistakes = 2; mistake_ticks = 5; recurrence_sum = 5; recurrence_count = 1; duration_sum = 5; duration_count = 2; good_sum = 3; good_count = 1 }
unfolding pair_measures
crash_at_12 = refl

no_crash : pair_measures (scenario 2 16 None (None ∷ None ∷ [])) timeline 1 1 2
    ≡ record (quiet 1 1 2 Na) { mistakes = 3; mistake_ticks = 7; recurrence_sum = 12; recurrence_count = 2; duration_sum = 5; duration_count = 2; good_sum = 7; good_count = 2 }
unfolding pair_measures
no_crash = refl

-- the two mistakes that ended lasted from tick 2 to 4 and from 7 to 10; the third goes on
each_duration : pair_durations (scenario 2 16 None (None ∷ None ∷ [])) timeline 1 1 2 ≡ 2 ∷ 3 ∷ []
each_duration = refl
