-- What is kept and told of the pairs on a layer, whatever trace it was that they were fed with.
use Rattle.std.specs.Prelude.{◌≡◌, ℕ, Bool, true, Option, is_some, List, [], ◌∷◌, ◌++◌}
use Rattle.{process_api.specs.Order.{EntryRecord}, scenario_record.specs.Record.{Record}, judges.specs.{Verdicts.{verdicts}, declared.{pairs.Pairs.{Pairs}, verdicts.Verdicts.{Verdicts}}}}
use Rattle.reporting.specs.{Durations.{AreDurations, AreFollowing}, Running.{second_verdicts, IsLayer, IsSecond}, Measures.{layer_measures, second_measures}, LayerPairs.{IsMetering}}
use Rattle.reporting.specs.declared.{durations.Durations.{Durations}, layer.Layer.{Layer}, pair_measures.PairMeasures.{PairMeasures}, tally.Tally.{Tally}}

module _ (pairs : Pairs Tally) where
  -- the measures of all pairs join the others
  abbrev pub JoinMeasures : (old new : List PairMeasures) → Type 0
  JoinMeasures old new = (S : Record) (layer : ℕ) (trace : List EntryRecord) → IsMetering S layer trace pairs
      → new ≡ old ++ layer_measures S trace layer

  -- the lengths, which followed the pairs, do so with the last entry too
  abbrev pub FollowOn : EntryRecord → (old new : Durations) → Type 0
  FollowOn entry old new = (S : Record) (layer : ℕ) (trace : List EntryRecord) → AreFollowing S layer trace old
      → IsMetering S layer (trace ++ entry ∷ []) pairs → AreFollowing S layer (trace ++ entry ∷ []) new

  -- no entry follows
  abbrev pub AreClosed : (old new : Durations) → Type 0
  AreClosed old new = (S : Record) (layer : ℕ) (trace : List EntryRecord) → AreFollowing S layer trace old
      → IsMetering S layer trace pairs → AreDurations S layer trace new

-- a layer's verdicts, lengths and measures
module _ (l : Layer) where
  abbrev pub AreVerdicts : Verdicts → Type 0
  AreVerdicts told =
      (listed : Bool) (S : Record) (layer : ℕ) (trace : List EntryRecord) → IsLayer listed S layer trace l
      → told ≡ verdicts S trace layer

  abbrev pub AreLengths : Durations → Type 0
  AreLengths told = (S : Record) (layer : ℕ) (trace : List EntryRecord) → IsLayer true S layer trace l
      → AreDurations S layer trace told

  abbrev pub HaveMeasures : (old new : List PairMeasures) → Type 0
  HaveMeasures old new =
      (listed : Bool) (S : Record) (layer : ℕ) (trace : List EntryRecord) → IsLayer listed S layer trace l
      → new ≡ old ++ layer_measures S trace layer

-- those of layer 2, where there is a reduction
module _ (second : Option Layer) where
  abbrev pub AreSecondVerdicts : Option Verdicts → Type 0
  AreSecondVerdicts told = (listed : Bool) (S : Record) (trace : List EntryRecord) → IsSecond listed S trace second
      → told ≡ second_verdicts S trace

  abbrev pub AreSecondLengths : Durations → Type 0
  AreSecondLengths told =
      (S : Record) (trace : List EntryRecord) → IsSecond true S trace second → is_some S.share ≡ true
      → AreDurations S 2 trace told

  abbrev pub HaveSecondMeasures : (old new : List PairMeasures) → Type 0
  HaveSecondMeasures old new = (listed : Bool) (S : Record) (trace : List EntryRecord) → IsSecond listed S trace second
      → new ≡ old ++ second_measures S trace
