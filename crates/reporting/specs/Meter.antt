-- The steps of a meter.
use Rattle.std.specs.Prelude.{ℕ, false, ◌&&◌, ◌==◌, nat_lt, if◌then◌else◌, Option, None, Some, ◌≡◌, List, [], ◌∷◌, ◌++◌}
use Rattle.{process_api.specs.Order.{EntryRecord}, scenario_record.specs.Record.{Record}, judges.specs.{Out.{crash_tick, end_of}, Turns.{kept_at}, Pairs.{AreFrom, AreUntil, fed}}}
use Rattle.reporting.specs.{Measures.{is_measured}, Tally.{counted, new_tally, told}, declared.{meter.Meter.{Meter}, pair_measures.PairMeasures.{PairMeasures}}}

abbrev pub opened : Record → (layer q p : ℕ) → Meter
opened S layer q p = record {
  layer = layer;
  observer = q;
  subject = p;
  horizon = S.horizon;
  crash = if is_measured S q p then Some (crash_tick S p) else None;
  pair = record { end = end_of S q p; current = false; kept = new_tally };
}

-- the subject's crash, from the ticks up to which the two are up, cut at the horizon, if its detection is measured
abbrev pub crash_between : (observer_end subject_end horizon : ℕ) → Option ℕ
crash_between observer_end subject_end horizon =
    if nat_lt subject_end horizon && observer_end == horizon then Some subject_end else None

-- no entry follows
abbrev pub closed : Meter → PairMeasures
closed m = told m.layer m.observer m.subject m.crash (kept_at counted m.horizon m.pair)

-- ---- what it is that one meter was fed with the entries of a trace

-- it stands for observer q and subject p
pub record IsFed (S : Record) (layer q p : ℕ) (trace : List EntryRecord) (m : Meter) : Type 0 where
  pub same_layer : m.layer ≡ layer
  pub observer : m.observer ≡ q
  pub subject : m.subject ≡ p
  pub horizon : m.horizon ≡ S.horizon
  pub crash : m.crash ≡ (if is_measured S q p then Some (crash_tick S p) else None)
  pub in_order : AreFrom 0 trace
  pub pair : m.pair ≡ fed counted S layer q p new_tally trace

-- whatever a meter was fed with up to an entry's tick, it was fed with that entry too
abbrev pub WasFed : EntryRecord → (old new : Meter) → Type 0
WasFed entry old new = (S : Record) (layer q p : ℕ) (trace : List EntryRecord) → IsFed S layer q p trace old
    → AreUntil trace entry.key.tick → IsFed S layer q p (trace ++ entry ∷ []) new
