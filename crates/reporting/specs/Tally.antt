-- The steps of a tally, which counts as a suspicion starts, goes on and ends, and what it tells.
use Rattle.std.specs.{Prelude.{ℕ, ◌+◌, ◌-◌, ◌*◌, ◌^◌, ◌<◌, ◌≤◌, min, Bool, false, if◌then◌else◌, nat_lt, Option, None, Some, unwrap_or}, Option.{ForSome}}
use Rattle.{judges.specs.declared.track.Track.{Track}, reporting.specs.{Measures.{delay_after}, declared.{pair_measures.{Detection.{Detection, TheVariants.{Na}}, PairMeasures.{PairMeasures}}, tally.{Distances.{Distances}, Tally.{Tally}}}}}

-- an amount of the distance from a tick, if there is one, to a tick below the end
abbrev pub gain : (ℕ → ℕ) → (from : Option ℕ) → (to end : ℕ) → ℕ
gain amount None to end = 0
gain amount (Some s) to end = if nat_lt to end then amount (to - s) else 0

abbrev pub grown : Distances → (from : Option ℕ) → (to end : ℕ) → Distances
grown d from to end = record { sum = d.sum + gain (λ n. n) from to end; count = d.count + gain (λ n. 1) from to end }

-- nothing is counted
abbrev pub new_tally : Tally
new_tally = record {
  tick = 0;
  was = false;
  started = None;
  ended = None;
  mistakes = 0;
  mistake_ticks = 0;
  recurrence = record { sum = 0; count = 0 };
  duration = record { sum = 0; count = 0 };
  good = record { sum = 0; count = 0 };
}

-- suspicion starts at the tally's tick
abbrev pub begun : Tally → (end : ℕ) → Tally
begun t end = record t {
  started = Some t.tick;
  mistakes = t.mistakes + (if nat_lt t.tick end then 1 else 0);
  recurrence = grown t.recurrence t.started t.tick end;
  good = grown t.good t.ended t.tick end;
}

-- it ends there
abbrev pub finished : Tally → (end : ℕ) → Tally
finished t end = record t { ended = Some t.tick; duration = grown t.duration t.started t.tick end }

abbrev pub changed : (was suspected : Bool) → Tally → (end : ℕ) → Tally
changed was suspected t end =
    if suspected then (if was then t else begun t end) else (if was then finished t end else t)

-- from the tally's tick up to another, there is suspicion or there is none
abbrev pub passed : Tally → (until : ℕ) → (suspected : Bool) → (end : ℕ) → Tally
passed t until suspected end = record (changed t.was suspected t end) {
  was = suspected;
  mistake_ticks = t.mistake_ticks + (if suspected then min until end - min t.tick end else 0);
  tick = until;
}

abbrev pub moved : Tally → (until : ℕ) → (suspected : Bool) → (end : ℕ) → Tally
moved t until suspected end = if nat_lt t.tick until then passed t until suspected end else t

abbrev pub counted : (until : ℕ) → (suspected : Bool) → (end : ℕ) → Tally → Tally
counted until suspected end t = moved t until suspected end

-- what a judge sees of it
abbrev pub tracked : Tally → Track
tracked t = record {
  tick = t.tick;
  was = t.was;
  since = unwrap_or (if t.was then t.started else t.ended) 0;
  mistaken = nat_lt 0 t.mistake_ticks;
}

abbrev pub detected : (crash since : Option ℕ) → Detection
detected None since = Na
detected (Some c) since = delay_after c since

-- what it tells at the horizon of q and p on a layer; the tick of p's crash is given where its detection is measured
abbrev pub told : (layer q p : ℕ) → (crash : Option ℕ) → Tally → PairMeasures
told layer q p crash t = record {
  layer = layer;
  observer = q;
  subject = p;
  mistakes = t.mistakes;
  mistake_ticks = t.mistake_ticks;
  recurrence_sum = t.recurrence.sum;
  recurrence_count = t.recurrence.count;
  duration_sum = t.duration.sum;
  duration_count = t.duration.count;
  good_sum = t.good.sum;
  good_count = t.good.count;
  detection = detected crash (if t.was then t.started else None);
}

-- the numbers fit their types
pub record HasRoom (d : Distances) (tick : ℕ) : Type 0 where
  pub count : d.count ≤ tick
  pub sum : d.sum ≤ d.count * 4294967295

pub record InRange (t : Tally) : Type 0 where
  pub tick : t.tick < 2 ^ 32
  pub mistakes : t.mistakes ≤ t.tick
  pub mistake_ticks : t.mistake_ticks ≤ t.tick
  pub recurrence : HasRoom t.recurrence t.tick
  pub duration : HasRoom t.duration t.tick
  pub good : HasRoom t.good t.tick
  pub started : ForSome t.started (λ s. s ≤ t.tick)
  pub ended : ForSome t.ended (λ s. s ≤ t.tick)
