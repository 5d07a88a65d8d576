-- What drawing asks of the numbers of a network.
use Rattle.std.specs.{Prelude.{ℕ, ◌≤◌, ◌<◌, List, length}, List.{All, Sorted.{IsSorted}}, Ordering.{ordering_then, nat_cmp}, declared.cmp.Ordering.{Ordering}}
use Rattle.{process_api.specs.Place.{last_tick}, scenario_record.specs.declared.outage.Outage.{Outage}}
use Rattle.network.specs.{Words.{most_tables}, declared.{spell.Spell.{Spell, TheVariants.{Ticks, Values, Mean}}, rhythm.Rhythm.{Rhythm}, network.{Burst.{Burst}, Cut.{Cut}, Pause.{Pause}, Replay.{Replay}, Network.{Network}}}}

-- the most values of a gap or a length
abbrev pub most_values : ℕ
most_values = 100000

-- a number of ticks that a network file may say
pub record IsTicks (n : ℕ) : Type 0 where
  pub low : 1 ≤ n
  pub high : n ≤ last_tick

pub record AreValues (values : List ℕ) : Type 0 where
  pub some : 1 ≤ length values
  pub few : length values ≤ most_values
  pub each : All IsTicks values

abbrev pub IsSpell : Spell → Type 0
IsSpell (Ticks number) = IsTicks number
IsSpell (Values values) = AreValues values.items
IsSpell (Mean mean) = IsTicks mean

pub record IsRhythm (its : Rhythm) : Type 0 where
  pub gap : IsSpell its.gap
  pub length : IsSpell its.length

-- an outage of a record lies within it
pub record IsWithin (lasts : ℕ) (its : Outage) : Type 0 where
  pub some : its.begin < its.until
  pub within : its.until ≤ lasts

-- the order of a record's outages: by begin, and then by end
abbrev pub outage_cmp : Outage → Outage → Ordering
outage_cmp a b = ordering_then (nat_cmp a.begin b.begin) (nat_cmp a.until b.until)

-- a record has at least one outage, and they stand in their order
pub record IsReplay (its : Replay) : Type 0 where
  pub lasts : IsTicks its.lasts
  pub some : 1 ≤ length its.outages.items
  pub outages : All (IsWithin its.lasts) its.outages.items
  pub in_order : IsSorted outage_cmp its.outages.items

-- rhythms and records are in their ranges, and no kind has more tables than streams; `links` and members aren't judged
pub record IsNetwork (its : Network) : Type 0 where
  pub bursts : All (λ (b : Burst). IsRhythm b.rhythm) its.bursts.items
  pub few_bursts : length its.bursts.items ≤ most_tables
  pub cuts : All (λ (c : Cut). IsRhythm c.rhythm) its.cuts.items
  pub few_cuts : length its.cuts.items ≤ most_tables
  pub pauses : All (λ (p : Pause). IsRhythm p.rhythm) its.pauses.items
  pub few_pauses : length its.pauses.items ≤ most_tables
  pub replays : All IsReplay its.replays.items
  pub few_replays : length its.replays.items ≤ most_tables
