-- The outages of all sources of a network: records that are played again and again, and gaps and lengths in turn.
use Rattle.std.specs.Prelude.{◌≡◌, ℕ, ◌<◌, Result, Err, List, [], ◌∷◌, ◌++◌, map, filter, length, true, false, ◌+◌, ◌-◌, ◌*◌, ◌/◌, ◌%◌, min, nat_lt, if◌then◌else◌, zero, suc, ◌^◌, Bool, slice_index}
use Rattle.{std.specs.List.{range_with_len, flat_map, enumerate_from, take_while}, scenario_record.specs.declared.outage.Outage.{Outage}}
use Rattle.network.specs.{Laid.{holds, links_between, links_of, only}, Words.{Words, place_of, stream_number, stream_of, words_of, after}}
use Rattle.network.specs.declared.{outages.TheConstants.{MOST_OUTAGES}, error.DrawError.{DrawError, TheVariants.{TooManyOutages}}, group.{Ends.{Ends}, Group.TheVariants.{All}, LinkSet.{LinkSet}}, kind.Kind.{Kind}}
use Rattle.network.specs.declared.{network.{Burst.{Burst}, Cut.{Cut}, Pause.{Pause}, Replay.{Replay}, Network.{Network}}, rhythm.Rhythm.{Rhythm}, spell.Spell.{Spell, TheVariants.{Ticks, Values, Mean}}}
use Rattle.scenario.specs.declared.drawn.LinkOutage.{LinkOutage}
use Rattle.network.specs.declared.kind.Kind.TheVariants as kind

-- a geometric number of a mean: 1 plus its binary digits, which are independent. Digit i is 1 with the odds r_i to
-- 2^32, where r_0 is (mean - 1) / mean and each next one the square of the one before, all in units of 2^-32
unfoldable pub odds : (mean : ℕ) → ℕ → ℕ
odds mean zero = 2 ^ 32 * (mean - 1) / mean
odds mean (suc i) = odds mean i * odds mean i / 2 ^ 32

-- the word says that the digit is 1: that is so of odds in 2^32 + odds of all words
abbrev pub is_one : (odds word : ℕ) → Bool
is_one its word = nat_lt (word * (2 ^ 32 + its)) (2 ^ 32 * its)

-- what the first so many digits say, the least first
unfoldable pub digits : (mean : ℕ) → Words → ℕ → ℕ
digits mean words zero = 0
digits mean words (suc i) = digits mean words i + (if is_one (odds mean i) (words i) then 2 ^ i else 0)

-- it has 28 digits, and takes 28 words
abbrev pub digits_drawn : ℕ
digits_drawn = 28

unfoldable pub geometric : (mean : ℕ) → Words → ℕ
geometric mean words = 1 + digits mean words digits_drawn

-- how many ticks a gap or a length is
unfoldable pub ticks_of : Spell → Words → ℕ
ticks_of (Ticks number) words = number
ticks_of (Values values) words = slice_index values.items (words 0 % length values.items)
ticks_of (Mean mean) words = geometric mean words

-- how many words it takes
unfoldable pub words_taken : Spell → ℕ
words_taken (Ticks number) = 0
words_taken (Values values) = 1
words_taken (Mean mean) = digits_drawn

-- the first gap, cut so that sources don't begin together: a run begins at some tick of a gap. A geometric gap has no
-- memory, so what is left of it is as long as a whole one
unfoldable pub first_ticks_of : Spell → Words → ℕ
first_ticks_of (Ticks number) words = words 0 % number
first_ticks_of (Values values) words = words 1 % slice_index values.items (words 0 % length values.items)
first_ticks_of (Mean mean) words = geometric mean words - 1

unfoldable pub first_words_taken : Spell → ℕ
first_words_taken (Ticks number) = 1
first_words_taken (Values values) = 2
first_words_taken (Mean mean) = digits_drawn

-- an episode that comes: where it begins, and the words of its length and of all that comes after it
pub record Coming : Type 0 where
  pub begin : ℕ
  pub words : Words

module _ (its : Rhythm) where
  -- the first tick after it
  abbrev pub until : Coming → ℕ
  until e = e.begin + ticks_of its.length e.words

  -- the first episode comes after the cut first gap
  abbrev pub first : Words → Coming
  first words = record { begin = first_ticks_of its.gap words; words = after (first_words_taken its.gap) words }

  -- the next one comes a gap after the end
  abbrev pub next : Coming → Coming
  next e = let rest = after (words_taken its.length) e.words in
      record { begin = until e + ticks_of its.gap rest; words = after (words_taken its.gap) rest }

  -- the one with so many before it
  unfoldable pub coming : Words → ℕ → Coming
  coming words zero = first words
  coming words (suc k) = next (coming words k)

  -- what is of it below the horizon
  abbrev pub cut_at : (horizon : ℕ) → Coming → Outage
  cut_at horizon e = record { begin = e.begin; until = min (until e) horizon }

  -- the episodes that begin below the horizon, each cut there and after the one before, so no more than there are ticks
  unfoldable pub episodes : Words → (horizon : ℕ) → List Outage
  episodes words horizon =
      map (cut_at horizon) (take_while (λ e. nat_lt e.begin horizon) (map (coming words) (range_with_len 0 horizon)))

-- what is of an outage of the record, in a turn that began at `turn` ticks minus `place`, from tick 0 to the horizon
abbrev pub in_turn : (turn place horizon : ℕ) → Outage → Outage
in_turn turn place horizon o =
    record { begin = o.begin + turn - place; until = min (o.until + turn - place) horizon }

-- the same, where it isn't empty
abbrev pub left_of : (turn place horizon : ℕ) → Outage → List Outage
left_of turn place horizon o = let its = in_turn turn place horizon o in
    if nat_lt its.begin its.until then its ∷ [] else []

-- those of such a turn
abbrev pub replayed_in : List Outage → (turn place horizon : ℕ) → List Outage
replayed_in its turn place horizon = flat_map (left_of turn place horizon) its

-- at tick 0 the record stands at a place that a word says, and it begins anew whenever it has lasted. The last turn
-- here is the last one that begins at the horizon or below
unfoldable pub replayed : Replay → Words → (horizon : ℕ) → List Outage
replayed r words horizon = let place = words 0 % r.lasts in
    flat_map (λ m. replayed_in r.outages.items (m * r.lasts) place horizon)
    (range_with_len 0 ((horizon + place) / r.lasts + 1))

-- the most outages that are drawn in a run
abbrev pub most_outages : ℕ
most_outages = MOST_OUTAGES

-- an answer that there would be too many is right of these outages
abbrev pub OnTooMany : {T : Type 0} → Result T DrawError → List LinkOutage → Type 0
OnTooMany result outages = result ≡ Err TooManyOutages → most_outages < length outages

-- an outage of a link
abbrev pub outage_on : Outage → Ends → LinkOutage
outage_on o link = record { from = link.from; to = link.to; begin = o.begin; until = o.until }

-- outages that each are of all these links at once
unfoldable pub on_each : List Ends → List Outage → List LinkOutage
on_each links its = flat_map (λ o. map (outage_on o) links) its

-- the outages of all tables of a kind, in order; `of_one` gives a table's by how many of its kind stand before it
abbrev pub of_each : {T : Type 0} → (ℕ → T → List LinkOutage) → List T → List LinkOutage
of_each of_one tables = flat_map (λ numbered. of_one numbered.0 numbered.1) (enumerate_from 0 tables)

-- those of a link that is a source by itself, in a table with so many of its kind before it; `its` are the outages that
-- the words make up to a horizon
abbrev pub alone : (horizon seed : ℕ) → Kind → ℕ → (Words → ℕ → List Outage) → Ends → List LinkOutage
alone horizon seed kind i its link =
    on_each (link ∷ []) (its (words_of seed (stream_number kind i (stream_of link.from link.to))) horizon)

-- those of all links of a set, each of them a source by itself
abbrev pub of_links : (n horizon seed : ℕ) → Kind → ℕ → LinkSet → (Words → ℕ → List Outage) → List LinkOutage
of_links n horizon seed kind i set its = flat_map (alone horizon seed kind i its) (links_of set n)

-- in a run of n processes up to a horizon, under a seed. Of each table with so many of its kind before it:
module _ (n horizon seed : ℕ) where
  unfoldable pub of_burst : ℕ → Burst → List LinkOutage
  of_burst i its = of_links n horizon seed kind.Burst i its.links (episodes its.rhythm)

  -- all links between the groups, both ways, are cut at once
  unfoldable pub of_cut : ℕ → Cut → List LinkOutage
  of_cut i its = let words = words_of seed (stream_number kind.Cut i 0) in
      on_each (links_between its.one its.other true n) (episodes its.rhythm words horizon)

  -- all links from a process that pauses, which is a source by itself
  abbrev pub pause_of : ℕ → Pause → ℕ → List LinkOutage
  pause_of i its p = let words = words_of seed (stream_number kind.Pause i (place_of p)) in
      on_each (links_between (only p) All false n) (episodes its.rhythm words horizon)

  unfoldable pub of_pause : ℕ → Pause → List LinkOutage
  of_pause i its = flat_map (pause_of i its) (filter (holds its.processes) (range_with_len 1 n))

  unfoldable pub of_replay : ℕ → Replay → List LinkOutage
  of_replay i its = of_links n horizon seed kind.Replay i its.links (replayed its)

  -- all bursts, then all cuts, all pauses and all replays
  unfoldable pub drawn_of : Network → List LinkOutage
  drawn_of its = of_each of_burst its.bursts.items
      ++ of_each of_cut its.cuts.items
      ++ of_each of_pause its.pauses.items
      ++ of_each of_replay its.replays.items
