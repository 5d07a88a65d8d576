-- The words that a source draws by: a stream of its own, which no other source has, nor any link.
use Rattle.std.specs.Prelude.{ℕ, ◌≡◌, ◌<◌, ◌≤◌, ◌+◌, ◌-◌, ◌*◌, ◌%◌, ◌^◌}
use Rattle.{rand_chacha.specs.ChaCha.{word_at}, process_api.specs.Place.{most_processes}}
use Rattle.streams.specs.Fate as fate
use Rattle.network.specs.declared.kind.Kind.{Kind, TheVariants.{Burst, Cut, Pause, Replay}}

-- words in turn, the next one at place 0
abbrev pub Words : Type 0
Words = ℕ → ℕ

-- what comes after so many of them
unfoldable pub after : ℕ → Words → Words
after taken words = λ k. words (taken + k)

-- a kind's number
abbrev pub kind_number : Kind → ℕ
kind_number Burst = 0
kind_number Cut = 1
kind_number Pause = 2
kind_number Replay = 3

-- the most tables of a kind
abbrev pub most_tables : ℕ
most_tables = 1000000

-- the number of a link's own stream, which is also its source's place in a table: below 2^32, in fact below 2^24
abbrev pub stream_of : (from to : ℕ) → ℕ
stream_of from to = fate.stream_of from to

-- the place of a process's source in a table
abbrev pub place_of : (p : ℕ) → ℕ
place_of p = p - 1

-- the number of a source's stream, by its kind, the place of its table among those of the kind, from 0, and its place
-- in the table. So no other table and no greater number of processes changes what it draws
abbrev pub stream_number : Kind → (table place : ℕ) → ℕ
stream_number kind table place = 2 ^ 32 * (1 + 4 * table + kind_number kind) + place

-- sources of one stream are of one kind, and have one place in one table, since a place in a table is below 2^32
abbrev pub AreApart : Type 0
AreApart = (k l : Kind) (i j p q : ℕ) → p < 2 ^ 32 → q < 2 ^ 32 → stream_number k i p ≡ stream_number l j q
    → (k ≡ l) × (i ≡ j) × (p ≡ q)

-- links of one place are one
abbrev pub AreLinksApart : Type 0
AreLinksApart = (a b c d : ℕ) → 1 ≤ a → a ≤ most_processes → 1 ≤ b → b ≤ most_processes
    → 1 ≤ c → c ≤ most_processes → 1 ≤ d → d ≤ most_processes
    → stream_of a b ≡ stream_of c d → (a ≡ c) × (b ≡ d)

-- processes of one place are one
abbrev pub AreProcessesApart : Type 0
AreProcessesApart = (p q : ℕ) → 1 ≤ p → 1 ≤ q → place_of p ≡ place_of q → p ≡ q

-- no source has a link's own stream
abbrev pub AreAboveLinks : Type 0
AreAboveLinks = (k : Kind) (i p from to : ℕ) → from ≤ most_processes → to ≤ most_processes
    → stream_of from to < stream_number k i p

-- the words of a stream under a seed: of ChaCha with 8 rounds, which are 4 double rounds. Places are counted up to 2^68
unfoldable pub words_of : (seed stream : ℕ) → Words
words_of seed stream = λ k. word_at 4 (fate.key_of_seed seed) stream (k % 2 ^ 68)
