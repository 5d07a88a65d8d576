-- A grid of settings: its points, and the runs of a point. All combinations of choices.
use Rattle.std.specs.Prelude.{◌≡◌, ℕ, ◌+◌, ◌-◌, ◌*◌, ◌%◌, ◌<◌, ◌^◌, ◌==◌, min, nat_lt, nat_le, List, [], ◌∷◌, ◌++◌, map, length, get_or, Bool, true, false, ◌&&◌, Option, Some, None, option_map, if◌then◌else◌, string_bytes, ◌/◌, ◌≤◌, take, drop}
use Rattle.{std.specs.{List.{flat_map, range_with_len, list_any, count_by}, Option.{option_or}}, scenario.specs.Table.{same_text}}
use Rattle.study.specs.{Settings.{FilePath, top, inner, element, every, Path, scenario, network, path_of, key_text, Chosen, choices, chosen}, declared.{axis.Axis.{Axis}, run.Run.{Run}, error.GridError.{GridError}}}
use Rattle.study.specs.declared.error.GridError.TheVariants as error

-- one choice of each list, in all ways and in order, with what they hold joined: the last list's choice changes fastest
abbrev pub combinations : {X : Type 0} → List (List (List X)) → List (List X)
combinations [] = [] ∷ []
combinations (xs ∷ rest) = flat_map (λ x. map (λ others. x ++ others) (combinations rest)) xs

pub record GridRecord : Type 0 where
  -- for each varied axis its choices
  pub vary : List (List (List Chosen))
  -- for each axis whose values are added up its choices
  pub over : List (List (List Chosen))
  -- for each axis whose values are dealt to the seeds its choices
  pub deal : List (List (List Chosen))
  pub first_seed : ℕ
  -- how many seeds there are
  pub seeds : ℕ

-- the settings of each point: all combinations of the varied axes' choices, the last axis' changing fastest
abbrev pub points : GridRecord → List (List Chosen)
points g = combinations g.vary

-- the keys of some axes, by their choices, in order: those of the first combination
abbrev pub keys_of : List (List (List Chosen)) → List Path
keys_of axes = map (λ c. c.path) (get_or (combinations axes) 0 [])

-- the varied keys
abbrev pub keys : GridRecord → List Path
keys g = keys_of g.vary

abbrev pub all_keys : GridRecord → List Path
all_keys g = keys_of g.vary ++ (keys_of g.over ++ keys_of g.deal)

-- one run of a point
pub record RunRecord : Type 0 where
  pub settings : List Chosen
  pub seed : ℕ

-- which of the dealt combinations the k-th seed gets, from 0: they are dealt in turn
abbrev pub turn : GridRecord → ℕ → ℕ
turn g k = k % length (combinations g.deal)

abbrev pub dealt_to : GridRecord → ℕ → List Chosen
dealt_to g k = get_or (combinations g.deal) (turn g k) []

-- the runs with some settings: all seeds, each with these settings and those that are dealt to it
abbrev pub runs_with : GridRecord → List Chosen → List RunRecord
runs_with g settings =
    map (λ k. record { settings = settings ++ dealt_to g k; seed = g.first_seed + k }) (range_with_len 0 g.seeds)

-- the runs of each point: for all combinations of the choices that are added up, in their order, all seeds
abbrev pub runs : GridRecord → List RunRecord
runs g = flat_map (runs_with g) (combinations g.over)

-- a run in the code
abbrev pub run_of : Run → RunRecord
run_of r = record { settings = map chosen r.settings.items; seed = r.seed }

-- no two runs have one seed
abbrev pub HaveOwnSeeds : List RunRecord → Type 0
HaveOwnSeeds rs = (i j : ℕ) (a b : RunRecord) → i < length rs → j < length rs
    → (get_or rs i a).seed ≡ (get_or rs j b).seed → i ≡ j

-- each of the dealt combinations is dealt to equally many seeds
abbrev pub AreDealtEvenly : GridRecord → Type 0
AreDealtEvenly g = (c : ℕ) → c < length (combinations g.deal)
    → count_by (λ t. t == c) (map (turn g) (range_with_len 0 g.seeds)) * length (combinations g.deal) ≡ g.seeds

-- ---- refusals

-- both set one key of one table of a file
abbrev pub meets_in_file : FilePath → FilePath → Bool
meets_in_file (top k) (top l) = same_text k l
meets_in_file (inner t k) (inner u l) = same_text t u && same_text k l
meets_in_file (element a i k) (element b j l) = same_text a b && ((i == j) && same_text k l)
meets_in_file (element a i k) (every b l) = same_text a b && same_text k l
meets_in_file (every a k) (element b j l) = same_text a b && same_text k l
meets_in_file (every a k) (every b l) = same_text a b && same_text k l
meets_in_file _ _ = false

-- both set one key of one table
abbrev pub meets : Path → Path → Bool
meets (scenario p) (scenario q) = meets_in_file p q
meets (network p) (network q) = meets_in_file p q
meets _ _ = false

-- the first path that meets one before it
abbrev pub first_again : (before : List Path) → List Path → Option Path
first_again before [] = None
first_again before (p ∷ ps) = if list_any (meets p) before then Some p else first_again (before ++ (p ∷ [])) ps

-- of keys that are set for all runs the first that is set twice: it meets a key of an axis, or one before it
abbrev pub set_twice : GridRecord → List Path → Option Path
set_twice g = first_again (all_keys g)

-- the keys of some axes, in order
abbrev pub paths_of : List Axis → List Path
paths_of axes = flat_map (λ a. map path_of a.keys.items) axes

-- a count as it is told: the greatest number of 64 bits stands for all above it
abbrev pub told : ℕ → ℕ
told n = min n (2 ^ 64 - 1)

-- a reason against a grid
pub data Refusal : Type 0 where
  no_seed : Refusal
  seed_too_high : Refusal
  key_twice : (key : List ℕ) → Refusal
  too_many_points : (points : ℕ) → Refusal
  uneven : (seeds dealt : ℕ) → Refusal
  too_many_runs : (runs : ℕ) → Refusal

abbrev pub seeds_refusal : (first last : ℕ) → Option Refusal
seeds_refusal first last = if nat_lt last first then Some no_seed
    else if nat_le (2 ^ 63) last then Some seed_too_high
    else None

abbrev pub keys_refusal : List Path → Option Refusal
keys_refusal paths = option_map (λ p. key_twice (key_text p)) (first_again [] paths)

abbrev pub points_refusal : (points : ℕ) → Option Refusal
points_refusal points = if nat_lt 1000000 points then Some (too_many_points (told points)) else None

abbrev pub deal_refusal : (seeds dealt : ℕ) → Option Refusal
deal_refusal seeds dealt = if seeds % dealt == 0 then None else Some (uneven seeds (told dealt))

abbrev pub runs_refusal : (runs : ℕ) → Option Refusal
runs_refusal runs = if nat_lt 1000000000000 runs then Some (too_many_runs (told runs)) else None

-- the first reason against the grid of some axes and seeds
abbrev pub refusal : (vary over deal : List Axis) (first last : ℕ) → Option Refusal
refusal vary over deal first last = option_or (seeds_refusal first last)
    (option_or (keys_refusal (paths_of vary ++ (paths_of over ++ paths_of deal)))
    (option_or (points_refusal (length (combinations (map choices vary))))
    (option_or (deal_refusal (last + 1 - first) (length (combinations (map choices deal))))
    (runs_refusal (length (combinations (map choices over)) * (last + 1 - first))))))

-- the reason that an error tells
abbrev pub reason_of : GridError → Option Refusal
reason_of error.NoSeed = Some no_seed
reason_of error.SeedTooHigh = Some seed_too_high
reason_of (error.KeyTwice key) = Some (key_twice (string_bytes key))
reason_of (error.TooManyPoints points) = Some (too_many_points points)
reason_of (error.Uneven seeds dealt) = Some (uneven seeds dealt)
reason_of (error.TooManyRuns runs) = Some (too_many_runs runs)
reason_of (error.Memory m) = None

abbrev pub is_memory : GridError → Bool
is_memory (error.Memory m) = true
is_memory _ = false

-- there is no reason against this grid, other than that memory was refused
abbrev pub NoneApplies : (vary over deal : List Axis) (first last : ℕ) → Type 0
NoneApplies vary over deal first last = refusal vary over deal first last ≡ None

-- the error tells the first reason against this grid, or is memory
abbrev pub IsFirst : (vary over deal : List Axis) (first last : ℕ) → GridError → Type 0
IsFirst vary over deal first last e = is_memory e ≡ false → refusal vary over deal first last ≡ reason_of e

-- what a grid of these axes and seeds stands for
abbrev pub grid_of : (vary over deal : List Axis) (first last : ℕ) → GridRecord
grid_of vary over deal first last = record {
  vary = map choices vary;
  over = map choices over;
  deal = map choices deal;
  first_seed = first;
  seeds = last + 1 - first;
}

-- ---- a shard of a study: one of several consecutive blocks of its points

pub record ShardRecord : Type 0 where
  -- which of the blocks, from 1
  pub number : ℕ
  -- how many blocks there are
  pub of : ℕ

pub record IsShard (s : ShardRecord) : Type 0 where
  pub low : 1 ≤ s.number
  pub high : s.number ≤ s.of

-- how many of the points stand in the first of some blocks: their part of all blocks, rounded down
abbrev pub before : (points blocks of : ℕ) → ℕ
before points blocks of = points * blocks / of

-- how many points stand before the block, and how many up to its end
abbrev pub begin_of : ℕ → ShardRecord → ℕ
begin_of points s = before points (s.number - 1) s.of

abbrev pub end_of : ℕ → ShardRecord → ℕ
end_of points s = before points s.number s.of

-- the shard's block of the points
abbrev pub block : List ℕ → ShardRecord → List ℕ
block points s = drop (begin_of (length points) s) (take (end_of (length points) s) points)

-- the blocks of a number of shards, one after the other, are all points
abbrev pub AreAll : ℕ → Type 0
AreAll of = (points : List ℕ)
    → flat_map (λ number. block points (record { number = number; of = of })) (range_with_len 1 of) ≡ points

-- no block has two points more than another
abbrev pub AreEven : ℕ → Type 0
AreEven of = (points : List ℕ) (a b : ShardRecord) → IsShard a → IsShard b → a.of ≡ of → b.of ≡ of
    → length (block points a) ≤ length (block points b) + 1
