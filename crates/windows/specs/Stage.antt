-- What a stage of the program stands for.
use Rattle.std.specs.{Prelude.{◌≡◌, ◌⊎◌, ℕ, zero, suc, ◌+◌, ◌++◌, ◌*◌, ◌<◌, ◌≤◌, List, [], length, map, min, slice_get, slice_index_or, Some, vec_len, Result, Ok, IsErrOf, ◌∷◌, Err}, List.{All, Sorted.{IsPermutation}}}
use Rattle.std.specs.FinMap as events
use Rattle.process_api.specs.{Place.{most_step_actions}, Order.{EntryRecord}, Mind.{Mind}, declared.{message.StepInput.TheVariants.{Start}, run_error.RunError.{RunError, TheVariants.{Limit, Memory, Spawn, Write}}}}
use Rattle.{scenario_record.specs.Record.{Record}, trace_laws.specs.{History.{IsIn}, Setting.{setting_of, Setting}, World.{IsReached, World, IsWorld, NoneBelow, start_of, opening_process, IsTrace}, Step.{Events}}}
use Rattle.{pending_events.specs.Pending.{IsLeastTick}, steps.specs.Seat.{process_of, own_of, IsSeated}, windows.specs.{Berth.{IsBerth}, Plan.{PlanRecord}, declared.{berth.Berth.{Berth}, stage.Stage.{Stage}}}}
use Rattle.window_laws.specs.{Machine.{StageRecord, Act, StandsFor, IsRun, end_of, first_status, IsSameStage}, Theorems.{IsMerge, end_to_end}}

-- of a list for processes 1 to n, what process p has; another number has what is given
abbrev pub of_process : {X : Type 0} → (p : ℕ) → List X → X → X
of_process zero xs none = none
of_process (suc q) xs none = slice_index_or xs q none

-- the start of a process, alone
abbrev pub start_event : ℕ → Events
start_event p = events.insert events.empty (start_of p) Start

-- the next window opens at the least tick of these pending events below the horizon, or at the horizon if there is none
pub record IsNextStart (horizon : ℕ) (own : List Events) (next : ℕ) : Type 0 where
  pub to_horizon : next ≤ horizon
  pub late : All (NoneBelow next) own
  pub least : (next ≡ horizon) ⊎ ((set : Events) × IsIn set own × IsLeastTick set next)

module _ {M : Type 0} (mind : M → Mind) where
  -- a berth in which nothing was done yet but that its start is pending
  abbrev pub IsOpened : Record → Berth M → Type 0
  IsOpened s b = IsSeated mind s 0 b.seat × (b.pending ≡ start_event (own_of mind b.seat)) × (b.part.items ≡ [])

  -- the stage at the opening of a window of this length: nobody holds a process, and no letter is on its way
  abbrev pub stage_of : (window : ℕ) → Stage M → StageRecord Mind
  stage_of window stage = let S = setting_of stage.scenario.now in
      let own : ℕ → Events = λ p. of_process p (map (λ b. b.pending) stage.berths.items) events.empty in
      record {
        start = stage.start;
        process = λ p. of_process p (map (λ b. process_of mind b.seat) stage.berths.items) (opening_process S p);
        own = own;
        part = λ p. of_process p (map (λ b. b.part.items) stage.berths.items) [];
        status = λ p. first_status (end_of S window stage.start) (own p);
        tray = λ a. events.empty;
        mailbox = λ r. events.empty;
      }

  -- the berths of processes from 1 on, each with at most 4,096 letters and wakes on each link for each entry so far
  abbrev pub AreHome : Record → (entries : ℕ) → List (Berth M) → Type 0
  AreHome s entries berths = (i : ℕ) (b : Berth M)
      → slice_get berths i ≡ Some b → IsBerth mind s (suc i) (most_step_actions * entries) b

  -- a stage between two windows, after these entries: it stands for a world by which the list comes after them
  pub record IsStageAfter (trace : List EntryRecord) (stage : Stage M) : Type 0 where
    pub count : vec_len stage.berths ≡ stage.scenario.now.processes
    pub so_far : stage.so_far ≡ length trace
    pub before : All (λ e. e.key.tick < stage.start) trace
    pub home : AreHome stage.scenario.now stage.so_far stage.berths.items
    pub within : stage.so_far ≤ stage.scenario.now.limit
    pub to_horizon : stage.start ≤ stage.scenario.now.horizon
    pub world : World Mind
    pub is_world : IsWorld (setting_of stage.scenario.now) world
    pub stands : (window : ℕ) → StandsFor (setting_of stage.scenario.now) window (stage_of window stage) world
    pub reached : IsReached (setting_of stage.scenario.now) world trace

  -- the same, whatever the entries so far
  abbrev pub IsStage : Stage M → Type 0
  IsStage stage = (trace : List EntryRecord) × IsStageAfter trace stage

  -- Some run of a window leads from one stage to the other, and this is what its parts make, merged. There are so many
  -- entries more, and the next window starts at the least pending tick, which isn't before the end of this one
  abbrev pub IsWindowRun : (window : ℕ) → (old new : Stage M) → (merged : List EntryRecord) → Type 0
  IsWindowRun window old new merged = let S = setting_of old.scenario.now in
      (acts : List Act) × (found : StageRecord Mind) × (left : StageRecord Mind)
      × IsRun S window (end_of S window old.start) (stage_of window old) acts found left
      × IsSameStage S left (stage_of window new)
      × IsMerge S.processes found.part merged × (new.so_far ≡ old.so_far + length merged)
      × (end_of S window old.start ≤ new.start)
      × IsNextStart S.horizon (map (λ b. b.pending) new.berths.items) new.start

module _ {M : Type 0} where
  -- how many workers are started: one for each process with an event below the end, but no more than the plan has
  pub record IsCountOfWorkers (end workers : ℕ) (berths : List (Berth M)) (started : ℕ) : Type 0 where
    pub waiting : List (Berth M)
    pub idle : List (Berth M)
    pub all : IsPermutation berths (waiting ++ idle)
    pub some : All (λ b. ¬ (NoneBelow end b.pending)) waiting
    pub none : All (λ b. NoneBelow end b.pending) idle
    pub count : started ≡ min (length waiting) workers

  -- the next window of a stage started so many, by a plan
  abbrev pub StartedWorkers : PlanRecord → (old new : Stage M) → Type 0
  StartedWorkers plan old new =
      IsCountOfWorkers (end_of (setting_of old.scenario.now) plan.window old.start) plan.workers old.berths.items
      new.workers

-- one process is refused because the trace has no place left, or because memory was refused
abbrev pub IsRefusalOfOne : RunError → Type 0
IsRefusalOfOne e = (e ≡ Limit) ⊎ (e ≡ Memory)

-- a window is refused for that, or because a thread was refused
abbrev pub IsRefusal : RunError → Type 0
IsRefusal e = (e ≡ Limit) ⊎ (e ≡ Memory) ⊎ (e ≡ Spawn)

-- every trace of the scenario has more entries than its limit
abbrev pub IsOverLimit : Record → Type 0
IsOverLimit s = (whole : List EntryRecord) → IsTrace (setting_of s) whole → s.limit < length whole

-- of several refusals that of a thread comes first, then that of memory, then that of a place in the trace
abbrev pub rank_of : RunError → ℕ
rank_of Spawn = 0
rank_of Memory = 1
rank_of Limit = 2
rank_of Write = 3

-- the refusal is one of these two answers', and no refusal of theirs comes before it
pub record IsFirstRefusal {A B : Type 0} (left : Result A RunError) (right : Result B RunError)
    (e : RunError) : Type 0 where
  pub one : IsErrOf left e ⊎ IsErrOf right e
  pub first : (other : RunError) → IsErrOf left other ⊎ IsErrOf right other → rank_of e ≤ rank_of other

-- neither answer is a refusal
abbrev pub AreThere : {A B : Type 0} → Result A RunError → Result B RunError → Type 0
AreThere {A} {B} left right = (a : A) × (b : B) × (left ≡ Ok a) × (right ≡ Ok b)

-- a sink refuses a part because memory was refused, or because the part can't be written
abbrev pub IsRefusalOfSink : RunError → Type 0
IsRefusalOfSink e = (e ≡ Memory) ⊎ (e ≡ Write)

-- how many parts couldn't be written, of those of a call that ends so
abbrev pub writes_of : {X : Type 0} → Result X RunError → ℕ
writes_of (Ok x) = 0
writes_of (Err Write) = 1
writes_of (Err Limit) = 0
writes_of (Err Memory) = 0
writes_of (Err Spawn) = 0

-- the sink took these parts, one after the other
abbrev pub TookAll : {K : Type 0} → (took : K → List EntryRecord → K → Type 0) → K → List (List EntryRecord) → K
    → Type 0
TookAll took old [] new = new ≡ old
TookAll {K} took old (part ∷ more) new = (mid : K) × took old part mid × TookAll took mid more new

module _ {K : Type 0} (took : K → List EntryRecord → K → Type 0) {Mind : Type 0} (S : Setting Mind) where
  -- the sink took the trace, in parts
  pub record TookTrace (old new : K) : Type 0 where
    pub parts : List (List EntryRecord)
    pub took_all : TookAll took old parts new
    pub is_trace : IsTrace S (end_to_end parts)

  -- The sink took parts whose entries are at the front of every trace, and was handed nothing more; or it took a front
  -- of one more, which comes next in every trace
  pub record TookFront (took_front : K → List EntryRecord → K → Type 0) (old new : K) : Type 0 where
    pub parts : List (List EntryRecord)
    pub mid : K
    pub took_all : TookAll took old parts mid
    pub last : List EntryRecord
    pub ended : ((last ≡ []) × (new ≡ mid)) ⊎ took_front mid last new
    pub front : (whole : List EntryRecord) → IsTrace S whole
        → (rest : List EntryRecord) × (whole ≡ (end_to_end parts ++ last) ++ rest)

  -- The sink took whole parts and was handed nothing more. They have just the entries that every trace has below some
  -- tick. Which tick that is isn't said; the run hands on the entries of the windows that were closed
  pub record TookClosed (old new : K) : Type 0 where
    pub parts : List (List EntryRecord)
    pub took_all : TookAll took old parts new
    pub tick : ℕ
    pub before : All (λ e. e.key.tick < tick) (end_to_end parts)
    pub after : (whole : List EntryRecord) → IsTrace S whole
        → (rest : List EntryRecord) × (whole ≡ end_to_end parts ++ rest) × All (λ e. tick ≤ e.key.tick) rest
