-- A window that is run and closed, and its parts, which are merged later.
use Rattle.std.specs.{Prelude.{◌≡◌, ◌+◌, ◌++◌, ◌<◌, ◌≤◌, ℕ, List, [], ◌∷◌, length, map, ◌⊎◌, IsTrue, Result, OnOk, OnErr, IfErr}, Global.{Vec}, List.{All}}
use Rattle.{process_api.specs.{Order.{EntryRecord, is_rising}, Mind.{Mind}, declared.{message.Letter.{Letter}, run_error.RunError.{RunError}}}, trace_laws.specs.{Step.{Events}, Taken.{event_of}, World.{joined}}}
use Rattle.{trace_merge.specs.Parts.{all_of, AreDisjoint, IsMergeOf}, mailboxes.specs.Mailboxes.{SlipView, list_of, posted_to}, steps.specs.declared.seat.Seat.{Seat}, window_laws.specs.Theorems.{end_to_end}}
use Rattle.windows.specs.{Plan.{PlanRecord, IsPlanFor}, Stage.{IsNextStart, IsStage, IsStageAfter, IsWindowRun, StartedWorkers, TookAll, IsRefusalOfSink, writes_of}, declared.{berth.Berth.{Berth}, stage.Stage.{Stage}}}

-- each part rises, and no key is in two
pub record AreParts (parts : List (Vec EntryRecord)) : Type 0 where
  pub rising : All (λ part. IsTrue (is_rising part.items)) parts
  pub apart : AreDisjoint (map (λ part. part.items) parts)

-- the entries of these parts, in the order of their keys
abbrev pub IsMerged : List (Vec EntryRecord) → List EntryRecord → Type 0
IsMerged parts merged = IsMergeOf (map (λ part. part.items) parts) merged

module _ {K : Type 0} (took : K → List EntryRecord → K → Type 0) where
  -- the sink took, piece by piece, what these parts make and the others don't
  abbrev pub TookAllBut : (parts : List (Vec EntryRecord)) (others : List (List EntryRecord)) → (old new : K) → Type 0
  TookAllBut parts others old new = (told : List (List EntryRecord)) × TookAll took old told new
      × ((rest : List EntryRecord) → IsMergeOf others rest → IsMerged parts (end_to_end told ++ rest))

  -- The sink took pieces that what these parts make begins with, and was handed nothing more; or it took a front of one
  -- more, which comes next in it
  pub record TookFrontOf (took_front : K → List EntryRecord → K → Type 0) (parts : List (Vec EntryRecord)) (old new : K)
      : Type 0 where
    pub told : List (List EntryRecord)
    pub mid : K
    pub took_all : TookAll took old told mid
    pub last : List EntryRecord
    pub ended : ((last ≡ []) × (new ≡ mid)) ⊎ took_front mid last new
    pub rest : List EntryRecord
    pub merged : IsMerged parts ((end_to_end told ++ last) ++ rest)

-- The sink was handed the parts that waited, and answered so; the others still wait
pub record HandedOn {K : Type 0} (took took_front : K → List EntryRecord → K → Type 0) (failed : K → ℕ)
    (parts others : List (Vec EntryRecord)) (old new : K) (told : Result (Unit {0}) RunError) : Type 0 where
  pub waiting : AreParts others
  pub took_all : OnOk told (TookAllBut took parts (map (λ part. part.items) others) old new)
  pub front : OnErr told (TookFrontOf took took_front parts old new)
  pub errors : IfErr told IsRefusalOfSink
  pub count : failed new ≡ failed old + writes_of told

module _ {M : Type 0} (mind : M → Mind) (plan : PlanRecord) where
  -- the next window of a stage may be run by this plan
  pub record HasNextWindow (stage : Stage M) : Type 0 where
    pub stage_is : IsStage mind stage
    pub plan_is : IsPlanFor stage.scenario.now plan
    pub before_horizon : stage.start < stage.scenario.now.horizon

  -- the next window of a stage left these parts and the new stage, by the plan's workers
  pub record IsNextWindow (old : Stage M) (parts : List (Vec EntryRecord)) (new : Stage M) : Type 0 where
    pub scenario : new.scenario.now ≡ old.scenario.now
    pub are_parts : AreParts parts
    pub stage : (merged : List EntryRecord) → IsMerged parts merged → (trace : List EntryRecord)
        → IsStageAfter mind trace old → IsStageAfter mind (trace ++ merged) new
    pub run : (merged : List EntryRecord) → IsMerged parts merged → IsWindowRun mind plan.window old new merged
    pub workers : StartedWorkers plan old new

module _ {M : Type 0} where
  -- what stays of a berth: its process, the events that are pending, and the entries of its part
  abbrev pub kept_in : Berth M → Seat M × Events × List EntryRecord
  kept_in b = (b.seat, b.pending, b.part.items)

  -- each berth with the letters of its list, which has given its part
  abbrev pub delivered : List (Berth M) → List (List Letter) → List (Seat M × Events × List EntryRecord)
  delivered [] lists = []
  delivered (b ∷ bs) [] = []
  delivered (b ∷ bs) (letters ∷ lists) = (b.seat, joined b.pending (map event_of letters), []) ∷ delivered bs lists

  -- The berths that a window of so many workers left got the letters that these slips posted to them, and gave these
  -- parts. There are so many entries more, and the next window starts at the least pending tick
  pub record IsClosed (left so_far workers : ℕ) (berths : List (Berth M)) (slips : List SlipView)
      (parts : List (Vec EntryRecord)) (new : Stage M) : Type 0 where
    pub lists : List (List Letter)
    pub count : length lists ≡ length berths
    pub letters : (r : ℕ) → list_of lists r ≡ posted_to slips r
    pub berths_are : map kept_in new.berths.items ≡ delivered berths lists
    pub parts_are : map (λ v. v.items) parts ≡ map (λ b. b.part.items) berths
    pub few : length (all_of (map (λ v. v.items) parts)) ≤ left
    pub longer : new.so_far ≡ so_far + length (all_of (map (λ v. v.items) parts))
    pub start : IsNextStart new.scenario.now.horizon (map (λ b. b.pending) new.berths.items) new.start
    pub workers_are : new.workers ≡ workers
