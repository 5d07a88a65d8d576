-- Runs of a window in which two workers take turns.
use Rattle.std.specs.Prelude.{◌≡◌, ℕ, ◌≤◌, List, [], ◌∷◌, ◌++◌, map}
use Rattle.trace_laws.specs.{Setting.{Setting}, Step.{Event}, World.{World, Pair, IsWorld, NoneBelow, Run}}
use Rattle.window_laws.specs.{Machine.{StageRecord, Act, Take, Turn, Post, Return, Close, StandsFor, IsRun, end_of}, Theorems.{IsListRun, AreAlike, turns_of}}

-- a worker, and a letter that it posts
abbrev pub Posting : Type 0
Posting = ℕ × Event

abbrev pub posts : List Posting → List Act
posts [] = []
posts (x ∷ later) = Post x.0 x.1.0 x.1.1 ∷ posts later

-- in each round worker 1 runs an event, worker 2 runs one, and these letters are posted
abbrev pub rounds : List (List Posting) → List Act
rounds [] = []
rounds (letters ∷ later) = Turn 1 ∷ Turn 2 ∷ (posts letters ++ rounds later)

-- workers 1 and 2 take processes 1 and 2, run them in rounds, and only then give them back
abbrev pub alternating : List (List Posting) → (next : ℕ) → List Act
alternating letters next = Take 1 1 ∷ Take 2 2 ∷ (rounds letters ++ (Return 1 1 ∷ Return 2 2 ∷ Close next ∷ []))

-- as many turns by one worker, process 2 only after process 1; each one's letters are posted before it is given back
abbrev pub turns : List (List Posting) → List Act
turns [] = []
turns (letters ∷ later) = Turn 1 ∷ (posts letters ++ turns later)

abbrev pub one_by_one : (first second : List (List Posting)) → (next : ℕ) → List Act
one_by_one first second next =
    Take 1 1 ∷ (turns first ++ (Return 1 1 ∷ Take 1 2 ∷ (turns second ++ (Return 1 2 ∷ Close next ∷ []))))

module _ {Mind : Type 0} (S : Setting Mind) (window : ℕ) where
  -- a run in which two workers take turns does what the list does
  abbrev pub AlternatingIsList : Type 0
  AlternatingIsList = (w : World Mind) → IsWorld S w → (g : StageRecord Mind) → StandsFor S window g w
      → (letters : List (List Posting)) (next : ℕ) (found left : StageRecord Mind)
      → IsRun S window (end_of S window g.start) g (alternating letters next) found left
      → (history : List Pair) × (after : World Mind) × IsListRun S window g found left w after history

  -- it closes as a run in which one worker runs one process after the other
  abbrev pub AlternatingIsOneByOne : Type 0
  AlternatingIsOneByOne = (w : World Mind) → IsWorld S w → (g : StageRecord Mind) → StandsFor S window g w
      → (letters first second : List (List Posting)) (next next2 : ℕ) (found left found2 left2 : StageRecord Mind)
      → IsRun S window (end_of S window g.start) g (alternating letters next) found left
      → IsRun S window (end_of S window g.start) g (one_by_one first second next2) found2 left2
      → AreAlike S window found left found2 left2

  -- turns in the order of the list's steps are a run, and every other run closes as that one
  abbrev pub ListOrderIsAny : Type 0
  ListOrderIsAny = (w : World Mind) → IsWorld S w → (g : StageRecord Mind) → StandsFor S window g w
      → (history : List Pair) (after : World Mind) → Run S (end_of S window g.start) w history after
      → (next : ℕ) → end_of S window g.start ≤ next → next ≤ S.horizon → NoneBelow next after.pending
      → (acts : List Act) × (found : StageRecord Mind) × (left : StageRecord Mind)
      × IsRun S window (end_of S window g.start) g acts found left
      × (turns_of acts ≡ map (λ s. s.0.key.receiver) history)
      × ((acts2 : List Act) (found2 left2 : StageRecord Mind)
      → IsRun S window (end_of S window g.start) g acts2 found2 left2 → AreAlike S window found left found2 left2)
