-- What the law of the window machine says of a setting and a length of windows.
use Rattle.std.specs.Prelude.{◌≡◌, ◌↔◌, ℕ, ◌≤◌, List, [], ◌∷◌, ◌++◌, map, IsTrue}
use Rattle.{process_api.specs.Order.{EntryRecord, is_rising}, trace_laws.specs.{History.{IsIn, pairs_of}, Setting.{Setting, IsProcess}, World.{World, Pair, IsWorld, NoneBelow, Run, entries, opening, IsTrace}}}
use Rattle.window_laws.specs.Machine.{StageRecord, Act, Take, Turn, Post, Return, Close, StandsFor, IsRun, end_of}

-- the merged list strictly rises, and has just the entries of the parts of processes 1 to n
pub record IsMerge (processes : ℕ) (part : ℕ → List EntryRecord) (merged : List EntryRecord) : Type 0 where
  pub rising : IsTrue (is_rising merged)
  pub same : (e : EntryRecord) → IsIn e merged ↔ ((p : ℕ) × (1 ≤ p) × (p ≤ processes) × IsIn e (part p))

-- the workers of the turns among some acts, in order
abbrev pub turns_of : List Act → List ℕ
turns_of [] = []
turns_of (Take a p ∷ acts) = turns_of acts
turns_of (Turn a ∷ acts) = a ∷ turns_of acts
turns_of (Post a key input ∷ acts) = turns_of acts
turns_of (Return a p ∷ acts) = turns_of acts
turns_of (Close next ∷ acts) = turns_of acts

-- lists joined end to end
abbrev pub end_to_end : List (List EntryRecord) → List EntryRecord
end_to_end [] = []
end_to_end (es ∷ more) = es ++ end_to_end more

module _ {Mind : Type 0} (S : Setting Mind) (window : ℕ) where
  -- a window's run did what the list does from a world to the window's end: it took these pairs, and came to that world
  pub record IsListRun (g found left : StageRecord Mind) (w after : World Mind) (history : List Pair) : Type 0 where
    pub run : Run S (end_of S window g.start) w history after
    pub world : IsWorld S after
    pub stands : StandsFor S window left after
    pub parts : (p : ℕ) → IsProcess S p → found.part p ≡ entries (pairs_of p history)
    pub merged : IsMerge S.processes found.part (entries history)

  -- whatever the order of its acts, a run of a window comes to the world to which the list comes
  abbrev pub AnyOrder : Type 0
  AnyOrder = (w : World Mind) → IsWorld S w → (g : StageRecord Mind) → StandsFor S window g w
      → (acts : List Act) (found left : StageRecord Mind) → IsRun S window (end_of S window g.start) g acts found left
      → (history : List Pair) × (after : World Mind) × IsListRun g found left w after history

  -- two runs of a window close alike, but for the start of the next window and who waits for it
  pub record AreAlike (found left found2 left2 : StageRecord Mind) : Type 0 where
    pub process : (p : ℕ) → IsProcess S p → left.process p ≡ left2.process p
    pub own : (p : ℕ) → left.own p ≡ left2.own p
    pub parts : (p : ℕ) → IsProcess S p → found.part p ≡ found2.part p

  -- any two runs of a window close alike
  abbrev pub CloseAlike : Type 0
  CloseAlike = (w : World Mind) → IsWorld S w → (g : StageRecord Mind) → StandsFor S window g w
      → (acts acts2 : List Act) (found left found2 left2 : StageRecord Mind)
      → IsRun S window (end_of S window g.start) g acts found left
      → IsRun S window (end_of S window g.start) g acts2 found2 left2
      → AreAlike found left found2 left2

  -- there is a run whose turns come in the order of the list's steps, each by the worker that has the number of that
  -- process, whatever the tick from which the next window may start
  abbrev pub HasRun : Type 0
  HasRun = (w : World Mind) → IsWorld S w → (g : StageRecord Mind) → StandsFor S window g w
      → (history : List Pair) (after : World Mind) → Run S (end_of S window g.start) w history after
      → (next : ℕ) → end_of S window g.start ≤ next → next ≤ S.horizon → NoneBelow next after.pending
      → (acts : List Act) × (found : StageRecord Mind) × (left : StageRecord Mind)
      × IsRun S window (end_of S window g.start) g acts found left
      × (left.start ≡ next) × (turns_of acts ≡ map (λ s. s.0.key.receiver) history)

  -- windows lead from stage g to stage h, and these are the merged parts of each
  abbrev pub Windows : StageRecord Mind → List (List EntryRecord) → StageRecord Mind → Type 0
  Windows g [] h = h ≡ g
  Windows g (merged ∷ more) h = (acts : List Act) × (found : StageRecord Mind) × (left : StageRecord Mind)
      × IsRun S window (end_of S window g.start) g acts found left
      × IsMerge S.processes found.part merged × Windows left more h

  -- windows from the opening on, in any order of acts, make a front of the trace, all of it if they come to the horizon
  abbrev pub MakeTrace : Type 0
  MakeTrace = (g : StageRecord Mind) → StandsFor S window g (opening S)
      → (parts : List (List EntryRecord)) (h : StageRecord Mind) → Windows g parts h
      → (w : World Mind) × IsWorld S w × StandsFor S window h w
      × ((rest : List EntryRecord) × IsTrace S (end_to_end parts ++ rest) × (h.start ≡ S.horizon → rest ≡ []))
