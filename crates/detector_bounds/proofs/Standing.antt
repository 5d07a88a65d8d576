-- Through a run: every process has its detector, which is as at first until the process starts, at tick 0 before all else; and
-- OUT is the detector's set.
use Rattle.detector_bounds.proofs.Words.{◌≡◌, ◌≢◌, ◌⊎◌, ℕ, zero, suc, ◌+◌, ◌≤◌, inl, inr, sym, ap, ◌∙◌, subst, true, List, [], ◌∷◌, ◌++◌, arith, fold, cases_eq, Answer, EntryRecord, is_process, Processes, Key, StepInput, IsIn, Setting, IsSound, Event, World, Has, IsLeast, IsWorld, made, taken, opening, start_of, starts, entries, starts_are, insert_at, insert_other, least_first, taken_cases, made_sent, Set, after_note, out}
use Rattle.detector_bounds.proofs.{Above.{notes_are}, Added.{added_no_start}, Ending.{IsKept, IsEnd}}
use Rattle.detector_bounds.proofs.{Machines.{RunsDetector, state_of, HasAll, opening_has, own, acts, followed, added_is, notes_is, key_is, has_next, state_at, state_other, own_tells}, Output.{noted_out, out_so_far, out_more, out_same}}
use Rattle.std.specs.FinSet as set
use Rattle.process_api.specs.declared.message.StepInput.TheVariants as input

-- it is a process's start, or comes later
abbrev pub IsStartOrLater : Key → StepInput → Type 0
IsStartOrLater key x = ((x ≡ input.Start) × (key ≡ start_of key.receiver)) ⊎ ((1 ≤ key.tick) × (x ≢ input.Start))

-- at first there are the starts alone, and all of them
pub only_starts : (n : ℕ) (key : Key) (x : StepInput) → Has (starts n) key x → (x ≡ input.Start) × (key ≡ start_of key.receiver)
only_starts n key x h = let r = starts_are n key x h in (r.3, r.2)

pub starts_there : (n p : ℕ) → 1 ≤ p → p ≤ n → Has (starts n) (start_of p) input.Start
starts_there zero p low high = absurd (omega (arith, low, high))
starts_there (suc n) p low high = elim (cases_eq p (suc n)) [
  | inl e ↦ subst (λ z. Has (starts (suc n)) (start_of z) input.Start) (sym e) (insert_at (starts n) (start_of (suc n)) input.Start)
  | inr other ↦
      insert_other (starts n) (start_of (suc n)) input.Start (start_of p) (λ e. other (ap (λ (k : Key). k.receiver) e))
      ∙ starts_there n p low (omega (arith, high, other))
]

module _ {Mind D : Type 0} {layer : ℕ} (S : Setting Mind) (sound : IsSound S) (first : D) (step : (p : ℕ) → D → (now : ℕ) → StepInput → Answer D) (suspects : ℕ → D → Processes) (R : RunsDetector layer S first step suspects) where
  abbrev pub IsUnstarted : World Mind → ℕ → Type 0
  IsUnstarted w p = Has w.pending (start_of p) input.Start

  -- at tick t
  pub record Stands (t : ℕ) (w : World Mind) (past : List EntryRecord) : Type 0 where
    pub has : HasAll S first step suspects R w
    pub start_or_later : (key : Key) (x : StepInput) → Has w.pending key x → IsStartOrLater key x
    pub unstarted : (p : ℕ) → IsUnstarted w p → state_of S first step suspects R w p ≡ first
    pub outputs : (q p : ℕ) → is_process S.processes p ≡ true → out layer past q t p ≡ set.contains (suspects q (state_of S first step suspects R w q)) p

  module _ (t : ℕ) (w : World Mind) (past : List EntryRecord) (key : Key) (x : StepInput) (is : IsWorld S w) (s : Stands t w past) (least : IsLeast w.pending key x) where
    -- a step adds no start
    pub no_start : (k : Key) → ¬ (IsIn (k, input.Start) (made S w key x).added)
    no_start k i = added_no_start S key.receiver key.tick (w.process key.receiver).counts (acts S first step suspects R w key x s.has) k (subst (IsIn {X = Event} (k, input.Start)) (added_is S first step suspects R w key x s.has) i)

    -- whoever hasn't started yet takes no step but its start
    pub starts_first : (p : ℕ) → IsUnstarted w p → p ≡ key.receiver → key ≡ start_of p
    starts_first p waits at = elim (s.start_or_later key x least.there) [
      | inl e ↦ e.1 ∙ ap start_of (sym at)
      | inr later ↦ absurd (omega (arith, later.0, least_first w.pending key (start_of p) x input.Start least waits))
    ]

    -- a start comes at tick 0, and the detector is as at first
    pub at_start : x ≡ input.Start → (key.tick ≡ 0) × (state_of S first step suspects R w key.receiver ≡ first)
    at_start e = elim (s.start_or_later key x least.there) [
      | inl h ↦ (ap (λ (k : Key). k.tick) h.1, s.unstarted key.receiver (subst (λ k. Has w.pending k input.Start) h.1 (subst (Has w.pending key) e least.there)))
      | inr later ↦ absurd (later.1 e)
    ]

    -- whoever hasn't started after the step hadn't before, and didn't take it
    pub still_unstarted : (p : ℕ) → IsUnstarted (taken S w key x) p → IsUnstarted w p × (p ≢ key.receiver)
    still_unstarted p h = elim (taken_cases S w key x (start_of p) input.Start h) [
      | inl i ↦ absurd (no_start (start_of p) i)
      | inr old ↦ (old.1, λ at. old.0 (sym (starts_first p old.1 at)))
    ]

    next_start_or_later : (k : Key) (y : StepInput) → Has (taken S w key x).pending k y → IsStartOrLater k y
    next_start_or_later k y h = elim (taken_cases S w key x k y h) [
      | inl i ↦ inr (omega (arith, (made_sent S w key x sound is least.there (k, y) i).later), λ e. no_start k (subst (λ z. IsIn {X = Event} (k, z) (made S w key x).added) e i))
      | inr old ↦ s.start_or_later k y old.1
    ]

    next_outputs : key.tick ≤ t → (q p : ℕ) → is_process S.processes p ≡ true
        → out layer (past ++ (made S w key x).entry ∷ []) q t p ≡ set.contains (suspects q (state_of S first step suspects R (taken S w key x) q)) p
    next_outputs low q p one = elim (cases_eq q key.receiver) [
      | inl at ↦ subst (λ r. out layer (past ++ (made S w key x).entry ∷ []) r t p ≡ set.contains (suspects r (state_of S first step suspects R (taken S w key x) r)) p) (sym at) here
      | inr other ↦
          out_same layer past (made S w key x).entry q t p (λ e. other (sym e ∙ receiver_is))
          ∙ (s.outputs q p one ∙ ap (λ d. set.contains (suspects q d) p) (sym (state_other S first step suspects R w key x s.has q other)))
    ]
      where
        receiver_is : (made S w key x).entry.key.receiver ≡ key.receiver
        receiver_is = ap (λ (k : Key). k.receiver) (key_is S first step suspects R w key x s.has)

        tick_is : (made S w key x).entry.key.tick ≡ key.tick
        tick_is = ap (λ (k : Key). k.tick) (key_is S first step suspects R w key x s.has)

        here : out layer (past ++ (made S w key x).entry ∷ []) key.receiver t p ≡ set.contains (suspects key.receiver (state_of S first step suspects R (taken S w key x) key.receiver)) p
        here =
            out_more layer past (made S w key x).entry key.receiver t p receiver_is (omega (arith, low, tick_is))
            ∙ (ap (λ notes. fold (after_note layer) (out layer past key.receiver t) notes p) (notes_is S first step suspects R w key x s.has)
            ∙ (ap (λ (z : Set). z p) (notes_are layer (own S first step suspects R w key x s.has).actions (acts S first step suspects R w key x s.has) (followed S first step suspects R w key x s.has) (out layer past key.receiver t))
            ∙ (noted_out layer S.processes p (suspects key.receiver (state_of S first step suspects R w key.receiver)) (suspects key.receiver (own S first step suspects R w key x s.has).state)
            (own S first step suspects R w key x s.has).actions (out layer past key.receiver t) one (own_tells S first step suspects R w key x s.has) (s.outputs key.receiver p one)
            ∙ ap (λ d. set.contains (suspects key.receiver d) p) (sym (state_at S first step suspects R w key x s.has)))))

    pub stands_next : key.tick ≤ t → Stands t (taken S w key x) (past ++ (made S w key x).entry ∷ [])
    stands_next low = record {
      has = has_next S first step suspects R w key x s.has;
      start_or_later = next_start_or_later;
      unstarted = λ p h. let u = still_unstarted p h in state_other S first step suspects R w key x s.has p u.1 ∙ s.unstarted p u.0;
      outputs = next_outputs low;
    }

  pub stands_first : (t : ℕ) → Stands t (opening S) []
  stands_first t = record {
    has = opening_has S first step suspects R;
    start_or_later = λ key x h. inl (only_starts S.processes key x h);
    unstarted = λ p h. R.opens_with p;
    outputs = λ q p one. sym (ap (λ d. set.contains (suspects q d) p) (R.opens_with q) ∙ R.trusts q p);
  }

  pub stands_kept : (t : ℕ) → IsKept S sound (t + 1) (Stands t)
  stands_kept t = record { opens = stands_first t; keeps = λ w past key x is s least early. stands_next t w past key x is s least (omega (arith, early)) }

  -- at the end of a tick below the horizon OUT is the detector's set
  pub out_is : (trace : List EntryRecord) (t : ℕ) (e : IsEnd S sound trace (t + 1)) → Stands t e.world (entries e.history) → (q p : ℕ) → is_process S.processes p ≡ true
      → out layer trace q t p ≡ set.contains (suspects q (state_of S first step suspects R e.world q)) p
  out_is trace t e s q p one = ap (λ xs. out layer xs q t p) e.whole ∙ (out_so_far layer (entries e.history) e.later q t p e.after ∙ s.outputs q p one)
