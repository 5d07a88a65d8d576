-- What the processes of a window come to together, each by its own run.
use Rattle.window_laws.proofs.Words.{◌≡◌, ◌≢◌, ◌⊎◌, ℕ, ◌+◌, ◌≤◌, inl, inr, refl, sym, ◌∙◌, subst, List, [], ◌∷◌, cases_eq, Key, StepInput, Setting, IsSound, IsProcess, Event, Events, Process, World, Has, IsWorld, Run, IsEmpty, run_exists, one_run, StageRecord, StandsFor, BerthRun, IsPosted}
use Rattle.window_laws.proofs.{Family.{IsFamily, is_or_not, runs_apart}, Solo.{IsSolo, solo, berth_exists}, Order.{end, reach, alone, first_family, first_alone}}
use Rattle.trace_laws.specs.History.{IsIn, Pair, pairs_of}

-- from nothing nothing comes
run_of_empty : {Mind : Type 0} (S : Setting Mind) (tick : ℕ) (h : List Pair) (u v : World Mind) → Run S tick u h v → IsEmpty u.pending → v ≡ u
run_of_empty S tick [] u v run none = run.1
run_of_empty S tick (s ∷ h) u v run none = absurd (none s.0.key s.1 run.0.there)

module _ {Mind : Type 0} (S : Setting Mind) (sound : IsSound S) (window : ℕ) (short : window ≤ S.lookahead)
    (w : World Mind) (is_world : IsWorld S w) (g : StageRecord Mind) (stands : StandsFor S window g w) where
  abbrev till : ℕ
  till = end S sound window short w is_world g stands

  near : till ≤ g.start + S.lookahead
  near = reach S sound window short w is_world g stands

  abbrev worlds : ℕ → World Mind
  worlds = alone S sound window short w is_world g stands

  -- a run of the berth of process p
  abbrev pub IsRunOf : (p : ℕ) → List Pair → Process Mind → Events → List Event → Type 0
  IsRunOf p history now rest letters = BerthRun S p till (g.process p) (g.own p) history now rest letters

  -- what the list does up to the end of the window, and where the run of each process comes to
  pub record IsWhole (list : List Pair) (after : World Mind) : Type 0 where
    pub run : Run S till w list after
    pub last : ℕ → World Mind
    pub family : IsFamily S g.start till after last
    pub runs : (p : ℕ) → Run S till (worlds p) (pairs_of p list) (last p)

  pub whole : (list : List Pair) × (after : World Mind) × IsWhole list after
  whole =
      let l = run_exists S sound till w is_world in
      let a = runs_apart S g.start till sound near l.0 w l.1 worlds (first_family S sound window short w is_world g stands) l.2 in
      (l.0, l.1, record { run = l.2; last = a.0; family = a.1; runs = a.2 })

  module _ (list : List Pair) (after : World Mind) (is : IsWhole list after) where
    module _ (p : ℕ) (history : List Pair) (now : Process Mind) (rest : Events) (letters : List Event) (run : IsRunOf p history now rest letters) where
      one : (history ≡ pairs_of p list) × IsSolo S g.start till p (worlds p) history now rest letters (is.last p)
      one =
          let a = solo S g.start till p sound near history (worlds p) (g.process p) (g.own p) (first_alone S sound window short w is_world g stands p) now rest letters run in
          let same : (history ≡ pairs_of p list) × (a.0 ≡ is.last p) = one_run S till (worlds p) history (pairs_of p list) a.0 (is.last p) a.1.run (is.runs p) in
          (same.0, subst (IsSolo S g.start till p (worlds p) history now rest letters) same.1 a.1)

      pub pairs_are : history ≡ pairs_of p list
      pairs_are = one.0

      pub now_is : IsProcess S p → now ≡ after.process p
      now_is own = one.1.alone.process own ∙ is.family.process p own

      pub rest_in : (k : Key) (y : StepInput) → Has rest k y → Has after.pending k y × (k.receiver ≡ p)
      rest_in k y r = let f = (one.1.alone.own_is k y).0 r in (is.family.parts p k y f.0, f.1)

      pub letter_in : (k : Key) (y : StepInput) → IsIn (k, y) letters → Has after.pending k y
      letter_in k y i = is.family.parts p k y ((one.1.letters_are k y).1 (inr i)).0

      last_in : (k : Key) (y : StepInput) → Has (is.last p).pending k y → ((k.receiver ≡ p) × Has rest k y) ⊎ IsIn (k, y) letters
      last_in k y h = by (cases_eq k.receiver p)
        where
          letter : (Has (g.own p) k y × (k.receiver ≢ p)) ⊎ IsIn (k, y) letters → ((k.receiver ≡ p) × Has rest k y) ⊎ IsIn (k, y) letters
          letter (inl l) = absurd (l.1 ((stands.own p k y).0 l.0).1)
          letter (inr i) = inr i

          by : (k.receiver ≡ p) ⊎ (k.receiver ≡ p → ⊥) → ((k.receiver ≡ p) × Has rest k y) ⊎ IsIn (k, y) letters
          by (inl e) = inl (e, (one.1.alone.own_is k y).1 (h, e))
          by (inr n) = letter ((one.1.letters_are k y).0 (h, n))

    -- what is pending is left at its receiver, or was posted
    pub whole_place : (history : ℕ → List Pair) (now : ℕ → Process Mind) (rest : ℕ → Events) (letters : ℕ → List Event) → ((p : ℕ) → IsProcess S p → IsRunOf p (history p) (now p) (rest p) (letters p))
        → (k : Key) (y : StepInput) → Has after.pending k y → Has (rest k.receiver) k y ⊎ IsPosted S letters k.receiver k y
    whole_place history now rest letters run k y i = go (is.family.union k y i)
      where
        go : (q : ℕ) × Has (is.last q).pending k y → Has (rest k.receiver) k y ⊎ IsPosted S letters k.receiver k y
        go (q, h) = by (is_or_not S q)
          where
            at : IsProcess S q → ((k.receiver ≡ q) × Has (rest q) k y) ⊎ IsIn (k, y) (letters q) → Has (rest k.receiver) k y ⊎ IsPosted S letters k.receiver k y
            at own (inl r) = inl (subst (λ p. Has (rest p) k y) (sym r.0) r.1)
            at own (inr i) = inr (q, own, i, refl)

            -- who is no process has nothing
            empty : ¬ (IsProcess S q) → IsEmpty (g.own q)
            empty not z x j = let f = (stands.own q z x).0 j in not (subst (IsProcess S) f.1 (is_world.received z x f.0))

            by : IsProcess S q ⊎ ¬ (IsProcess S q) → Has (rest k.receiver) k y ⊎ IsPosted S letters k.receiver k y
            by (inl own) = at own (last_in q (history q) (now q) (rest q) (letters q) (run q own) k y h)
            by (inr not) = absurd (empty not k y (subst (λ (z : World Mind). Has z.pending k y) (run_of_empty S till (pairs_of q list) (worlds q) (is.last q) (is.runs q) (empty not)) h))

  -- a process has a run
  pub own_run : (p : ℕ) → (history : List Pair) × (now : Process Mind) × (rest : Events) × (letters : List Event) × IsRunOf p history now rest letters
  own_run p = berth_exists S g.start till p sound near (worlds p) (g.process p) (g.own p) (first_alone S sound window short w is_world g stands p)
