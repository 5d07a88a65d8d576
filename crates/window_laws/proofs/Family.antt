-- A world split into one world for each process. Inside a window each of these goes its own way, because a letter to another process is due at the end or later.
use Rattle.window_laws.proofs.Words.{◌≡◌, ◌≢◌, ◌⊎◌, ℕ, ◌+◌, ◌<◌, ◌≤◌, inl, inr, refl, sym, ap, ◌∙◌, subst, List, [], ◌∷◌, arith, Bool, true, false, cond, nat_eq, cases_eq, cases_lt, eqb-true, eqb-false, Key, StepInput, change, Setting, IsSound, IsProcess, Made, step, World, Has, IsLeast, IsWorld, made, taken, Run, change_at, change_other, process_at, process_other, taken_cases, taken_old, taken_new, taken_world, made_sent, pairs_here, pairs_other}
use Rattle.trace_laws.specs.History.{IsIn, Pair, pairs_of}

-- by whether q is the place p at which functions change
pub by_place : (p q : ℕ) (P : Bool → Type 0) → (q ≡ p → P true) → (q ≢ p → P false) → P (nat_eq q p)
by_place p q P here there = go (nat_eq q p) refl
  where
    go : (b : Bool) → nat_eq q p ≡ b → P b
    go true e = here (eqb-true q p e)
    go false e = there (eqb-false q p e)

-- what holds of the new value, and of the old ones elsewhere, holds after a change
pub change_all : {X : Type 0} (f : ℕ → X) (p : ℕ) (v : X) (P : ℕ → X → Type 0) → P p v → ((q : ℕ) → q ≢ p → P q (f q)) → (q : ℕ) → P q (change f p v q)
change_all f p v P here there q = by_place p q (λ b. P q (cond b v (f q))) (λ e. subst (λ r. P r v) (sym e) here) (there q)

-- the same of two functions that change at one place
pub change_both : {X Y : Type 0} (f : ℕ → X) (g : ℕ → Y) (p : ℕ) (v : X) (w : Y) (P : ℕ → X → Y → Type 0) → P p v w → ((q : ℕ) → q ≢ p → P q (f q) (g q)) → (q : ℕ) → P q (change f p v q) (change g p w q)
change_both f g p v w P here there q = by_place p q (λ b. P q (cond b v (f q)) (cond b w (g q))) (λ e. subst (λ r. P r v w) (sym e) here) (there q)

module _ {Mind : Type 0} (S : Setting Mind) where
  pub is_or_not : (p : ℕ) → IsProcess S p ⊎ ¬ (IsProcess S p)
  is_or_not p = go (cases_lt 0 p) (cases_lt S.processes p)
    where
      go : (0 < p) ⊎ (p ≤ 0) → (S.processes < p) ⊎ (p ≤ S.processes) → IsProcess S p ⊎ ¬ (IsProcess S p)
      go (inl low) (inr high) = inl (low, high)
      go (inr low) b = inr (λ is. omega (arith, is.0))
      go a (inl high) = inr (λ is. omega (arith, is.1))

module _ {Mind : Type 0} (S : Setting Mind) (start end : ℕ) where
  -- a world of process p alone: what is for another process is due at the end or later
  pub record IsOwn (p : ℕ) (u : World Mind) : Type 0 where
    pub world : IsWorld S u
    pub far : (k : Key) (y : StepInput) → Has u.pending k y → (k.receiver ≡ p) ⊎ (end ≤ k.tick)
    pub late : (k : Key) (y : StepInput) → Has u.pending k y → start ≤ k.tick

  pub record IsFamily (u : World Mind) (v : ℕ → World Mind) : Type 0 where
    pub whole : IsWorld S u
    pub each : (q : ℕ) → IsOwn q (v q)
    pub process : (p : ℕ) → IsProcess S p → (v p).process p ≡ u.process p
    pub union : (k : Key) (y : StepInput) → Has u.pending k y → (q : ℕ) × Has (v q).pending k y
    pub parts : (q : ℕ) (k : Key) (y : StepInput) → Has (v q).pending k y → Has u.pending k y

  -- an event below the end is with its receiver
  pub at_receiver : (u : World Mind) (v : ℕ → World Mind) → IsFamily u v → (k : Key) (y : StepInput) → Has u.pending k y → k.tick < end → Has (v k.receiver).pending k y
  at_receiver u v family k y h early = go (family.union k y h)
    where
      go : (q : ℕ) × Has (v q).pending k y → Has (v k.receiver).pending k y
      go (q, hq) = by ((family.each q).far k y hq)
        where
          by : (k.receiver ≡ q) ⊎ (end ≤ k.tick) → Has (v k.receiver).pending k y
          by (inl e) = subst (λ r. Has (v r).pending k y) (sym e) hq
          by (inr l) = absurd (omega arith)

  module _ (sound : IsSound S) (reach : end ≤ start + S.lookahead) where
    -- a world of a process alone stays one
    pub own_taken : (p : ℕ) (u : World Mind) (k : Key) (x : StepInput) → IsOwn p u → Has u.pending k x → k.receiver ≡ p → IsOwn p (taken S u k x)
    own_taken p u k x own there to_p = record { world = taken_world S u k x sound own.world there; far = λ z y h. (go z y (taken_cases S u k x z y h)).0; late = λ z y h. (go z y (taken_cases S u k x z y h)).1 }
      where
        new : (z : Key) (y : StepInput) → IsIn (z, y) (made S u k x).added → (z.receiver ≡ p) ⊎ (z.receiver ≡ p → ⊥) → (z.receiver ≡ p) ⊎ (end ≤ z.tick)
        new z y i (inl e) = inl e
        new z y i (inr n) = inr (omega (arith, (made_sent S u k x sound own.world there (z, y) i).far (λ f. n (f ∙ to_p)), own.late k x there))

        go : (z : Key) (y : StepInput) → IsIn (z, y) (made S u k x).added ⊎ ((z ≢ k) × Has u.pending z y) → ((z.receiver ≡ p) ⊎ (end ≤ z.tick)) × (start ≤ z.tick)
        go z y (inl i) = (new z y i (cases_eq z.receiver p), omega (arith, (made_sent S u k x sound own.world there (z, y) i).later, own.late k x there))
        go z y (inr o) = (own.far z y o.1, own.late z y o.1)

    -- a step of one process in its own world is a step of it in the whole
    module _ (u : World Mind) (v : ℕ → World Mind) (family : IsFamily u v) (k : Key) (x : StepInput) (there_v : Has (v k.receiver).pending k x) (early : k.tick < end) where
      abbrev pub stepped : ℕ → World Mind
      stepped = change v k.receiver (taken S (v k.receiver) k x)

      there_u : Has u.pending k x
      there_u = family.parts k.receiver k x there_v

      same_made : made S (v k.receiver) k x ≡ made S u k x
      same_made = ap (λ c. step S c k x) (family.process k.receiver (family.whole.received k x there_u))

      pub at_own : (z : Key) (y : StepInput) → Has (taken S (v k.receiver) k x).pending z y → Has (stepped k.receiver).pending z y
      at_own z y h = subst (λ (w : World Mind). Has w.pending z y) (sym (change_at v k.receiver (taken S (v k.receiver) k x))) h

      -- what isn't taken stays where it is
      pub kept : (q : ℕ) (z : Key) (y : StepInput) → (q ≡ k.receiver → z ≢ k) → Has (v q).pending z y → Has (stepped q).pending z y
      kept q z y = change_all v k.receiver _ (λ q w. (q ≡ k.receiver → z ≢ k) → Has (v q).pending z y → Has w.pending z y)
          (λ n. taken_old S (v k.receiver) k x sound (family.each k.receiver).world there_v z y (n refl)) (λ q m n h. h) q

      not_there : (q : ℕ) → q ≢ k.receiver → (z : Key) (y : StepInput) → Has (v q).pending z y → z ≢ k
      not_there q n z y h e = go ((family.each q).far k y (subst (λ s. Has (v q).pending s y) e h))
        where
          go : (k.receiver ≡ q) ⊎ (end ≤ k.tick) → ⊥
          go (inl f) = n (sym f)
          go (inr l) = omega arith

      pub stepped_family : IsFamily (taken S u k x) stepped
      stepped_family = record { whole = taken_world S u k x sound family.whole there_u; each = each; process = process; union = union; parts = parts }
        where
          each : (q : ℕ) → IsOwn q (stepped q)
          each = change_all v k.receiver _ (λ q z. IsOwn q z) (own_taken k.receiver (v k.receiver) k x (family.each k.receiver) there_v refl) (λ q n. family.each q)

          process : (p : ℕ) → IsProcess S p → (stepped p).process p ≡ (taken S u k x).process p
          process = change_all v k.receiver _ (λ p z. IsProcess S p → z.process p ≡ (taken S u k x).process p)
              (λ is. process_at S (v k.receiver) k x ∙ ap (λ (m : Made S). m.process) same_made ∙ sym (process_at S u k x))
              (λ q n is. family.process q is ∙ sym (process_other S u k x q n))

          parts : (q : ℕ) (z : Key) (y : StepInput) → Has (stepped q).pending z y → Has (taken S u k x).pending z y
          parts = change_all v k.receiver _ (λ q w. (z : Key) (y : StepInput) → Has w.pending z y → Has (taken S u k x).pending z y)
              (λ z y h. here z y (taken_cases S (v k.receiver) k x z y h))
              (λ q n z y h. taken_old S u k x sound family.whole there_u z y (not_there q n z y h) (family.parts q z y h))
            where
              here : (z : Key) (y : StepInput) → IsIn (z, y) (made S (v k.receiver) k x).added ⊎ ((z ≢ k) × Has (v k.receiver).pending z y) → Has (taken S u k x).pending z y
              here z y (inl i) = taken_new S u k x sound family.whole there_u z y (subst (λ (m : Made S). IsIn (z, y) m.added) same_made i)
              here z y (inr h) = taken_old S u k x sound family.whole there_u z y h.0 (family.parts k.receiver z y h.1)

          union : (z : Key) (y : StepInput) → Has (taken S u k x).pending z y → (q : ℕ) × Has (stepped q).pending z y
          union z y h = go (taken_cases S u k x z y h)
            where
              go : IsIn (z, y) (made S u k x).added ⊎ ((z ≢ k) × Has u.pending z y) → (q : ℕ) × Has (stepped q).pending z y
              go (inl i) = (k.receiver, at_own z y (taken_new S (v k.receiver) k x sound (family.each k.receiver).world there_v z y (subst (λ (m : Made S). IsIn (z, y) m.added) (sym same_made) i)))
              go (inr h2) = let f = family.union z y h2.1 in (f.0, kept f.0 z y (λ _. h2.0) f.1)

      -- the least of the whole is the least of its receiver
      pub least_apart : IsLeast u.pending k x → IsLeast (v k.receiver).pending k x
      least_apart least = record { there = there_v; none_before = λ z y h. least.none_before z y (family.parts k.receiver z y h) }

    -- a run of the list is, for each process, a run of its own world
    pub runs_apart : (h : List Pair) (u last : World Mind) (v : ℕ → World Mind) → IsFamily u v → Run S end u h last
        → (w : ℕ → World Mind) × IsFamily last w × ((p : ℕ) → Run S end (v p) (pairs_of p h) (w p))
    runs_apart [] u last v family run = (v, subst (λ z. IsFamily z v) (sym run.1) family, λ p. ((λ k y h. run.0 k y (family.parts p k y h)), refl))
    runs_apart (s ∷ rest) u last v family run = go (runs_apart rest (taken S u k x) last (stepped u v family k x there run.1) (stepped_family u v family k x there run.1) run.3)
      where
        k : Key
        k = s.0.key

        x : StepInput
        x = s.1

        there : Has (v k.receiver).pending k x
        there = at_receiver u v family k x run.0.there run.1

        go : (w : ℕ → World Mind) × IsFamily last w × ((p : ℕ) → Run S end (stepped u v family k x there run.1 p) (pairs_of p rest) (w p))
            → (w : ℕ → World Mind) × IsFamily last w × ((p : ℕ) → Run S end (v p) (pairs_of p (s ∷ rest)) (w p))
        go (w, last_family, runs) = (w, last_family, λ p. by p (cases_eq k.receiver p))
          where
            at : Run S end (v k.receiver) (pairs_of k.receiver (s ∷ rest)) (w k.receiver)
            at = subst (λ l. Run S end (v k.receiver) l (w k.receiver)) (sym (pairs_here s rest k.receiver refl)) (
              least_apart u v family k x there run.1 run.0,
              run.1,
              run.2 ∙ ap (λ (m : Made S). m.entry) (sym (same_made u v family k x there run.1)),
              subst (λ z. Run S end z (pairs_of k.receiver rest) (w k.receiver)) (change_at v k.receiver (taken S (v k.receiver) k x)) (runs k.receiver),
            )

            by : (p : ℕ) → (k.receiver ≡ p) ⊎ (k.receiver ≡ p → ⊥) → Run S end (v p) (pairs_of p (s ∷ rest)) (w p)
            by p (inl e) = subst (λ q. Run S end (v q) (pairs_of q (s ∷ rest)) (w q)) e at
            by p (inr n) = subst (λ l. Run S end (v p) l (w p)) (sym (pairs_other s rest p n))
                (subst (λ z. Run S end z (pairs_of p rest) (w p)) (change_other v k.receiver (taken S (v k.receiver) k x) p (λ e. n (sym e))) (runs p))
