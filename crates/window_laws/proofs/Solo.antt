-- The run of one berth is the run of its process alone.
use Rattle.window_laws.proofs.Words.{◌++◌, ◌≡◌, ◌≢◌, ◌⊎◌, ◌↔◌, ℕ, ◌+◌, ◌<◌, ◌≤◌, inl, inr, refl, sym, ap, ◌∙◌, subst, List, [], ◌∷◌, arith, Less, not, nat_eq, eq-eqb, eqb-true, eqb-false, ne_eqb, not-true, key_cmp, Key, StepInput, ticks_rise, Setting, IsSound, IsProcess, Event, Events, Process, Made, step, World, Has, IsLeast, made, taken, Run, joined, run_exists, one_input, removed, removed_back, joined_cases, in_append, in_left, in_right, process_at, taken_cases, taken_old, taken_new, for_self, for_others, BerthRun}
use Rattle.window_laws.proofs.{Unions.{in_filter, filter_in, iff_join, joined_back}, Family.{IsOwn, own_taken}}
use Rattle.std.specs.FinMap as finmap
use Rattle.trace_laws.specs.History.{IsIn, Pair}

module _ {Mind : Type 0} (S : Setting Mind) (start end p : ℕ) where
  -- a world of process p alone, beside its berth
  pub record IsAlone (u : World Mind) (c : Process Mind) (own : Events) : Type 0 where
    pub is_own : IsOwn S start end p u
    pub process : IsProcess S p → c ≡ u.process p
    pub own_is : (k : Key) (y : StepInput) → Has own k y ↔ (Has u.pending k y × (k.receiver ≡ p))

  -- letters of the world to others
  abbrev pub IsLetter : World Mind → Key → StepInput → Type 0
  IsLetter u k y = Has u.pending k y × (k.receiver ≢ p)

  -- what a berth comes to
  pub record IsSolo (u : World Mind) (history : List Pair) (after : Process Mind) (rest : Events) (letters : List Event) (v : World Mind) : Type 0 where
    pub run : Run S end u history v
    pub alone : IsAlone v after rest
    pub letters_are : (z : Key) (y : StepInput) → IsLetter v z y ↔ (IsLetter u z y ⊎ IsIn (z, y) letters)

  module _ (sound : IsSound S) (reach : end ≤ start + S.lookahead) where
    module _ (u : World Mind) (c : Process Mind) (own : Events) (a : IsAlone u c own) (k : Key) (x : StepInput) (least : IsLeast own k x) (early : k.tick < end) where
      pub there : Has u.pending k x
      there = ((a.own_is k x).0 least.there).0

      pub to_p : k.receiver ≡ p
      to_p = ((a.own_is k x).0 least.there).1

      pub least_alone : IsLeast u.pending k x
      least_alone = record { there = there; none_before = λ z y h before. go z y h before (a.is_own.far z y h) }
        where
          go : (z : Key) (y : StepInput) → Has u.pending z y → key_cmp z k ≡ Less → (z.receiver ≡ p) ⊎ (end ≤ z.tick) → ⊥
          go z y h before (inl e) = least.none_before z y ((a.own_is z y).1 (h, e)) before
          go z y h before (inr l) = omega (arith, ticks_rise z k before)

      -- the berth's step is the world's
      pub same_step : step S c k x ≡ made S u k x
      same_step = ap (λ b. step S b k x) (a.process (subst (IsProcess S) to_p (a.is_own.world.received k x there)) ∙ ap u.process (sym to_p))

      abbrev m : Made S
      m = step S c k x

      pub new_there : (z : Key) (y : StepInput) → IsIn (z, y) m.added → Has (taken S u k x).pending z y
      new_there z y i = taken_new S u k x sound a.is_own.world there z y (subst (λ (n : Made S). IsIn (z, y) n.added) same_step i)

      new_back : (z : Key) (y : StepInput) → Has (taken S u k x).pending z y → IsIn (z, y) m.added ⊎ ((z ≢ k) × Has u.pending z y)
      new_back z y h = subst (λ (n : Made S). IsIn (z, y) n.added ⊎ ((z ≢ k) × Has u.pending z y)) (sym same_step) (taken_cases S u k x z y h)

      self_in : (z : Key) (y : StepInput) → IsIn (z, y) (for_self p m.added) → IsIn (z, y) m.added × (z.receiver ≡ p)
      self_in z y i = let f = in_filter (λ (e : Event). nat_eq e.0.receiver p) (z, y) m.added i in (f.0, eqb-true z.receiver p f.1)

      pub other_in : (z : Key) (y : StepInput) → IsIn (z, y) (for_others p m.added) → IsIn (z, y) m.added × (z.receiver ≢ p)
      other_in z y i = let f = in_filter (λ (e : Event). not (nat_eq e.0.receiver p)) (z, y) m.added i in (f.0, eqb-false z.receiver p (not-true _ f.1))

      in_other : (z : Key) (y : StepInput) → IsIn (z, y) m.added → z.receiver ≢ p → IsIn (z, y) (for_others p m.added)
      in_other z y i n = filter_in (λ (e : Event). not (nat_eq e.0.receiver p)) (z, y) m.added i (ap not (ne_eqb z.receiver p n))

      pub next_alone : IsAlone (taken S u k x) m.process (joined (finmap.remove own k) (for_self p m.added))
      next_alone = record {
        is_own = own_taken S start end sound reach p u k x a.is_own there to_p;
        process = λ _. ap (λ (n : Made S). n.process) same_step ∙ sym (process_at S u k x) ∙ ap (taken S u k x).process to_p;
        own_is = λ z y. ((λ h. own_there z y (joined_cases (for_self p m.added) (finmap.remove own k) z y h)), λ h. own_back z y h.0 h.1);
      }
        where
          own_there : (z : Key) (y : StepInput) → IsIn (z, y) (for_self p m.added) ⊎ Has (finmap.remove own k) z y → Has (taken S u k x).pending z y × (z.receiver ≡ p)
          own_there z y (inl i) = let f = self_in z y i in (new_there z y f.0, f.1)
          own_there z y (inr o) = let r = removed own k z y o in let f = (a.own_is z y).0 r.1 in (taken_old S u k x sound a.is_own.world there z y r.0 f.0, f.1)

          own_back : (z : Key) (y : StepInput) → Has (taken S u k x).pending z y → z.receiver ≡ p → Has (joined (finmap.remove own k) (for_self p m.added)) z y
          own_back z y h e = joined_back (for_self p m.added) (finmap.remove own k) z y same (go (new_back z y h))
            where
              same : (f : Event) → IsIn f (for_self p m.added) → f.0 ≡ z → f.1 ≡ y
              same f i is = one_input (taken S u k x).pending z f.1 y (subst (λ s. Has (taken S u k x).pending s f.1) is (new_there f.0 f.1 (self_in f.0 f.1 i).0)) h

              go : IsIn (z, y) m.added ⊎ ((z ≢ k) × Has u.pending z y) → IsIn (z, y) (for_self p m.added) ⊎ Has (finmap.remove own k) z y
              go (inl i) = inl (filter_in (λ (f : Event). nat_eq f.0.receiver p) (z, y) m.added i (eq-eqb _ _ e))
              go (inr o) = inr (removed_back own k z y o.0 ((a.own_is z y).1 (o.1, e)))

      -- the letters of the step join those of the world
      pub next_letters : (z : Key) (y : StepInput) → IsLetter (taken S u k x) z y ↔ (IsLetter u z y ⊎ IsIn (z, y) (for_others p m.added))
      next_letters z y = ((λ h. go h.1 (new_back z y h.0)), back)
        where
          go : z.receiver ≢ p → IsIn (z, y) m.added ⊎ ((z ≢ k) × Has u.pending z y) → IsLetter u z y ⊎ IsIn (z, y) (for_others p m.added)
          go n (inl i) = inr (in_other z y i n)
          go n (inr o) = inl (o.1, n)

          back : IsLetter u z y ⊎ IsIn (z, y) (for_others p m.added) → IsLetter (taken S u k x) z y
          back (inl l) = (taken_old S u k x sound a.is_own.world there z y (λ e. l.1 (ap (λ (s : Key). s.receiver) e ∙ to_p)) l.0, l.1)
          back (inr i) = let f = other_in z y i in (new_there z y f.0, f.1)

    pub solo : (history : List Pair) (u : World Mind) (c : Process Mind) (own : Events) → IsAlone u c own → (after : Process Mind) (rest : Events) (letters : List Event)
        → BerthRun S p end c own history after rest letters → (v : World Mind) × IsSolo u history after rest letters v
    solo [] u c own a after rest letters (none, same, left, nothing) = (
      u,
      record {
        run = ((λ k y h. go k y h (a.is_own.far k y h)), refl);
        alone = subst (λ z. IsAlone u z rest) (sym same) (subst (λ z. IsAlone u c z) (sym left) a);
        letters_are = λ z y. ((λ h. inl h), back z y);
      },
    )
      where
        go : (k : Key) (y : StepInput) → Has u.pending k y → (k.receiver ≡ p) ⊎ (end ≤ k.tick) → end ≤ k.tick
        go k y h (inl e) = none k y ((a.own_is k y).1 (h, e))
        go k y h (inr l) = l

        back : (z : Key) (y : StepInput) → IsLetter u z y ⊎ IsIn (z, y) letters → IsLetter u z y
        back z y (inl h) = h
        back z y (inr i) = absurd (subst (λ l. IsIn (z, y) l) nothing i)
    solo (s ∷ history) u c own a after rest letters (least, early, entry, more, all, later) =
        let r = solo history (taken S u s.0.key s.1) (step S c s.0.key s.1).process (joined (finmap.remove own s.0.key) (for_self p (step S c s.0.key s.1).added))
        (next_alone u c own a s.0.key s.1 least early) after rest more later in (
          r.0,
          record {
            run = (least_alone u c own a s.0.key s.1 least early, early, entry ∙ ap (λ (n : Made S). n.entry) (same_step u c own a s.0.key s.1 least early), r.1.run);
            alone = r.1.alone;
            letters_are = λ z y. iff_join (r.1.letters_are z y) (next_letters u c own a s.0.key s.1 least early z y)
                (λ i. subst (IsIn (z, y)) (sym all) (in_left _ _ more i)) (λ i. subst (IsIn (z, y)) (sym all) (in_right _ _ more i)) (λ i. in_append _ _ more (subst (IsIn (z, y)) all i));
          },
        )

    -- a berth can always be run to the end of the window
    berth_of : (history : List Pair) (u : World Mind) (c : Process Mind) (own : Events) → IsAlone u c own → (v : World Mind) → Run S end u history v
        → (after : Process Mind) × (rest : Events) × (letters : List Event) × BerthRun S p end c own history after rest letters
    berth_of [] u c own a v run = (c, own, [], ((λ k y h. run.0 k y ((a.own_is k y).0 h).0), refl, refl, refl))
    berth_of (s ∷ history) u c own a v run =
        let r = berth_of history (taken S u s.0.key s.1) (step S c s.0.key s.1).process (joined (finmap.remove own s.0.key) (for_self p (step S c s.0.key s.1).added))
        (next_alone u c own a s.0.key s.1 least run.1) v run.3 in (
          r.0,
          r.1,
          for_others p (step S c s.0.key s.1).added ++ r.2,
          (least, run.1, run.2 ∙ ap (λ (n : Made S). n.entry) (sym (same_step u c own a s.0.key s.1 least run.1)), r.2, refl, r.3),
        )
      where
        mine : (s.0.key.receiver ≡ p) ⊎ (end ≤ s.0.key.tick) → s.0.key.receiver ≡ p
        mine (inl e) = e
        mine (inr l) = absurd (omega (arith, run.1))

        least : IsLeast own s.0.key s.1
        least = record { there = (a.own_is s.0.key s.1).1 (run.0.there, mine (a.is_own.far s.0.key s.1 run.0.there)); none_before = λ z y h. run.0.none_before z y ((a.own_is z y).0 h).0 }

    pub berth_exists : (u : World Mind) (c : Process Mind) (own : Events) → IsAlone u c own
        → (history : List Pair) × (after : Process Mind) × (rest : Events) × (letters : List Event) × BerthRun S p end c own history after rest letters
    berth_exists u c own a =
        let l = run_exists S sound end u a.is_own.world in
        let r = berth_of l.0 u c own a l.1 l.2 in
        (l.0, r.0, r.1, r.2, r.3)
