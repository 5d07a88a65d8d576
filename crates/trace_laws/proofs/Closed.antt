-- Runs and closed histories are the same.
use Rattle.trace_laws.proofs.Words.{◌≡◌, ◌≢◌, ◌⊎◌, ◌↔◌, ℕ, zero, suc, ◌<◌, ◌≤◌, inl, inr, refl, sym, ap, ◌∙◌, subst, List, [], ◌∷◌, arith, Less, cases_lt, key_cmp, is_rising, Key, StepInput, Start, Setting, IsSound, EntryRecord, World, Has, IsLeast, NoneBelow, IsWorld, made, taken, Run, opening, opening_process, starts, start_of, entries, IsTrace, keys_total, before_by_tick, before_or_not, ticks_rise, not_before_itself, not_both, same_or_not}
use Rattle.trace_laws.proofs.{Sets.{one_input, not_None, insert_at, insert_other, inserted}, Worlds.{taken_cases, taken_old, taken_new, taken_world, made_sent}, Runs.{run_exists, one_run}, Rising.{IsRising, rising_pairs, rising_entries}}
use Rattle.trace_laws.proofs.Pairs.{cause, in_pairs, added_split, added_first, added_after, steps_split, steps_join}
use Rattle.std.specs.FinMap as finmap
use Rattle.std.specs.Prelude.{IsTrue}
use Rattle.trace_laws.specs.History.{IsIn, Pair, pairs_of, IsAddedBySome, IsTaken, IsClosedFrom, IsClosedBetween, IsClosed, IsStart, IsOnly}

-- the front of a rising history is not after any of it
front_first : (s : Pair) (rest : List Pair) → IsRising (s ∷ rest) → (c : Pair) → IsIn c (s ∷ rest) → s.0.key.tick ≤ c.0.key.tick
front_first s rest rising c (inl e) = let same : c.0.key.tick ≡ s.0.key.tick = ap (λ (t : Pair). t.0.key.tick) e in omega arith
front_first s rest rising c (inr i) = ticks_rise s.0.key c.0.key (rising.0 c i)

-- an event of a longer history is its first, or is taken later
taken_split : (s : Pair) (rest : List Pair) (q : Key) (y : StepInput) → IsTaken q y (s ∷ rest) → ((q ≡ s.0.key) × (y ≡ s.1)) ⊎ IsTaken q y rest
taken_split s rest q y (entry, same, inl e) = inl (sym same ∙ ap (λ (t : Pair). t.0.key) e, ap (λ (t : Pair). t.1) e)
taken_split s rest q y (entry, same, inr i) = inr (entry, same, i)

taken_rest : (s : Pair) (rest : List Pair) (q : Key) (y : StepInput) → IsTaken q y rest → IsTaken q y (s ∷ rest)
taken_rest s rest q y t = (t.0, t.1, inr t.2)

taken_front : (s : Pair) (rest : List Pair) → IsTaken s.0.key s.1 (s ∷ rest)
taken_front s rest = (s.0, refl, inl refl)

module _ {Mind : Type 0} (S : Setting Mind) (sound : IsSound S) (end : ℕ) where
  module _ (w : World Mind) (is_world : IsWorld S w) (s : Pair) (rest : List Pair) where
    abbrev after : World Mind
    after = taken S w s.0.key s.1

    -- what is added in a history that begins with s is later than s
    added_later : IsRising (s ∷ rest) → (q : Key) (y : StepInput) → IsAddedBySome S w.process q y (s ∷ rest) → s.0.key.tick < q.tick
    added_later rising q y (p, is_process, h) =
        let c = cause S sound p is_process (w.process p) (is_world.minds p is_process) (pairs_of p (s ∷ rest)) (λ c i. (in_pairs p (s ∷ rest) c i).1) q y h in
        omega (arith, c.2.later, front_first s rest rising c.0 (in_pairs p (s ∷ rest) c.0 c.1).0)

    -- what is given before the step of s, and what after it
    module _ (there : Has w.pending s.0.key s.1) where
      given_before : (q : Key) (y : StepInput) → Has after.pending q y ⊎ IsAddedBySome S after.process q y rest → ((q ≢ s.0.key) × Has w.pending q y) ⊎ IsAddedBySome S w.process q y (s ∷ rest)
      given_before q y (inl h) = elim (taken_cases S w s.0.key s.1 q y h) [
        | inl i ↦ inr (s.0.key.receiver, is_world.received s.0.key s.1 there, added_first S w s rest q y i)
        | inr old ↦ inl old
      ]
      given_before q y (inr (p, is, a)) = inr (p, is, added_after S w s rest p q y a)

      added_still : (q : Key) (y : StepInput) → IsAddedBySome S w.process q y (s ∷ rest) → Has after.pending q y ⊎ IsAddedBySome S after.process q y rest
      added_still q y (p, is, a) = elim (added_split S w s rest p q y a) [
        | inl i ↦ inl (taken_new S w s.0.key s.1 sound is_world there q y i.1)
        | inr later ↦ inr (p, is, later)
      ]

    -- the first pair of a closed history is the step of the least pending event, and the rest is closed after it
    module _ (closed : IsClosedBetween S w end (s ∷ rest)) where
      rises : IsRising (s ∷ rest)
      rises = rising_pairs (s ∷ rest) closed.rising

      front_given : (s.0.key.tick < end) × Has w.pending s.0.key s.1
      front_given =
          let known = (closed.exact s.0.key s.1).0 (taken_front s rest) in
          (known.0, elim known.1 [ inl h ↦ h | inr a ↦ absurd (omega (arith, added_later rises s.0.key s.1 a)) ])

      front_least : IsLeast w.pending s.0.key s.1
      front_least = record {
        there = front_given.1;
        none_before = λ q y h before. elim (taken_split s rest q y ((closed.exact q y).1 (omega (arith, ticks_rise q s.0.key before, front_given.0), inl h))) [
          | inl e ↦ not_before_itself s.0.key (subst (λ z. key_cmp z s.0.key ≡ Less) e.0 before)
          | inr r ↦ not_both q s.0.key before (subst (λ z. key_cmp s.0.key z ≡ Less) r.1 (rises.0 (r.0, y) r.2))
        ];
      }

      front_entry : s.0 ≡ (made S w s.0.key s.1).entry
      front_entry = (steps_split S w s rest s.0.key.receiver (closed.steps s.0.key.receiver (is_world.received s.0.key s.1 front_given.1))).0 refl

      rest_closed : IsClosedBetween S after end rest
      rest_closed = record {
        rising = rising_entries rest rises.1;
        steps = λ p is. (steps_split S w s rest p (closed.steps p is)).1;
        exact = λ q y. (there q y, back q y);
      }
        where
          there : (q : Key) (y : StepInput) → IsTaken q y rest → (q.tick < end) × (Has after.pending q y ⊎ IsAddedBySome S after.process q y rest)
          there q y t =
              let known = (closed.exact q y).0 (taken_rest s rest q y t) in
              let apart : q ≢ s.0.key = λ e. not_before_itself s.0.key (subst (λ z. key_cmp s.0.key z ≡ Less) (t.1 ∙ e) (rises.0 (t.0, y) t.2)) in
              (known.0, elim known.1 [ inl h ↦ inl (taken_old S w s.0.key s.1 sound is_world front_given.1 q y apart h) | inr a ↦ added_still front_given.1 q y a ])

          later : (q : Key) (y : StepInput) → q ≢ s.0.key → IsTaken q y (s ∷ rest) → IsTaken q y rest
          later q y n t = elim (taken_split s rest q y t) [ inl e ↦ absurd (n e.0) | inr r ↦ r ]

          back : (q : Key) (y : StepInput) → (q.tick < end) × (Has after.pending q y ⊎ IsAddedBySome S after.process q y rest) → IsTaken q y rest
          back q y (below, given) = elim (given_before front_given.1 q y given) [
            | inl h ↦ later q y h.0 ((closed.exact q y).1 (below, inl h.1))
            | inr a ↦ later q y (λ e. omega (arith, added_later rises q y a, ap (λ (z : Key). z.tick) e)) ((closed.exact q y).1 (below, inr a))
          ]

    -- a run's first step before a closed history
    module _ (last : World Mind) (run : Run S end w (s ∷ rest) last) (closed : IsClosedBetween S after end rest) where
      -- what is pending afterwards is after s
      after_front : (q : Key) (y : StepInput) → Has after.pending q y → key_cmp s.0.key q ≡ Less
      after_front q y h = elim (taken_cases S w s.0.key s.1 q y h) [
        | inl i ↦ before_by_tick s.0.key q (made_sent S w s.0.key s.1 sound is_world run.0.there (q, y) i).later
        | inr (n, old) ↦ elim (before_or_not q s.0.key) [
          | inl b ↦ absurd (run.0.none_before q y old b)
          | inr (inl e) ↦ absurd (n e)
          | inr (inr a) ↦ a
        ]
      ]

      joined_rising : (rest2 : List Pair) → rest ≡ rest2 → IsRising (s ∷ rest2)
      joined_rising [] e = ((λ t none. absurd none), tt)
      joined_rising (t ∷ rest2) e =
          let rising : IsRising (t ∷ rest2) = subst IsRising e (rising_pairs rest closed.rising) in
          let next : key_cmp s.0.key t.0.key ≡ Less = after_front t.0.key t.1 (subst (λ z. Run S end after z last) e run.3).0.there in (
            (λ c i. elim i [
              | inl f ↦ subst (λ (z : Pair). key_cmp s.0.key z.0.key ≡ Less) (sym f) next
              | inr j ↦ keys_total.trans s.0.key t.0.key c.0.key next (rising.0 c j)
            ]),
            rising,
          )

      joined_closed : IsClosedBetween S w end (s ∷ rest)
      joined_closed = record {
        rising = rising_entries (s ∷ rest) (joined_rising rest refl);
        steps = λ p is. steps_join S w s rest p run.2 (closed.steps p is);
        exact = λ q y. (there q y, back q y);
      }
        where
          there : (q : Key) (y : StepInput) → IsTaken q y (s ∷ rest) → (q.tick < end) × (Has w.pending q y ⊎ IsAddedBySome S w.process q y (s ∷ rest))
          there q y t = elim (taken_split s rest q y t) [
            | inl e ↦ (subst (λ (z : Key). z.tick < end) (sym e.0) run.1, inl (subst (λ z. Has w.pending q z) (sym e.1) (subst (λ z. Has w.pending z s.1) (sym e.0) run.0.there)))
            | inr r ↦
                let known = (closed.exact q y).0 r in
                (known.0, elim (given_before run.0.there q y known.1) [ inl h ↦ inl h.1 | inr a ↦ inr a ])
          ]

          back : (q : Key) (y : StepInput) → (q.tick < end) × (Has w.pending q y ⊎ IsAddedBySome S w.process q y (s ∷ rest)) → IsTaken q y (s ∷ rest)
          back q y (below, inr a) = taken_rest s rest q y ((closed.exact q y).1 (below, added_still run.0.there q y a))
          back q y (below, inl h) = elim (same_or_not q s.0.key) [
            | inl e ↦ (s.0, sym e, inl (λ i. (s.0, one_input w.pending s.0.key y s.1 (subst (λ z. Has w.pending z y) e h) run.0.there i)))
            | inr n ↦ taken_rest s rest q y ((closed.exact q y).1 (below, inl (taken_old S w s.0.key s.1 sound is_world run.0.there q y n h)))
          ]

  -- every closed history is a run
  pub run_of_closed : (h : List Pair) (w : World Mind) → IsWorld S w → IsClosedBetween S w end h → (last : World Mind) × Run S end w h last
  run_of_closed [] w is_world closed = (w, (none, refl))
    where
      none : NoneBelow end w.pending
      none q y h = elim (cases_lt q.tick end) [ inl below ↦ absurd ((closed.exact q y).1 (below, inl h)).2 | inr late ↦ late ]
  run_of_closed (s ∷ rest) w is_world closed =
      let given = front_given w is_world s rest closed in
      let later = run_of_closed rest (taken S w s.0.key s.1) (taken_world S w s.0.key s.1 sound is_world given.1) (rest_closed w is_world s rest closed) in
      (later.0, (front_least w is_world s rest closed, given.0, front_entry w is_world s rest closed, later.1))

  -- every run is a closed history
  pub closed_of_run : (h : List Pair) (w last : World Mind) → IsWorld S w → Run S end w h last → IsClosedBetween S w end h
  closed_of_run [] w last is_world run = record { rising = refl; steps = λ p is. tt; exact = λ q y. ((λ t. absurd t.2), back q y) }
    where
      back : (q : Key) (y : StepInput) → (q.tick < end) × (Has w.pending q y ⊎ IsAddedBySome S w.process q y []) → IsTaken q y []
      back q y (below, inl h) = absurd (omega (arith, run.0 q y h))
      back q y (below, inr a) = absurd a.2
  closed_of_run (s ∷ rest) w last is_world run =
      joined_closed w is_world s rest last run (closed_of_run rest (taken S w s.0.key s.1) last (taken_world S w s.0.key s.1 sound is_world run.0.there) run.3)

-- ---- the opening

-- what is pending at first are the Starts
pub starts_are : (n : ℕ) (k : Key) (x : StepInput) → Has (starts n) k x → (1 ≤ k.receiver) × (k.receiver ≤ n) × (k ≡ start_of k.receiver) × (x ≡ Start)
starts_are zero k x h = absurd (not_None x (sym (finmap.get-empty key_cmp k) ∙ h))
starts_are (suc n) k x h = elim (inserted (starts n) (start_of (suc n)) Start k x h) [
  | inl e ↦
      let is : k.receiver ≡ suc n = ap (λ (z : Key). z.receiver) e.0 in
      (omega (arith, is), omega (arith, is), e.0 ∙ ap start_of (sym is), e.1)
  | inr old ↦ let r = starts_are n k x old.1 in (r.0, omega (arith, r.1), r.2, r.3)
]

starts_there : (n p : ℕ) → 1 ≤ p → p ≤ n → Has (starts n) (start_of p) Start
starts_there zero p low high = absurd (omega (arith, low, high))
starts_there (suc n) p low high = elim (same_or_not (start_of p) (start_of (suc n))) [
  | inl e ↦ subst (λ z. Has (starts (suc n)) z Start) (sym e) (insert_at (starts n) (start_of (suc n)) Start)
  | inr other ↦
      let apart : p ≢ suc n = λ e. other (ap start_of e) in
      insert_other (starts n) (start_of (suc n)) Start (start_of p) other ∙ starts_there n p low (omega (arith, high, apart))
]

module _ {Mind : Type 0} (S : Setting Mind) where
  starts_given : (k : Key) (x : StepInput) → IsStart S k x ↔ Has (opening S).pending k x
  starts_given k x = (
    (λ (is, e, f). subst (λ z. Has (starts S.processes) k z) (sym f) (subst (λ z. Has (starts S.processes) z Start) (sym e) (starts_there S.processes k.receiver is.0 is.1))),
    (λ h. let r = starts_are S.processes k x h in ((r.0, r.1), r.2, r.3)),
  )

  pub opening_world : IsSound S → IsWorld S (opening S)
  opening_world sound = record {
    minds = sound.opens;
    below = λ k x h. let r = (starts_given k x).1 h in omega (arith, sound.lasts, ap (λ (z : Key). z.tick) r.1);
    received = λ k x h. ((starts_given k x).1 h).0;
    counted = λ k x h. let r = (starts_given k x).1 h in omega (arith, ap (λ (z : Key). z.number) r.1);
  }

  other_given : (A B : Key → StepInput → Type 0) → ((k : Key) (x : StepInput) → A k x ↔ B k x) → (h : List Pair) → IsClosedFrom S (opening_process S) A S.horizon h → IsClosedFrom S (opening_process S) B S.horizon h
  other_given A B same h closed = record {
    rising = closed.rising;
    steps = closed.steps;
    exact = λ q y. (
      (λ t. let known = (closed.exact q y).0 t in (known.0, elim known.1 [ inl a ↦ inl ((same q y).0 a) | inr a ↦ inr a ])),
      (λ given. (closed.exact q y).1 (given.0, elim given.1 [ inl b ↦ inl ((same q y).1 b) | inr a ↦ inr a ])),
    );
  }

  module _ (sound : IsSound S) where
    pub has_trace : (trace : List EntryRecord) × IsTrace S trace
    has_trace = let r = run_exists S sound S.horizon (opening S) (opening_world sound) in (entries r.0, (r.0, r.1, r.2, refl))

    pub trace_is_closed : (h : List Pair) (last : World Mind) → Run S S.horizon (opening S) h last → IsClosed S h
    trace_is_closed h last run =
        other_given (Has (opening S).pending) (IsStart S) (λ k x. ((starts_given k x).1, (starts_given k x).0)) h (closed_of_run S sound S.horizon h (opening S) last (opening_world sound) run)

    run_of : (h : List Pair) → IsClosed S h → (last : World Mind) × Run S S.horizon (opening S) h last
    run_of h closed = run_of_closed S sound S.horizon h (opening S) (opening_world sound) (other_given (IsStart S) (Has (opening S).pending) starts_given h closed)

    pub one_history : (h g : List Pair) → IsClosed S h → IsClosed S g → g ≡ h
    one_history h g closed other = (one_run S S.horizon (opening S) g h (run_of g other).0 (run_of h closed).0 (run_of g other).1 (run_of h closed).1).0

    pub only_history : (h : List Pair) → IsClosed S h → (trace : List EntryRecord) → IsTrace S trace → entries h ≡ trace
    only_history h closed trace (g, last, run, is) = ap entries (one_run S S.horizon (opening S) h g (run_of h closed).0 last (run_of h closed).1 run).0 ∙ sym is

    -- the entries of a trace rise
    pub trace_rises : (trace : List EntryRecord) → IsTrace S trace → IsTrue (is_rising trace)
    trace_rises trace (h, last, run, is) = subst (λ t. IsTrue (is_rising t)) (sym is) (trace_is_closed h last run).rising

  -- and there is one alone
  pub one_trace : (t u : List EntryRecord) → IsTrace S t → IsTrace S u → u ≡ t
  one_trace t u (h, last, run, is) (g, end, other, was) = was ∙ ap entries (one_run S S.horizon (opening S) g h end last other run).0 ∙ sym is

  pub has_one_trace : IsSound S → (trace : List EntryRecord) × IsOnly (IsTrace S) trace
  has_one_trace sound = let r = has_trace sound in (r.0, (r.1, λ u is. one_trace r.0 u r.1 is))
