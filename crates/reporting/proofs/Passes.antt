-- A tally that passes on over ticks of one state knows the sums over these too, and tells them at the horizon.
use Rattle.reporting.proofs.Words.{◌≡◌, ◌≢◌, ℕ, zero, suc, ◌+◌, ◌-◌, ◌<◌, ◌≤◌, min, cond, inl, inr, refl, sym, ap, arith, ltb, ◌⊎◌, Bool, true, false, not, ◌&&◌, ◌||◌, ◌∙◌, leb, Option, None, Some, subst, unwrap_or, cases_eq, cases_lt, lt-ltb, le-ltb, cond-true, cond-false, ltb-true, leb-true, le-leb, and_parts, and_from, or_cases, or_left, or_right, not-true, not_from_false, false_from_ne_true, both_ways, true≢false, cond_both, sum_below, is_next, count_below, sum_of_distances, count_of_distances, Record, crash_tick, end_of, Na, starts, ends, is_measured, measured, delay_after, gain, grown, changed, passed, moved, counted, new_tally, tracked, detected, told, Tally, beq, nat_tests, IsKeeping}
use Rattle.judges.specs.Track.{all_below, all_from, before, least_from, passed as track_passed}
use Rattle.judges.proofs.{Below.{all_below-at, all_below-from}, Lasting.{least_below-none, least_below-is, all_from-at, last_before}}
use Rattle.reporting.specs.declared.tally.Distances.{Distances}

-- ---- what a tally knows of a pair whose suspicion is given tick by tick: the sums over the ticks before its own

module _ (from to : ℕ → Bool) where
  -- before tick t, s passes the first test and no tick after it the second
  pub record Waits (t s : ℕ) : Type 0 where
    pub below : s < t
    pub passes : from s ≡ true
    pub none : (u : ℕ) → s < u → u < t → to u ≡ false

  -- the one tick that waits, if one does
  abbrev pub IsWaiting : (t : ℕ) → Option ℕ → Type 0
  IsWaiting t None = (s : ℕ) → ¬ (Waits t s)
  IsWaiting t (Some s) = Waits t s × ((r : ℕ) → Waits t r → r ≡ s)

  -- the distances that end below a tick
  pub record AreDistances (d : Distances) (end : ℕ) : Type 0 where
    pub sum : d.sum ≡ sum_of_distances from to end
    pub count : d.count ≡ count_of_distances from to end

-- suspicion began at this tick and goes on until another
pub record IsSince (suspected : ℕ → Bool) (s t : ℕ) : Type 0 where
  pub below : s < t
  pub not_before : before suspected s ≡ false
  pub on : (u : ℕ) → s ≤ u → u < t → suspected u ≡ true

pub record Knows (suspected : ℕ → Bool) (end : ℕ) (t : Tally) : Type 0 where
  pub was : t.was ≡ before suspected t.tick
  pub mistakes : t.mistakes ≡ count_below (starts suspected) (min t.tick end)
  pub mistake_ticks : t.mistake_ticks ≡ count_below suspected (min t.tick end)
  pub recurrence : AreDistances (starts suspected) (starts suspected) t.recurrence (min t.tick end)
  pub duration : AreDistances (starts suspected) (ends suspected) t.duration (min t.tick end)
  pub good : AreDistances (ends suspected) (starts suspected) t.good (min t.tick end)
  pub last_start : IsWaiting (starts suspected) (starts suspected) t.tick t.started
  pub open_start : IsWaiting (starts suspected) (ends suspected) t.tick (cond t.was t.started None)
  pub open_end : IsWaiting (ends suspected) (starts suspected) t.tick (cond t.was None t.ended)
  pub since : t.was ≡ true → (s : ℕ) × (t.started ≡ Some s) × IsSince suspected s t.tick

-- ---- sums over ticks, where most terms are 0

pub sum_below-zero : (g : ℕ → ℕ) (n : ℕ) → ((u : ℕ) → u < n → g u ≡ 0) → sum_below g n ≡ 0
sum_below-zero g zero h = refl
sum_below-zero g (suc t) h = omega (arith, sum_below-zero g t (λ u l. h u (omega arith)), h t (omega arith))

-- all terms but one are 0
pub sum_below-one : (g : ℕ → ℕ) (n s : ℕ) → s < n → ((u : ℕ) → u < n → u ≢ s → g u ≡ 0) → sum_below g n ≡ g s
sum_below-one g zero s l h = absurd (omega arith)
sum_below-one g (suc t) s l h = elim (cases_eq t s) [
  | inl e ↦ omega (arith, ap g e, sum_below-zero g t (λ u m. h u (omega arith) (λ f. omega arith)))
  | inr n ↦ omega (arith, h t (omega arith) n, sum_below-one g t s (omega arith) (λ u m ne. h u (omega arith) ne))
]

-- the terms from a to b - 1 are 0
pub sum_below-flat : (g : ℕ → ℕ) (a b : ℕ) → a ≤ b → ((u : ℕ) → a ≤ u → u < b → g u ≡ 0) → sum_below g b ≡ sum_below g a
sum_below-flat g a zero l h = let e : a ≡ 0 = omega arith in ap (sum_below g) (sym e)
sum_below-flat g a (suc t) l h = elim (cases_lt t a) [
  | inl m ↦ let e : a ≡ suc t = omega arith in ap (sum_below g) (sym e)
  | inr m ↦ omega (arith, h t m (omega arith), sum_below-flat g a t m (λ u x y. h u x (omega arith)))
]

-- they are 1
pub sum_below-steady : (g : ℕ → ℕ) (a b : ℕ) → a ≤ b → ((u : ℕ) → a ≤ u → u < b → g u ≡ 1) → sum_below g b ≡ sum_below g a + (b - a)
sum_below-steady g a zero l h = let e : a ≡ 0 = omega arith in omega (arith, ap (sum_below g) e)
sum_below-steady g a (suc t) l h = elim (cases_lt t a) [
  | inl m ↦ let e : a ≡ suc t = omega arith in omega (arith, ap (sum_below g) e)
  | inr m ↦ omega (arith, h t m (omega arith), sum_below-steady g a t m (λ u x y. h u x (omega arith)))
]

-- cut at an end: nothing after tick a
pub sum_below-turn : (g : ℕ → ℕ) (a b end : ℕ) → a < b → ((u : ℕ) → a < u → u < b → g u ≡ 0) → sum_below g (min b end) ≡ sum_below g (min a end) + cond (ltb a end) (g a) 0
sum_below-turn g a b end l h =
    elim (cases_lt a end) [
      | inl p ↦
          let flat : sum_below g (min b end) ≡ sum_below g (suc a) = sum_below-flat g (suc a) (min b end) (omega arith) (λ u x y. h u (omega arith) (omega arith)) in
          let m : sum_below g (min a end) ≡ sum_below g a = ap (sum_below g) (omega arith) in
          let c : cond (ltb a end) (g a) 0 ≡ g a = cond-true _ _ _ (lt-ltb a end p) in
          omega arith
      | inr p ↦
          let m : sum_below g (min b end) ≡ sum_below g (min a end) = ap (sum_below g) (omega arith) in
          let c : cond (ltb a end) (g a) 0 ≡ 0 = cond-false _ _ _ (le-ltb a end p) in
          omega arith
    ]

pub sum_below-still : (g : ℕ → ℕ) (a b end : ℕ) → a ≤ b → ((u : ℕ) → a ≤ u → u < b → g u ≡ 0) → sum_below g (min b end) ≡ sum_below g (min a end)
sum_below-still g a b end l h = sum_below-flat g (min a end) (min b end) (omega arith) (λ u x y. h u (omega arith) (omega arith))

pub sum_below-run : (g : ℕ → ℕ) (a b end : ℕ) → a ≤ b → ((u : ℕ) → a ≤ u → u < b → g u ≡ 1) → sum_below g (min b end) ≡ sum_below g (min a end) + (min b end - min a end)
sum_below-run g a b end l h = sum_below-steady g (min a end) (min b end) (omega arith) (λ u x y. h u (omega arith) (omega arith))

-- ---- which tick still waits for its next: what a meter keeps to know the next distance

module _ (from to : ℕ → Bool) where
  -- nothing passes from a to b - 1
  abbrev pub IsQuiet : (a b : ℕ) → Type 0
  IsQuiet a b = (u : ℕ) → a ≤ u → u < b → (from u ≡ false) × (to u ≡ false)

  waits_back : (a b s : ℕ) → a ≤ b → IsQuiet a b → Waits from to b s → Waits from to a s
  waits_back a b s l quiet w =
      elim (cases_lt s a) [
        | inl p ↦ record { below = p; passes = w.passes; none = λ u x y. w.none u x (omega arith) }
        | inr p ↦ absurd (both_ways (from s) (quiet s p w.below).0 w.passes)
      ]

  waits_on : (a b s : ℕ) → a ≤ b → IsQuiet a b → Waits from to a s → Waits from to b s
  waits_on a b s l quiet w = record {
    below = omega (arith, w.below);
    passes = w.passes;
    none = λ u x y. elim (cases_lt u a) [ inl p ↦ w.none u x p | inr p ↦ (quiet u p y).1 ];
  }

  pub waiting_still : (a b : ℕ) (o : Option ℕ) → a ≤ b → IsQuiet a b → IsWaiting from to a o → IsWaiting from to b o
  waiting_still a b None l quiet h = λ s w. h s (waits_back a b s l quiet w)
  waiting_still a b (Some s) l quiet h = (waits_on a b s l quiet h.0, λ r w. h.1 r (waits_back a b r l quiet w))

  -- what waits after tick a: a new one, in place of the old or with none before, or none
  waits_new : (a b : ℕ) → a < b → IsQuiet (suc a) b → from a ≡ true → Waits from to b a
  waits_new a b l quiet e = record { below = l; passes = e; none = λ u x y. (quiet u (omega arith) y).1 }

  waits_cases : (a b s : ℕ) → a < b → IsQuiet (suc a) b → Waits from to b s → (s ≡ a) ⊎ Waits from to a s
  waits_cases a b s l quiet w =
      elim (cases_lt s a) [
        | inl p ↦ inr (record { below = p; passes = w.passes; none = λ u x y. w.none u x (omega arith) })
        | inr p ↦ elim (cases_lt a s) [
          | inl q ↦ absurd (both_ways (from s) (quiet s q w.below).0 w.passes)
          | inr q ↦ inl (omega arith)
        ]
      ]

  pub waiting_renewed : (a b : ℕ) → a < b → IsQuiet (suc a) b → from a ≡ true → to a ≡ true → IsWaiting from to b (Some a)
  waiting_renewed a b l quiet e f = (
    waits_new a b l quiet e,
    λ r w. elim (waits_cases a b r l quiet w) [ inl s ↦ s | inr v ↦ absurd (both_ways (to a) (w.none a v.below l) f) ],
  )

  pub waiting_begun : (a b : ℕ) → a < b → IsQuiet (suc a) b → from a ≡ true → IsWaiting from to a None → IsWaiting from to b (Some a)
  waiting_begun a b l quiet e none =
      (waits_new a b l quiet e, λ r w. elim (waits_cases a b r l quiet w) [ inl s ↦ s | inr v ↦ absurd (none r v) ])

  pub waiting_ended : (a b : ℕ) → a < b → IsQuiet (suc a) b → from a ≡ false → to a ≡ true → IsWaiting from to b None
  waiting_ended a b l quiet e f = λ r w.
      elim (waits_cases a b r l quiet w) [
        | inl s ↦ both_ways (from a) e (ap from (sym s) ∙ w.passes)
        | inr v ↦ both_ways (to a) (w.none a v.below l) f
      ]

  -- the distances that end at tick t
  abbrev pub ending : (ℕ → ℕ) → ℕ → ℕ
  ending amount t = sum_below (λ s. cond (from s && is_next to s t) (amount (t - s)) 0) t

  -- a distance from s to t, as the definition tests it
  meets : (s t : ℕ) → (from s && is_next to s t) ≡ true → Waits from to t s
  meets s t e =
      let both = and_parts (from s) (is_next to s t) e in
      let next = and_parts (ltb s t && to t) (all_below (λ u. leb u s || not (to u)) t) both.1 in
      let first = and_parts (ltb s t) (to t) next.0 in
      record {
        below = ltb-true s t first.0;
        passes = both.0;
        none = λ u x y.
            elim (or_cases (leb u s) (not (to u)) (all_below-at _ t next.1 u y)) [
              | inl p ↦ absurd (let q : u ≤ s = leb-true u s p in omega arith)
              | inr p ↦ not-true (to u) p
            ];
      }

  met : (s t : ℕ) → Waits from to t s → to t ≡ true → (from s && is_next to s t) ≡ true
  met s t w f =
      and_from (from s) (is_next to s t) w.passes
      (and_from (ltb s t && to t) (all_below (λ u. leb u s || not (to u)) t) (and_from (ltb s t) (to t) (lt-ltb s t w.below) f)
      (all_below-from _ t (λ u l. elim (cases_lt s u) [
        | inl p ↦ or_right (leb u s) (not (to u)) (not_from_false (to u) (w.none u p l))
        | inr p ↦ or_left (leb u s) (not (to u)) (le-leb u s p)
      ])))

  unmet : (s t : ℕ) → (Waits from to t s → ⊥) ⊎ (to t ≡ false) → (from s && is_next to s t) ≡ false
  unmet s t (inl n) = false_from_ne_true _ (λ e. n (meets s t e))
  unmet s t (inr f) = false_from_ne_true _ (λ e.
      let both = and_parts (from s) (is_next to s t) e in
      let next = and_parts (ltb s t && to t) (all_below (λ u. leb u s || not (to u)) t) both.1 in
      both_ways (to t) f (and_parts (ltb s t) (to t) next.0).1)

  pub ending_none : (amount : ℕ → ℕ) (t : ℕ) → to t ≡ false → ending amount t ≡ 0
  ending_none amount t f = sum_below-zero _ t (λ s l. cond-false _ _ _ (unmet s t (inr f)))

  -- the distance of the one that waits
  abbrev pub distance : (ℕ → ℕ) → Option ℕ → ℕ → ℕ
  distance amount None t = 0
  distance amount (Some s) t = amount (t - s)

  pub ending_one : (amount : ℕ → ℕ) (t : ℕ) (o : Option ℕ) → to t ≡ true → IsWaiting from to t o → ending amount t ≡ distance amount o t
  ending_one amount t None f h = sum_below-zero _ t (λ s l. cond-false _ _ _ (unmet s t (inl (h s))))
  ending_one amount t (Some s) f h =
      sum_below-one _ t s h.0.below (λ u l ne. cond-false _ _ _ (unmet u t (inl (λ w. ne (h.1 u w)))))
      ∙ cond-true _ _ _ (met s t h.0 f)

-- ---- a tally that passes on

gain_is : (amount : ℕ → ℕ) (o : Option ℕ) (a end : ℕ) → (from to : ℕ → Bool) → gain amount o a end ≡ cond (ltb a end) (distance from to amount o a) 0
gain_is amount o a end from to = grind arith

module _ (from to : ℕ → Bool) (a b end : ℕ) (d : Distances) where
  distances_still : a ≤ b → ((u : ℕ) → a ≤ u → u < b → to u ≡ false) → AreDistances from to d (min a end) → AreDistances from to d (min b end)
  distances_still l quiet k = record {
    sum = k.sum ∙ sym (sum_below-still _ a b end l (λ u x y. ending_none from to (λ n. n) u (quiet u x y)));
    count = k.count ∙ sym (sum_below-still _ a b end l (λ u x y. ending_none from to (λ n. 1) u (quiet u x y)));
  }

  module _ (l : a < b) (quiet : (u : ℕ) → a < u → u < b → to u ≡ false) (e : to a ≡ true) (o : Option ℕ) (waits : IsWaiting from to a o) where
    more : (amount : ℕ → ℕ) (n : ℕ) → n ≡ sum_below (ending from to amount) (min a end) → n + gain amount o a end ≡ sum_below (ending from to amount) (min b end)
    more amount n known =
        let turn : sum_below (ending from to amount) (min b end) ≡ sum_below (ending from to amount) (min a end) + cond (ltb a end) (ending from to amount a) 0
        = sum_below-turn _ a b end l (λ u x y. ending_none from to amount u (quiet u x y)) in
        let one : ending from to amount a ≡ distance from to amount o a = ending_one from to amount a o e waits in
        let same : cond (ltb a end) (ending from to amount a) 0 ≡ cond (ltb a end) (distance from to amount o a) 0 = ap (λ x. cond (ltb a end) x 0) one in
        let is : gain amount o a end ≡ cond (ltb a end) (distance from to amount o a) 0 = gain_is amount o a end from to in
        omega arith

    distances_grown : AreDistances from to d (min a end) → AreDistances from to (grown d o a end) (min b end)
    distances_grown k = record { sum = more (λ n. n) d.sum k.sum; count = more (λ n. 1) d.count k.count }

and_not : (x y n : Bool) → x ≡ n → y ≡ n → (x && not y) ≡ false
and_not x y n e f = grind arith

not_and : (x y n : Bool) → x ≡ n → y ≡ n → (not x && y) ≡ false
not_and x y n e f = grind arith

module _ (f : ℕ → Bool) where
  pub before_last : (a b : ℕ) (now : Bool) → a < b → ((u : ℕ) → a ≤ u → u < b → f u ≡ now) → before f b ≡ now
  before_last a zero now l same = absurd (omega arith)
  before_last a (suc v) now l same = same v (omega arith) (omega arith)

  module _ (end : ℕ) (t : Tally) (until : ℕ) (l : t.tick < until) (k : Knows f end t) where
    module _ (now : Bool) (same : (u : ℕ) → t.tick ≤ u → u < until → f u ≡ now) where
      before_in : (u : ℕ) → t.tick < u → u < until → before f u ≡ now
      before_in u x y = before_last t.tick u now x (λ v p q. same v p (omega arith))

      s_after : (u : ℕ) → t.tick < u → u < until → starts f u ≡ false
      s_after u x y = and_not (f u) (before f u) now (same u (omega arith) y) (before_in u x y)

      pub t_after : (u : ℕ) → t.tick < u → u < until → ends f u ≡ false
      t_after u x y = not_and (f u) (before f u) now (same u (omega arith) y) (before_in u x y)

      s_at : (was : Bool) → t.was ≡ was → starts f t.tick ≡ (now && not was)
      s_at was e =
          let here : f t.tick ≡ now = same t.tick (omega arith) l in
          let earlier : before f t.tick ≡ was = sym k.was ∙ e in
          ap (λ x. x && not (before f t.tick)) here ∙ ap (λ x. now && not x) earlier

      pub t_at : (was : Bool) → t.was ≡ was → ends f t.tick ≡ (not now && was)
      t_at was e =
          let here : f t.tick ≡ now = same t.tick (omega arith) l in
          let earlier : before f t.tick ≡ was = sym k.was ∙ e in
          ap (λ x. not x && before f t.tick) here ∙ ap (λ x. not now && x) earlier

      -- no transition at the first tick either
      from_first : (test : ℕ → Bool) → test t.tick ≡ false → ((u : ℕ) → t.tick < u → u < until → test u ≡ false) → (u : ℕ) → t.tick ≤ u → u < until → test u ≡ false
      from_first test e after u x y = elim (cases_lt t.tick u) [ inl p ↦ after u p y | inr p ↦ ap test (let q : u ≡ t.tick = omega arith in q) ∙ e ]

    ticks_more : (now : Bool) → ((u : ℕ) → t.tick ≤ u → u < until → f u ≡ now) → t.mistake_ticks + cond now (min until end - min t.tick end) 0 ≡ count_below f (min until end)
    ticks_more true same = omega (arith, k.mistake_ticks, sum_below-run (λ u. cond (f u) 1 0) t.tick until end (omega arith) (λ u x y. cond-true _ _ _ (same u x y)))
    ticks_more false same = omega (arith, k.mistake_ticks, sum_below-still (λ u. cond (f u) 1 0) t.tick until end (omega arith) (λ u x y. cond-false _ _ _ (same u x y)))

    none_more : ((u : ℕ) → t.tick ≤ u → u < until → starts f u ≡ false) → t.mistakes ≡ count_below (starts f) (min until end)
    none_more quiet = k.mistakes ∙ sym (sum_below-still (λ u. cond (starts f u) 1 0) t.tick until end (omega arith) (λ u x y. cond-false _ _ _ (quiet u x y)))

    one_more : starts f t.tick ≡ true → ((u : ℕ) → t.tick < u → u < until → starts f u ≡ false)
        → t.mistakes + cond (ltb t.tick end) 1 0 ≡ count_below (starts f) (min until end)
    one_more e quiet =
        let turn : count_below (starts f) (min until end) ≡ count_below (starts f) (min t.tick end) + cond (ltb t.tick end) (cond (starts f t.tick) 1 0) 0
        = sum_below-turn (λ u. cond (starts f u) 1 0) t.tick until end l (λ u x y. cond-false _ _ _ (quiet u x y)) in
        let one : ◌≡◌ {A = ℕ} (cond (ltb t.tick end) (cond (starts f t.tick) 1 0) 0) (cond (ltb t.tick end) 1 0) = ap (λ x. cond (ltb t.tick end) (cond x 1 0) 0) e in
        let known : t.mistakes ≡ count_below (starts f) (min t.tick end) = k.mistakes in
        omega arith

    abbrev after : (was now : Bool) → Tally
    after was now = record (changed was now t end) { was = now; mistake_ticks = t.mistake_ticks + cond now (min until end - min t.tick end) 0; tick = until }

    -- what waits, at a known state
    pub open_start : (was : Bool) → t.was ≡ was → IsWaiting (starts f) (ends f) t.tick (cond was t.started None)
    open_start was e = subst (λ b. IsWaiting (starts f) (ends f) t.tick (cond b t.started None)) e k.open_start

    open_end : (was : Bool) → t.was ≡ was → IsWaiting (ends f) (starts f) t.tick (cond was None t.ended)
    open_end was e = subst (λ b. IsWaiting (ends f) (starts f) t.tick (cond b None t.ended)) e k.open_end

    stays : (now : Bool) → t.was ≡ now → ((u : ℕ) → t.tick ≤ u → u < until → f u ≡ now)
        → Knows f end (record t { was = now; mistake_ticks = t.mistake_ticks + cond now (min until end - min t.tick end) 0; tick = until })
    stays now e same =
        let sq = from_first now same (starts f) (s_at now same now e ∙ and_not now now now refl refl) (s_after now same) in
        let tq = from_first now same (ends f) (t_at now same now e ∙ not_and now now now refl refl) (t_after now same) in
        let ss : IsQuiet (starts f) (starts f) t.tick until = λ u x y. (sq u x y, sq u x y) in
        let st : IsQuiet (starts f) (ends f) t.tick until = λ u x y. (sq u x y, tq u x y) in
        let ts : IsQuiet (ends f) (starts f) t.tick until = λ u x y. (tq u x y, sq u x y) in
        record {
          was = sym (before_last t.tick until now l same);
          mistakes = none_more sq;
          mistake_ticks = ticks_more now same;
          recurrence = distances_still (starts f) (starts f) t.tick until end t.recurrence (omega arith) sq k.recurrence;
          duration = distances_still (starts f) (ends f) t.tick until end t.duration (omega arith) tq k.duration;
          good = distances_still (ends f) (starts f) t.tick until end t.good (omega arith) sq k.good;
          last_start = waiting_still (starts f) (starts f) t.tick until t.started (omega arith) ss k.last_start;
          open_start = waiting_still (starts f) (ends f) t.tick until (cond now t.started None) (omega arith) st (open_start now e);
          open_end = waiting_still (ends f) (starts f) t.tick until (cond now None t.ended) (omega arith) ts (open_end now e);
          since = λ on.
              let long = k.since (e ∙ on) in (
                long.0,
                long.1,
                record {
                  below = omega (arith, long.2.below);
                  not_before = long.2.not_before;
                  on = λ u x y. elim (cases_lt u t.tick) [ inl p ↦ long.2.on u x p | inr p ↦ same u p y ∙ on ];
                },
              );
        }

    by_cases : (was now : Bool) → t.was ≡ was → ((u : ℕ) → t.tick ≤ u → u < until → f u ≡ now) → Knows f end (after was now)
    -- suspicion starts
    by_cases false true e same =
        let sa = s_after true same in
        let ta = t_after true same in
        let s1 : starts f t.tick ≡ true = s_at true same false e in
        let t0 : ends f t.tick ≡ false = t_at true same false e in
        let tq = from_first true same (ends f) t0 ta in
        let st : IsQuiet (starts f) (ends f) (suc t.tick) until = λ u x y. (sa u (omega arith) y, ta u (omega arith) y) in
        let ss : IsQuiet (starts f) (starts f) (suc t.tick) until = λ u x y. (sa u (omega arith) y, sa u (omega arith) y) in
        let ts : IsQuiet (ends f) (starts f) (suc t.tick) until = λ u x y. (ta u (omega arith) y, sa u (omega arith) y) in
        record {
          was = sym (before_last t.tick until true l same);
          mistakes = one_more s1 sa;
          mistake_ticks = ticks_more true same;
          recurrence = distances_grown (starts f) (starts f) t.tick until end t.recurrence l sa s1 t.started k.last_start k.recurrence;
          duration = distances_still (starts f) (ends f) t.tick until end t.duration (omega arith) tq k.duration;
          good = distances_grown (ends f) (starts f) t.tick until end t.good l sa s1 t.ended (open_end false e) k.good;
          last_start = waiting_renewed (starts f) (starts f) t.tick until l ss s1 s1;
          open_start = waiting_begun (starts f) (ends f) t.tick until l st s1 (open_start false e);
          open_end = waiting_ended (ends f) (starts f) t.tick until l ts t0 s1;
          since = λ _. (t.tick, refl, record { below = l; not_before = sym k.was ∙ e; on = same });
        }
    -- it ends
    by_cases true false e same =
        let sa = s_after false same in
        let ta = t_after false same in
        let s0 : starts f t.tick ≡ false = s_at false same true e in
        let t1 : ends f t.tick ≡ true = t_at false same true e in
        let sq = from_first false same (starts f) s0 sa in
        let st : IsQuiet (starts f) (ends f) (suc t.tick) until = λ u x y. (sa u (omega arith) y, ta u (omega arith) y) in
        let ss : IsQuiet (starts f) (starts f) t.tick until = λ u x y. (sq u x y, sq u x y) in
        let ts : IsQuiet (ends f) (starts f) (suc t.tick) until = λ u x y. (ta u (omega arith) y, sa u (omega arith) y) in
        record {
          was = sym (before_last t.tick until false l same);
          mistakes = none_more sq;
          mistake_ticks = ticks_more false same;
          recurrence = distances_still (starts f) (starts f) t.tick until end t.recurrence (omega arith) sq k.recurrence;
          duration = distances_grown (starts f) (ends f) t.tick until end t.duration l ta t1 t.started (open_start true e) k.duration;
          good = distances_still (ends f) (starts f) t.tick until end t.good (omega arith) sq k.good;
          last_start = waiting_still (starts f) (starts f) t.tick until t.started (omega arith) ss k.last_start;
          open_start = waiting_ended (starts f) (ends f) t.tick until l st s0 t1;
          open_end = waiting_begun (ends f) (starts f) t.tick until l ts t1 (open_end true e);
          since = λ x. absurd (true≢false (sym x));
        }
    -- it goes on, or nothing is suspected
    by_cases true true e same = stays true e same
    by_cases false false e same = stays false e same

  pub knows_passed : (end : ℕ) (t : Tally) (until : ℕ) (now : Bool) → t.tick < until → Knows f end t → ((u : ℕ) → t.tick ≤ u → u < until → f u ≡ now) → Knows f end (passed t until now end)
  knows_passed end t until now l k same = by_cases end t until l k t.was now refl same

  pub knows_moved : (end : ℕ) (t : Tally) (until : ℕ) (now : Bool) → Knows f end t → ((u : ℕ) → t.tick ≤ u → u < until → f u ≡ now) → Knows f end (moved t until now end)
  knows_moved end t until now k same =
      elim (cases_lt t.tick until) [
        | inl l ↦ subst (Knows f end) (sym (cond-true _ _ _ (lt-ltb t.tick until l))) (knows_passed end t until now l k same)
        | inr l ↦ subst (Knows f end) (sym (cond-false _ _ _ (le-ltb t.tick until l))) k
      ]

-- ---- it keeps what a pair asks of what is kept

moved_tick : (t : Tally) (until : ℕ) (now : Bool) (end : ℕ) → t.tick ≤ until → (moved t until now end).tick ≡ until
moved_tick t until now end l = grind (arith, nat_tests)

pub tallies_keep : IsKeeping counted (λ (t : Tally). t.tick) Knows
tallies_keep = record { ticks = moved_tick; knows = λ f end t until now k same. knows_moved f end t until now k same }

pub none_known : (f : ℕ → Bool) (end : ℕ) → Knows f end new_tally
none_known f end =
    let e : 0 ≡ min 0 end = omega arith in
    record {
      was = refl;
      mistakes = ap (count_below (starts f)) e;
      mistake_ticks = ap (count_below f) e;
      recurrence = record { sum = ap (sum_of_distances (starts f) (starts f)) e; count = ap (count_of_distances (starts f) (starts f)) e };
      duration = record { sum = ap (sum_of_distances (starts f) (ends f)) e; count = ap (count_of_distances (starts f) (ends f)) e };
      good = record { sum = ap (sum_of_distances (ends f) (starts f)) e; count = ap (count_of_distances (ends f) (starts f)) e };
      last_start = λ s w. absurd (omega (arith, w.below));
      open_start = λ s w. absurd (omega (arith, w.below));
      open_end = λ s w. absurd (omega (arith, w.below));
      since = λ t. absurd (true≢false (sym t));
    }

-- ---- as a judge sees it

module _ (t : Tally) (until end : ℕ) where
  since_is : (was now : Bool) → unwrap_or (cond now (changed was now t end).started (changed was now t end).ended) 0 ≡ cond (beq now was) (unwrap_or (cond was t.started t.ended) 0) t.tick
  since_is was now = grind arith

  mistaken_is : (now : Bool) → t.tick < until → ltb 0 (t.mistake_ticks + cond now (min until end - min t.tick end) 0) ≡ (ltb 0 t.mistake_ticks || (now && ltb t.tick end))
  mistaken_is now l = grind (arith, nat_tests)

pub tallies_seen : (until : ℕ) (now : Bool) (end : ℕ) (t : Tally) → tracked (counted until now end t) ≡ track_passed until now end (tracked t)
tallies_seen until now end t =
    elim (cases_lt t.tick until) [
      | inl l ↦
          ap tracked (cond-true _ _ _ (lt-ltb t.tick until l))
          ∙ (λ i. record { tick = until; was = now; since = since_is t until end t.was now i; mistaken = mistaken_is t until end now l i })
          ∙ sym (cond-true _ _ _ (lt-ltb t.tick until l))
      | inr l ↦ ap tracked (cond-false _ _ _ (le-ltb t.tick until l)) ∙ sym (cond-false _ _ _ (le-ltb t.tick until l))
    ]

-- ---- the least tick from which suspicion lasts to the end

pub least_from-since : (f : ℕ → Bool) (s t : ℕ) → IsSince f s t → least_from f t ≡ Some s
least_from-since f s t since =
    least_below-is (λ u. all_from f u t) t s since.below
    (all_below-from _ t (λ u l. elim (cases_lt u s) [ inl p ↦ or_left (ltb u s) (f u) (lt-ltb u s p) | inr p ↦ or_right (ltb u s) (f u) (since.on u p l) ]))
    (λ u l. false_from_ne_true _ (λ e.
    let last = last_before f s since.not_before u l in
    both_ways (f last.0) last.3 (all_from-at f u t last.0 e last.1 (omega (arith, since.below, last.2)))))

pub least_from-none : (f : ℕ → Bool) (t : ℕ) → before f t ≡ false → least_from f t ≡ None
least_from-none f t e =
    least_below-none (λ u. all_from f u t) t (λ u l. false_from_ne_true _ (λ all.
    let last = last_before f t e u l in
    both_ways (f last.0) last.3 (all_from-at f u t last.0 all last.1 last.2)))

-- ---- what a tally tells at the horizon

module _ (S : Record) (layer q p : ℕ) (f : ℕ → Bool) (t : Tally) (k : Knows f (end_of S q p) t) (at_horizon : t.tick ≡ S.horizon) where
  at_end : min t.tick (end_of S q p) ≡ end_of S q p
  at_end = omega (arith, at_horizon)

  lasting : cond t.was t.started None ≡ least_from f S.horizon
  lasting =
      sym (ap (least_from f) (sym at_horizon)
      ∙ cond_both t.was t.started None (λ o. least_from f t.tick ≡ o)
      (λ e. let s = k.since e in least_from-since _ s.0 t.tick s.2 ∙ sym s.1) (λ e. least_from-none _ t.tick (sym k.was ∙ e)))

  detected_is : (b : Bool) → detected (cond b (Some (crash_tick S p)) None) (least_from f S.horizon)
      ≡ cond b (delay_after (crash_tick S p) (least_from f S.horizon)) Na
  detected_is true = refl
  detected_is false = refl

  pub told_is : told layer q p (cond (is_measured S q p) (Some (crash_tick S p)) None) t ≡ measured S layer q p f
  told_is =
      let detection = ap (detected (cond (is_measured S q p) (Some (crash_tick S p)) None)) lasting ∙ detected_is (is_measured S q p) in
      λ i. record {
        layer = layer;
        observer = q;
        subject = p;
        mistakes = (k.mistakes ∙ ap (count_below (starts f)) at_end) i;
        mistake_ticks = (k.mistake_ticks ∙ ap (count_below f) at_end) i;
        recurrence_sum = (k.recurrence.sum ∙ ap (sum_of_distances (starts f) (starts f)) at_end) i;
        recurrence_count = (k.recurrence.count ∙ ap (count_of_distances (starts f) (starts f)) at_end) i;
        duration_sum = (k.duration.sum ∙ ap (sum_of_distances (starts f) (ends f)) at_end) i;
        duration_count = (k.duration.count ∙ ap (count_of_distances (starts f) (ends f)) at_end) i;
        good_sum = (k.good.sum ∙ ap (sum_of_distances (ends f) (starts f)) at_end) i;
        good_count = (k.good.count ∙ ap (count_of_distances (ends f) (starts f)) at_end) i;
        detection = detection i;
      }
