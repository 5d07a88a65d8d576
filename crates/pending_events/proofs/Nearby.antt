-- Events in a ring and a map, by their ticks.
use Rattle.pending_events.proofs.Words.{◌≡◌, ◌≢◌, ◌≤◌, ◌<◌, inl, inr, refl, sym, ap, ◌∙◌, subst, arith, Bool, true, false, cond, List, [], ◌∷◌, ◌++◌, length, map, ℕ, ◌+◌, ◌-◌, ◌%◌, slice_set, min, get_or, Result, Ok, Err, AllByRecursion, AllocError, cases_eq, nat_tests, Calendar, bucket, IsCleared, IsFull, IsPut, IsCalendar, IsTaken, ahead, came, due, lane, Event, both, All, suc, zero, nat_le, nat_lt, ◌&&◌, append_assoc, get_or-map, get_or-set_same, get_or-set_other, length-map, map-set, cases_lt, All-head, All-tail, Buckets, IsFirst}
use Rattle.std.specs.Global.{Vec}

abbrev pub calendar_of : ℕ → Vec (Vec Event) → Buckets → Calendar
calendar_of from ring map = record { from = from; ring = ring; map = map }

-- ---- places of a ring

abbrev items : Vec Event → List Event
items v = v.items

pub lane_set : (ls : List (Vec Event)) (i : ℕ) (v : Vec Event) → i < length ls → lane (slice_set ls i v) i ≡ v.items
lane_set ls i v low = ap (λ xs. get_or xs i []) (map-set items ls i v) ∙ get_or-set_same (map items ls) i v.items [] (omega (arith, low, length-map ls items))

pub lane_kept : (ls : List (Vec Event)) (i : ℕ) (v : Vec Event) (j : ℕ) → j ≢ i → lane (slice_set ls i v) j ≡ lane ls j
lane_kept ls i v j n = ap (λ xs. get_or xs j []) (map-set items ls i v) ∙ get_or-set_other (map items ls) i j v.items [] n

pub lane_there : (ls : List (Vec Event)) (i : ℕ) (d : Vec Event) → i < length ls → (get_or ls i d).items ≡ lane ls i
lane_there ls i d low = sym (get_or-map items ls i d [] low)

pub ruleset lanes = (lane_set, lane_kept, lane_there)

pub empty_lanes : (ls : List (Vec Event)) → All (λ v. v.items ≡ []) ls → (p : ℕ) → lane ls p ≡ []
empty_lanes [] all p = refl
empty_lanes (v ∷ vs) all zero = All-head (λ v. items v ≡ []) v vs all
empty_lanes (v ∷ vs) all (suc p) = empty_lanes vs (All-tail (λ v. items v ≡ []) v vs all) p

-- ---- the events of a tick

-- a tick is in the year, or not
ahead_is : (c : Calendar) (t : ℕ) (es : List Event) → (c.from ≤ t → t < c.from + 1024 → lane c.ring.items (t % 1024) ≡ es) → ((c.from ≤ t → c.from + 1024 ≤ t) → [] ≡ es) → ahead c t ≡ es
ahead_is c t es near far = go (nat_le c.from t && nat_lt t (c.from + 1024)) refl
  where
    go : (b : Bool) → (nat_le c.from t && nat_lt t (c.from + 1024)) ≡ b → cond b (lane c.ring.items (t % 1024)) [] ≡ es
    go true is = near (grind (arith, nat_tests)) (grind (arith, nat_tests))
    go false is = far (λ low. grind (arith, nat_tests))

in_year : (c : Calendar) (t : ℕ) → c.from ≤ t → t < c.from + 1024 → ahead c t ≡ lane c.ring.items (t % 1024)
in_year c t low high = ahead_is c t (lane c.ring.items (t % 1024)) (λ l h. refl) (λ far. let past = far low in absurd (omega (arith, past, high)))

-- ---- an event comes

pub all_came : (P : Event → Type 0) (r : Result (Unit {0}) AllocError) (e : Event) → P e → AllByRecursion P (came r e)
all_came P (Ok x) e p = (p, tt)
all_came P (Err x) e p = tt

module _ (c : Calendar) (h : IsCalendar c) (tick : ℕ) (low : c.from ≤ tick) (es : List Event) where
  -- in the ring
  pub near_put : (ring2 : Vec (Vec Event)) → tick < c.from + 1024 → IsPut (lane c.ring.items) (lane ring2.items) (tick % 1024) es → IsPut (due c) (due (calendar_of c.from ring2 c.map)) tick es
  near_put ring2 high put = record {
    here = ap (λ xs. bucket c.map tick ++ xs) (in_year (calendar_of c.from ring2 c.map) tick low high ∙ (put.here ∙ ap (λ xs. xs ++ es) (sym (in_year c tick low high)))) ∙ sym (append_assoc (bucket c.map tick) (ahead c tick) es);
    others = λ t n. ap (λ xs. bucket c.map t ++ xs) (ahead_is (calendar_of c.from ring2 c.map) t (ahead c t)
        (λ l near. put.others (t % 1024) (λ e. n (omega (arith, e, l, near, low, high))) ∙ sym (in_year c t l near))
        (λ far. sym (ahead_is c t [] (λ l near. let past = far l in absurd (omega (arith, past, near))) (λ _. refl))));
  }

  pub put_calendar : (ring2 : Vec (Vec Event)) (m : Buckets) → tick < 4294967296 → AllByRecursion (λ e. e.0.tick ≡ tick) es → length ring2.items ≡ length c.ring.items → IsFull m → IsPut (due c) (due (calendar_of c.from ring2 m)) tick es
      → IsCalendar (calendar_of c.from ring2 m)
  put_calendar ring2 m fits own long full put = record {
    own = λ t. elim (cases_eq t tick) [
      | inl e ↦ subst (λ u. AllByRecursion (λ f. f.0.tick ≡ u) (due (calendar_of c.from ring2 m) u)) (sym e)
          (subst (AllByRecursion (λ f. f.0.tick ≡ tick)) (sym put.here) (both (λ f. f.0.tick ≡ tick) (due c tick) es (h.own tick) own))
      | inr n ↦ subst (AllByRecursion (λ f. f.0.tick ≡ t)) (sym (put.others t n)) (h.own t)
    ];
    soon = λ t before. put.others t (omega (arith, before, low)) ∙ h.soon t before;
    late = λ t past. put.others t (omega (arith, past, fits)) ∙ h.late t past;
    full = full;
    long = long ∙ h.long;
    room = h.room;
  }

-- ---- the events of the first tick go

nothing : (xs ys : List Event) → xs ++ ys ≡ [] → (xs ≡ []) × (ys ≡ [])
nothing [] ys h = (refl, h)
nothing (x ∷ xs) ys h = cc

module _ (c : Calendar) (h : IsCalendar c) (tick : ℕ) (first : IsFirst c tick) where
  -- the tick of the year that has the place of a tick
  abbrev turned : ℕ → ℕ
  turned t = c.from + (t - c.from) % 1024

  empty_lane : (t : ℕ) → c.from ≤ t → turned t < tick → lane c.ring.items (t % 1024) ≡ []
  empty_lane t low before =
      let high : turned t < c.from + 1024 = omega arith in
      ap (lane c.ring.items) (omega (arith, low)) ∙ (sym (in_year c (turned t) (omega arith) high) ∙ (nothing (bucket c.map (turned t)) (ahead c (turned t)) (first.none_before (turned t) before)).1)

  -- the bucket at the tick's place is of the tick, or empty
  pub whole : bucket c.map tick ++ lane c.ring.items (tick % 1024) ≡ due c tick
  whole = ap (λ es. bucket c.map tick ++ es) (sym (ahead_is c tick (lane c.ring.items (tick % 1024)) (λ l near. refl) (λ far. let past = far first.from in sym (empty_lane tick first.from (omega (arith, past))))))

  module _ (ring2 : Vec (Vec Event)) (near : IsCleared (lane c.ring.items) (lane ring2.items) (tick % 1024)) (map2 : Buckets) (listed : IsCleared (bucket c.map) (bucket map2) tick) (to : ℕ) (is : to ≡ min tick 4294966271) where
    abbrev new : Calendar
    new = calendar_of to ring2 map2

    left : (t : ℕ) → c.from ≤ t → turned t ≤ tick → lane ring2.items (t % 1024) ≡ []
    left t low before = elim (cases_eq (t % 1024) (tick % 1024)) [
      | inl e ↦ ap (lane ring2.items) e ∙ near.gone
      | inr n ↦ near.others (t % 1024) n ∙ empty_lane t low (omega (arith, low, before, n))
    ]

    gone : (t : ℕ) → t ≤ tick → due new t ≡ []
    gone t before = λ i. of_map i ++ ahead_is new t [] (λ low high. left t (omega (arith, low, is, first.from, h.room)) (omega (arith, low, is, before, first.from, h.room))) (λ _. refl) i
      where
        of_map : bucket map2 t ≡ []
        of_map = elim (cases_eq t tick) [
          | inl e ↦ ap (bucket map2) e ∙ listed.gone
          | inr n ↦ listed.others t n ∙ (nothing (bucket c.map t) (ahead c t) (first.none_before t (omega (arith, before, n)))).0
        ]

    kept : (t : ℕ) → tick < t → due new t ≡ due c t
    kept t after = λ i. listed.others t (omega (arith, after)) i ++ of_ring i
      where
        of_ring : ahead new t ≡ ahead c t
        of_ring = ahead_is new t (ahead c t) (λ low high. elim (cases_lt t (c.from + 1024)) [
          | inl before ↦ near.others (t % 1024) (omega (arith, before, after, first.from)) ∙ sym (in_year c t (omega (arith, after, first.from)) before)
          | inr far ↦ left t (omega (arith, far)) (omega (arith, far, high, is)) ∙ sym (ahead_is c t [] (λ l high. absurd (omega (arith, high, far))) (λ _. refl))
        ]) (λ far. sym (ahead_is c t [] (λ l high. let past = far (omega (arith, is, after)) in absurd (omega (arith, past, high, is, first.from, h.room))) (λ _. refl)))

    pub next_calendar : length ring2.items ≡ 1024 → IsFull map2 → IsCalendar new
    next_calendar long full = record {
      own = λ t. elim (cases_lt tick t) [
        | inl after ↦ subst (AllByRecursion (λ e. e.0.tick ≡ t)) (sym (kept t after)) (h.own t)
        | inr before ↦ subst (AllByRecursion (λ e. e.0.tick ≡ t)) (sym (gone t before)) tt
      ];
      soon = λ t before. gone t (omega (arith, before, is));
      late = λ t past. elim (cases_lt tick t) [ inl after ↦ kept t after ∙ h.late t past | inr before ↦ gone t before ];
      full = full;
      long = long;
      room = omega (arith, is);
    }

    pub next_taken : (es : List Event) → es ≡ due c tick → IsTaken c new tick es
    next_taken es all = record { first = first; all = all; gone = gone; others = λ t n. elim (cases_lt tick t) [ inl after ↦ kept t after | inr before ↦ gone t before ∙ sym (first.none_before t (omega (arith, before, n))) ]; from = omega (arith, is) }

pub ruleset went = (next_taken, whole)
