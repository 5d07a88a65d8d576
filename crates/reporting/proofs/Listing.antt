-- The lengths of mistakes, as a tally passes on, as entries come, and as no entry follows.
use Rattle.reporting.proofs.Words.{◌≡◌, ℕ, zero, suc, ◌+◌, ◌-◌, ◌<◌, ◌≤◌, min, Bool, true, false, cond, ◌&&◌, inl, inr, refl, sym, ap, ◌∙◌, arith, ltb, Some, List, [], ◌∷◌, ◌++◌, length, sum, length-append, append-nil, not, subst, eqb, Option, None, ◌≢◌, ◌*◌, leb, set, get_or, cases_lt, lt-ltb, le-ltb, cond-true, cond-false, cond_both, cases_eq, le-leb, lt-leb, and_from, and_left, and_right, nil_from_length, map-set, length-map, length-set, get_or-map, get_or-set_other, sum_below, list_below, distances, is_next, over_distances, count_of_distances, caught, ticks_between, listed, lengths_so_far, lists_in, tally_at, AreCaught, AreFollowing, AreDurations, Tally, beq, EntryRecord, Note, Record, end_of, suspects, opened, turned, all_turned, kept_at, AreFrom, fed, ArePairs, Turn, turn_of, turns_at, noted_turns, entry_turns, turns, Pair, fed_more, IsKeeping, fed_known, shown, shown_all, starts, ends, pair_durations, gain, changed, passed, moved, counted, new_tally, Vec, mul-le-mul_right, suc-mul, nat_tests, get_or-set_at, Pairs, turns_other, turns_quiet}
use Rattle.reporting.proofs.Passes.{IsWaiting, Knows, ending, ending_none, ending_one, tallies_keep, none_known, t_after, t_at, open_start, knows_moved}
use Rattle.std.proofs.lemmas.{List.Sums.{sum_by-append, fold-append}, Nat.{mul-add-lt}}
use Rattle.reporting.specs.declared.durations.Durations.{Durations}

-- ---- distances one by one: they are what sums and counts of distances are over

-- a measure of lists, as a sum or a length is
module _ (μ : List ℕ → ℕ) (none : μ [] ≡ 0) (both : (xs ys : List ℕ) → μ (xs ++ ys) ≡ μ xs + μ ys) where
  measured : (g : ℕ → List ℕ) (n : ℕ) → μ (list_below g n) ≡ sum_below (λ t. μ (g t)) n
  measured g zero = none
  measured g (suc t) = both (list_below g t) (g t) ∙ ap (λ m. m + μ (g t)) (measured g t)

  measured_if : (b : Bool) (n : ℕ) → μ (cond b (n ∷ []) []) ≡ cond b (μ (n ∷ [])) 0
  measured_if true n = refl
  measured_if false n = none

  module _ (from to : ℕ → Bool) where
    measured_ending : (t : ℕ) → μ (list_below (λ s. cond (from s && is_next to s t) ((t - s) ∷ []) []) t) ≡ ending from to (λ n. μ (n ∷ [])) t
    measured_ending t =
        measured (λ s. cond (from s && is_next to s t) ((t - s) ∷ []) []) t
        ∙ (λ i. sum_below (λ s. measured_if (from s && is_next to s t) (t - s) i) t)

    pub measured_distances : (end : ℕ) → μ (distances from to end) ≡ over_distances (λ n. μ (n ∷ [])) from to end
    measured_distances end =
        measured (λ t. list_below (λ s. cond (from s && is_next to s t) ((t - s) ∷ []) []) t) end
        ∙ (λ i. sum_below (λ t. measured_ending t i) end)

sum_both : (xs ys : List ℕ) → sum (xs ++ ys) ≡ sum xs + sum ys
sum_both xs ys = sum_by-append (λ n. n) xs ys

single : (xs : List ℕ) (x : ℕ) → length xs ≡ 1 → sum xs ≡ x → xs ≡ x ∷ []
single [] x one is = absurd (omega arith)
single (y ∷ []) x one is = let e : y ≡ x = omega arith in ap (λ n. n ∷ []) e
single (y ∷ z ∷ xs) x one is = absurd (omega arith)

-- the lists from a to b - 1 are empty
list_below-flat : (g : ℕ → List ℕ) (a b : ℕ) → a ≤ b → ((u : ℕ) → a ≤ u → u < b → g u ≡ []) → list_below g b ≡ list_below g a
list_below-flat g a zero l h = let e : a ≡ 0 = omega arith in ap (list_below g) (sym e)
list_below-flat g a (suc t) l h =
    elim (cases_lt t a) [
      | inl m ↦ let e : a ≡ suc t = omega arith in ap (list_below g) (sym e)
      | inr m ↦
          ap (λ xs. list_below g t ++ xs) (h t m (omega arith))
          ∙ append-nil (list_below g t)
          ∙ list_below-flat g a t m (λ u x y. h u x (omega arith))
    ]

-- cut at an end: nothing after tick a
list_below-turn : (g : ℕ → List ℕ) (a b end : ℕ) → a < b → ((u : ℕ) → a < u → u < b → g u ≡ []) → list_below g (min b end) ≡ list_below g (min a end) ++ cond (ltb a end) (g a) []
list_below-turn g a b end l h =
    elim (cases_lt a end) [
      | inl p ↦
          list_below-flat g (suc a) (min b end) (omega arith) (λ u x y. h u (omega arith) (omega arith))
          ∙ ap (λ n. list_below g n ++ g a) (let m : a ≡ min a end = omega arith in m)
          ∙ ap (λ xs. list_below g (min a end) ++ xs) (sym (cond-true _ _ _ (lt-ltb a end p)))
      | inr p ↦
          ap (list_below g) (let m : min b end ≡ min a end = omega arith in m)
          ∙ sym (append-nil (list_below g (min a end)))
          ∙ ap (λ xs. list_below g (min a end) ++ xs) (sym (cond-false _ _ _ (le-ltb a end p)))
    ]

module _ (from to : ℕ → Bool) where
  pub length_of_distances : (end : ℕ) → length (distances from to end) ≡ count_of_distances from to end
  length_of_distances = measured_distances length refl length-append from to

  abbrev pub ending_at : ℕ → List ℕ
  ending_at t = list_below (λ s. cond (from s && is_next to s t) ((t - s) ∷ []) []) t

  ends_none : (t : ℕ) → to t ≡ false → ending_at t ≡ []
  ends_none t quiet = nil_from_length (ending_at t) (measured_ending length refl length-append from to t ∙ ending_none from to (λ n. 1) t quiet)

  ends_one : (t s : ℕ) → to t ≡ true → IsWaiting from to t (Some s) → ending_at t ≡ (t - s) ∷ []
  ends_one t s ends waits =
      single (ending_at t) (t - s)
      (measured_ending length refl length-append from to t ∙ ending_one from to (λ n. 1) t (Some s) ends waits)
      (measured_ending sum refl sum_both from to t ∙ ending_one from to (λ n. sum (n ∷ [])) t (Some s) ends waits ∙ (let e : sum ((t - s) ∷ []) ≡ t - s = omega arith in e))

  -- nothing ends after tick a; what ends there is new
  pub distances_more : (a b end : ℕ) → a < b → ((u : ℕ) → a < u → u < b → to u ≡ false) → distances from to (min b end) ≡ distances from to (min a end) ++ cond (ltb a end) (ending_at a) []
  distances_more a b end l quiet = list_below-turn ending_at a b end l (λ u x y. ends_none u (quiet u x y))

  pub new_none : (a end : ℕ) → to a ≡ false → cond (ltb a end) (ending_at a) [] ≡ []
  new_none a end quiet = cond_both (ltb a end) (ending_at a) [] (λ xs. xs ≡ []) (λ _. ends_none a quiet) (λ _. refl)

  pub new_one : (a end s : ℕ) → to a ≡ true → IsWaiting from to a (Some s) → cond (ltb a end) (ending_at a) [] ≡ cond (ltb a end) ((a - s) ∷ []) []
  new_one a end s ends waits = ap (λ xs. cond (ltb a end) xs []) (ends_one a s ends waits)

-- a tally that has counted as many as are listed, or one more
pub caught_same : (t : Tally) (xs : List ℕ) → t.duration.count ≤ length xs → caught t xs ≡ xs
caught_same t xs le = cond-false _ _ _ (le-ltb (length xs) t.duration.count le)

pub caught_one : (t : Tally) (xs : List ℕ) → length xs < t.duration.count → caught t xs ≡ xs ++ ticks_between t.started t.ended ∷ []
caught_one t xs lt = cond-true _ _ _ (lt-ltb (length xs) t.duration.count lt)

pub caught_new : (t : Tally) (xs : List ℕ) (b : Bool) (x : ℕ) → x ≡ ticks_between t.started t.ended → t.duration.count ≡ length (xs ++ cond b (x ∷ []) []) → caught t xs ≡ xs ++ cond b (x ∷ []) []
caught_new t xs true x is count = caught_one t xs (omega (arith, length-append xs (x ∷ []))) ∙ ap (λ n. xs ++ n ∷ []) (sym is)
caught_new t xs false x is count = caught_same t xs (omega (arith, length-append xs [])) ∙ sym (append-nil xs)

-- ---- the lengths that are kept beside a tally: as entries come, and as no entry follows

abbrev Listed : Type 0
Listed = Tally × List ℕ

-- ---- the tally is as it is with no lengths beside it

strip_all : (ts : List Turn) (p : Pair Listed) → shown (λ (k : Listed). k.0) (all_turned listed p ts) ≡ all_turned counted (shown (λ (k : Listed). k.0) p) ts
strip_all = shown_all listed counted (λ (k : Listed). k.0) (λ until now end k. refl)

-- ---- a tally counts at most one more at a time, and that one is listed

gain_few : (from : Option ℕ) (to end : ℕ) → gain (λ n. 1) from to end ≤ 1
gain_few from to end = grind arith

moved_few : (t : Tally) (until : ℕ) (now : Bool) (end : ℕ) → (moved t until now end).duration.count ≤ suc t.duration.count
moved_few t until now end = grind (arith, gain_few)

abbrev IsLevel : Listed → Type 0
IsLevel k = k.0.duration.count ≤ length k.1

level_listed : (until : ℕ) (now : Bool) (end : ℕ) (k : Listed) → IsLevel k → IsLevel (listed until now end k)
level_listed until now end k level =
    let t = moved k.0 until now end in
    let few : t.duration.count ≤ suc k.0.duration.count = moved_few k.0 until now end in
    elim (cases_lt (length k.1) t.duration.count) [
      | inl l ↦ omega (arith, ap length (caught_one t k.1 l), length-append k.1 (ticks_between t.started t.ended ∷ []))
      | inr l ↦ omega (arith, ap length (caught_same t k.1 l))
    ]

level_all : (ts : List Turn) (p : Pair Listed) → IsLevel p.kept → IsLevel (all_turned listed p ts).kept
level_all [] p level = level
level_all (t ∷ ts) p level =
    level_all ts (turned listed t.tick t.suspected p)
    (cond_both (beq t.suspected p.current) p (record p { current = t.suspected; kept = listed t.tick p.current p.end p.kept }) (λ q. IsLevel q.kept)
    (λ e. level) (λ e. level_listed t.tick p.current p.end p.kept level))

-- ---- the turns of one tick

moved_still : (t : Tally) (until : ℕ) (now : Bool) (end : ℕ) → until ≤ t.tick → moved t until now end ≡ t
moved_still t until now end l = cond-false _ _ _ (le-ltb t.tick until l)

module _ (tick : ℕ) (before : List ℕ) where
  -- at most one length is new at this tick
  record IsAt (p : Pair Listed) : Type 0 where
    caught_up : p.kept.1 ≡ caught p.kept.0 before
    level : IsLevel p.kept
    fresh : p.kept.0.tick < tick → p.kept.1 ≡ before

  at_turned : (suspected : Bool) (p : Pair Listed) → IsAt p → IsAt (turned listed tick suspected p)
  at_turned suspected p h =
      cond_both (beq suspected p.current) p (record p { current = suspected; kept = listed tick p.current p.end p.kept }) IsAt (λ e. h) (λ e. changes)
    where
      changes : IsAt (record p { current = suspected; kept = listed tick p.current p.end p.kept })
      changes =
          elim (cases_lt p.kept.0.tick tick) [
            | inl l ↦
                let at : (moved p.kept.0 tick p.current p.end).tick ≡ tick = tallies_keep.ticks p.kept.0 tick p.current p.end (omega arith) in
                record {
                  caught_up = ap (caught (moved p.kept.0 tick p.current p.end)) (h.fresh l);
                  level = level_listed tick p.current p.end p.kept h.level;
                  fresh = λ m. absurd (omega (arith, at, m));
                }
            | inr l ↦
                let still : moved p.kept.0 tick p.current p.end ≡ p.kept.0 = moved_still p.kept.0 tick p.current p.end l in
                let same : caught (moved p.kept.0 tick p.current p.end) p.kept.1 ≡ p.kept.1 = ap (λ t. caught t p.kept.1) still ∙ caught_same p.kept.0 p.kept.1 h.level in
                subst (λ t. IsAt (record p { current = suspected; kept = (t, caught (moved p.kept.0 tick p.current p.end) p.kept.1) })) (sym still)
                (subst (λ xs. IsAt (record p { current = suspected; kept = (p.kept.0, xs) })) (sym same)
                (record { caught_up = h.caught_up; level = h.level; fresh = h.fresh }))
          ]

  module _ (layer subject : ℕ) where
    at_noted : (notes : List Note) (p : Pair Listed) → IsAt p → IsAt (all_turned listed p (noted_turns layer subject tick notes))
    at_noted [] p h = h
    at_noted (note ∷ notes) p h =
        subst IsAt (sym (fold-append (λ q t. turned listed t.tick t.suspected q) p (turns_at subject tick (turn_of layer note)) (noted_turns layer subject tick notes)))
        (at_noted notes (all_turned listed p (turns_at subject tick (turn_of layer note))) (one (turn_of layer note)))
      where
        two : (s b : Bool) → IsAt (all_turned listed p (cond b (record { tick = tick; suspected = s } ∷ []) []))
        two s true = at_turned s p h
        two s false = h

        one : (o : Option (ℕ × Bool)) → IsAt (all_turned listed p (turns_at subject tick o))
        one None = h
        one (Some t) = two t.1 (eqb t.0 subject)

-- ---- one more entry

module _ (S : Record) (layer q p : ℕ) (trace : List EntryRecord) where
  abbrev before_it : Pair Listed
  before_it = fed listed S layer q p (new_tally, []) trace

  abbrev tally_of : List EntryRecord → Tally
  tally_of all = (fed counted S layer q p new_tally all).kept

  stripped : (fed listed S layer q p (new_tally, []) trace).kept.0 ≡ tally_of trace
  stripped = ap (λ (x : Pair Tally). x.kept) (strip_all (turns layer q p S.horizon trace) (opened (end_of S q p) (new_tally, [])))

  level_fed : IsLevel before_it.kept
  level_fed = level_all (turns layer q p S.horizon trace) (opened (end_of S q p) (new_tally, [])) (omega arith)

  pub so_far_same : (entry : EntryRecord) → entry_turns layer q p S.horizon entry ≡ [] → lengths_so_far S layer trace q p ≡ lengths_so_far S layer (trace ++ entry ∷ []) q p
  so_far_same entry none = ap (λ ts. (all_turned listed before_it ts).kept.1) (sym none) ∙ ap (λ (x : Pair Listed). x.kept.1) (fed_more listed S layer q p (new_tally, []) trace entry)

pub so_far_more : (S : Record) (layer q p : ℕ) (trace : List EntryRecord) (entry : EntryRecord)
    → caught (tally_of S layer q p trace (trace ++ entry ∷ [])) (lengths_so_far S layer trace q p) ≡ lengths_so_far S layer (trace ++ entry ∷ []) q p
so_far_more S layer q p trace entry =
    let old = before_it S layer q p trace in
    let tick = entry.key.tick in
    let first : IsAt tick old.kept.1 old = record { caught_up = sym (caught_same old.kept.0 old.kept.1 (level_fed S layer q p trace)); level = level_fed S layer q p trace; fresh = λ _. refl } in
    let after : IsAt tick old.kept.1 (all_turned listed old (entry_turns layer q p S.horizon entry)) = by first (eqb entry.key.receiver q && ltb entry.key.tick S.horizon) in
    let here = subst (IsAt tick old.kept.1) (fed_more listed S layer q p (new_tally, []) trace entry) after in
    ap (λ t. caught t old.kept.1) (sym (stripped S layer q p (trace ++ entry ∷ []))) ∙ sym here.caught_up
  where
    by : IsAt entry.key.tick (lengths_so_far S layer trace q p) (before_it S layer q p trace) → (b : Bool)
        → IsAt entry.key.tick (lengths_so_far S layer trace q p) (all_turned listed (before_it S layer q p trace) (cond b (noted_turns layer p entry.key.tick entry.notes) []))
    by h true = at_noted entry.key.tick (lengths_so_far S layer trace q p) layer p entry.notes (before_it S layer q p trace) h
    by h false = h

-- ---- what they are

record KnowsLengths (f : ℕ → Bool) (end : ℕ) (k : Listed) : Type 0 where
  tally : Knows f end k.0
  lengths : k.1 ≡ distances (starts f) (ends f) (min k.0.tick end)

module _ (f : ℕ → Bool) (end : ℕ) (k : Listed) (until : ℕ) (now : Bool) (h : KnowsLengths f end k) (same : (u : ℕ) → k.0.tick ≤ u → u < until → f u ≡ now) where
  abbrev t : Tally
  t = k.0

  abbrev t' : Tally
  t' = moved k.0 until now end

  abbrev listed_to : ℕ → List ℕ
  listed_to n = distances (starts f) (ends f) (min n end)

  has_counted : t.duration.count ≡ length k.1
  has_counted = h.tally.duration.count ∙ sym (length_of_distances (starts f) (ends f) (min t.tick end)) ∙ ap length (sym h.lengths)

  counts_now : t'.duration.count ≡ length (listed_to t'.tick)
  counts_now = (knows_moved f end t until now h.tally same).duration.count ∙ sym (length_of_distances (starts f) (ends f) (min t'.tick end))

  not_yet : until ≤ t.tick → caught t' k.1 ≡ listed_to t'.tick
  not_yet l =
      let still : t' ≡ t = moved_still t until now end l in
      ap (λ x. caught x k.1) still ∙ caught_same t k.1 (omega (arith, has_counted)) ∙ h.lengths ∙ ap (λ (x : Tally). listed_to x.tick) (sym still)

  module _ (l : t.tick < until) where
    at : t'.tick ≡ until
    at = tallies_keep.ticks t until now end (omega arith)

    moves : t' ≡ passed t until now end
    moves = cond-true _ _ _ (lt-ltb t.tick until l)

    abbrev new : List ℕ
    new = cond (ltb t.tick end) (ending_at (starts f) (ends f) t.tick) []

    more : listed_to t'.tick ≡ k.1 ++ new
    more =
        ap listed_to at
        ∙ distances_more (starts f) (ends f) t.tick until end l (λ u x y. t_after f end t until l h.tally now same u x y)
        ∙ ap (λ xs. xs ++ new) (sym h.lengths)

    none : ends f t.tick ≡ false → caught t' k.1 ≡ listed_to t'.tick
    none quiet =
        let nothing : new ≡ [] = new_none (starts f) (ends f) t.tick end quiet in
        caught_same t' k.1 (omega (arith, counts_now, ap length more, length-append k.1 new, ap length nothing))
        ∙ sym (more ∙ ap (λ xs. k.1 ++ xs) nothing ∙ append-nil k.1)

    by_cases : (was is : Bool) → t.was ≡ was → now ≡ is → caught t' k.1 ≡ listed_to t'.tick
    by_cases false true e i = none (t_at f end t until l h.tally now same false e ∙ ap (λ b. not b && false) i)
    by_cases true true e i = none (t_at f end t until l h.tally now same true e ∙ ap (λ b. not b && true) i)
    by_cases false false e i = none (t_at f end t until l h.tally now same false e ∙ ap (λ b. not b && false) i)
    by_cases true false e i =
        let ended : ends f t.tick ≡ true = t_at f end t until l h.tally now same true e ∙ ap (λ b. not b && true) i in
        let since = h.tally.since e in
        let waits : IsWaiting (starts f) (ends f) t.tick (Some since.0) = subst (IsWaiting (starts f) (ends f) t.tick) since.1 (open_start f end t until l h.tally true e) in
        let one = new_one (starts f) (ends f) t.tick end since.0 ended waits in
        let began : t'.started ≡ Some since.0 = ap (λ (x : Tally). x.started) moves ∙ (λ j. (changed (e j) (i j) t end).started) ∙ since.1 in
        let stopped : t'.ended ≡ Some t.tick = ap (λ (x : Tally). x.ended) moves ∙ (λ j. (changed (e j) (i j) t end).ended) in
        let long : t.tick - since.0 ≡ ticks_between t'.started t'.ended = sym (ap (λ o. ticks_between o t'.ended) began ∙ ap (ticks_between (Some since.0)) stopped) in
        caught_new t' k.1 (ltb t.tick end) (t.tick - since.0) long (counts_now ∙ ap length (more ∙ ap (λ xs. k.1 ++ xs) one))
        ∙ sym (more ∙ ap (λ xs. k.1 ++ xs) one)

  knows_listed : KnowsLengths f end (listed until now end k)
  knows_listed = record {
    tally = knows_moved f end t until now h.tally same;
    lengths = elim (cases_lt t.tick until) [ inl l ↦ by_cases l t.was now refl refl | inr l ↦ not_yet l ];
  }

lengths_keep : IsKeeping listed (λ (k : Listed). k.0.tick) KnowsLengths
lengths_keep = record {
  ticks = λ k until now end l. tallies_keep.ticks k.0 until now end l;
  knows = λ f end k until now h same. knows_listed f end k until now h same;
}

pub lengths_closed : (S : Record) (layer q p : ℕ) (trace : List EntryRecord) → AreFrom 0 trace
    → caught (kept_at counted S.horizon (fed counted S layer q p new_tally trace)) (lengths_so_far S layer trace q p) ≡ pair_durations S trace layer q p
lengths_closed S layer q p trace order =
    let pair = fed listed S layer q p (new_tally, []) trace in
    let f = suspects layer trace q p in
    let none : (g : ℕ → Bool) (end : ℕ) → KnowsLengths g end (new_tally, []) = λ g end. record { tally = none_known g end; lengths = ap (distances (starts g) (ends g)) (let z : 0 ≡ min 0 end = omega arith in z) } in
    let known = fed_known listed (λ (k : Listed). k.0.tick) KnowsLengths lengths_keep S layer q p (new_tally, []) trace refl none order in
    let to_end : min (kept_at listed S.horizon pair).0.tick (end_of S q p) ≡ end_of S q p = omega (arith, known.behind) in
    ap (λ (x : Pair Tally). caught (kept_at counted S.horizon x) pair.kept.1) (sym (strip_all (turns layer q p S.horizon trace) (opened (end_of S q p) (new_tally, []))))
    ∙ known.knows.lengths
    ∙ ap (distances (starts f) (ends f)) to_end

-- ---- the lengths of all pairs of a layer, as they are brought up to the tallies

-- ---- place by place

pub caught_none : (pairs : Pairs Tally) (closed : Bool) (from : ℕ) (old : List (List ℕ)) → AreCaught pairs closed from from old old
caught_none pairs closed from old = record {
  count = refl;
  each = λ k l. grind (arith, nat_tests);
}

module _ (pairs : Pairs Tally) (closed : Bool) (from place : ℕ) (old : List (List ℕ)) (now : List (Vec ℕ)) (h : AreCaught pairs closed from place old (lists_in now)) (low : from ≤ place) (inside : place < length now) where
  pub caught_next : (v new : Vec ℕ) → new.items ≡ caught (tally_at pairs closed place) (get_or now place v).items → AreCaught pairs closed from (place + 1) old (lists_in (set now place new))
  caught_next v new is = record {
    count = ap length moved ∙ length-set (lists_in now) place new.items ∙ h.count;
    each = λ k l. ap (λ xs. get_or xs k []) moved ∙ elim (cases_eq k place) [ inl e ↦ own k l e | inr n ↦ other k l n ];
  }
    where
      moved : lists_in (set now place new) ≡ set (lists_in now) place new.items
      moved = map-set (λ (x : Vec ℕ). x.items) now place new

      long : length (lists_in now) ≡ length now
      long = length-map now (λ (x : Vec ℕ). x.items)

      was : (get_or now place v).items ≡ get_or old place []
      was =
          sym (get_or-map (λ (x : Vec ℕ). x.items) now place v [] inside)
          ∙ h.each place (omega (arith, h.count, long, inside))
          ∙ cond-false _ _ _ (and_right (leb from place) (ltb place place) (le-ltb place place (omega arith)))

      own : (k : ℕ) → k < length old → k ≡ place
          → get_or (set (lists_in now) place new.items) k [] ≡ cond (leb from k && ltb k (place + 1)) (caught (tally_at pairs closed k) (get_or old k [])) (get_or old k [])
      own k l e =
          get_or-set_at (lists_in now) place k new.items [] e (omega (arith, long, inside))
          ∙ is
          ∙ ap (caught (tally_at pairs closed place)) was
          ∙ ap (λ x. caught (tally_at pairs closed x) (get_or old x [])) (sym e)
          ∙ sym (cond-true _ _ _ (and_from (leb from k) (ltb k (place + 1)) (le-leb from k (omega (arith, low, e))) (lt-ltb k (place + 1) (omega (arith, e)))))

      same_test : (k : ℕ) → k ≢ place → ltb k place ≡ ltb k (place + 1)
      same_test k n = grind (arith, nat_tests)

      other : (k : ℕ) → k < length old → k ≢ place
          → get_or (set (lists_in now) place new.items) k [] ≡ cond (leb from k && ltb k (place + 1)) (caught (tally_at pairs closed k) (get_or old k [])) (get_or old k [])
      other k l n =
          get_or-set_other (lists_in now) place k new.items [] n
          ∙ h.each k l
          ∙ ap (λ b. cond (leb from k && b) (caught (tally_at pairs closed k) (get_or old k [])) (get_or old k [])) (same_test k n)

-- ---- as they open

pub empty_more : (xs : List (List ℕ)) → ((k : ℕ) → get_or xs k [] ≡ []) → (k : ℕ) → get_or (xs ++ [] ∷ []) k [] ≡ []
empty_more [] none zero = refl
empty_more [] none (suc k) = refl
empty_more (x ∷ xs) none zero = none 0
empty_more (x ∷ xs) none (suc k) = empty_more xs (λ j. none (suc j)) k

-- ---- one more entry

module _ (S : Record) (layer : ℕ) (trace : List EntryRecord) (d : Durations) (h : AreFollowing S layer trace d) where
  module _ (entry : EntryRecord) where
    follows_none : ((i j : ℕ) → i < S.processes → entry_turns layer (suc i) (suc j) S.horizon entry ≡ []) → AreFollowing S layer (trace ++ entry ∷ []) d
    follows_none none = record {
      processes = h.processes;
      count = h.count;
      each = λ i j l m. h.each i j l m ∙ so_far_same S layer (suc i) (suc j) trace entry (none i j l);
    }

    pub follows_quiet : entry.notes ≡ [] → AreFollowing S layer (trace ++ entry ∷ []) d
    follows_quiet none = follows_none (λ i j l. turns_quiet layer (suc i) (suc j) S.horizon entry none)

    module _ (pairs : Pairs Tally) (are : ArePairs counted S layer new_tally (trace ++ entry ∷ []) pairs) where
      abbrev n : ℕ
      n = S.processes

      abbrev row : ℕ
      row = entry.key.receiver - 1

      first_is : row * d.processes ≡ row * n
      first_is = ap (λ m. row * m) h.processes

      long : length (lists_in d.pairs.items) ≡ n * n
      long = length-map d.pairs.items (λ (x : Vec ℕ). x.items) ∙ h.count

      -- numbers above n have no pair
      pub follows_above : min (length d.pairs.items) (pairs.processes * pairs.processes) < row * d.processes + d.processes → AreFollowing S layer (trace ++ entry ∷ []) d
      follows_above high = follows_none (λ i j l. turns_other layer (suc i) (suc j) S.horizon entry (λ e.
          let few : suc i * n ≤ n * n = mul-le-mul_right n l in
          let here : row * d.processes ≡ i * n = first_is ∙ ap (λ r. r * n) (let r : row ≡ i = omega (arith, e) in r) in
          let places : pairs.processes * pairs.processes ≡ n * n = ap (λ m. m * m) are.processes in
          absurd (omega (arith, high, few, here, h.count, places, h.processes, suc-mul i n))))

      module _ (new : Durations) (same : new.processes ≡ d.processes)
          (caught_up : AreCaught pairs false (row * d.processes) (row * d.processes + d.processes) (lists_in d.pairs.items) (lists_in new.pairs.items)) where
        own : (i j : ℕ) → i < n → j < n → entry.key.receiver ≡ suc i → get_or (lists_in new.pairs.items) (i * n + j) [] ≡ lengths_so_far S layer (trace ++ entry ∷ []) (suc i) (suc j)
        own i j l m e =
            let here : row * d.processes ≡ i * n = first_is ∙ ap (λ r. r * n) (let r : row ≡ i = omega (arith, e) in r) in
            caught_up.each (i * n + j) (omega (arith, long, mul-add-lt i n j n l m))
            ∙ cond-true _ _ _ (and_from (leb (row * d.processes) (i * n + j)) (ltb (i * n + j) (row * d.processes + d.processes)) (le-leb _ _ (omega (arith, here))) (lt-ltb _ _ (omega (arith, here, m, h.processes))))
            ∙ ap (caught (tally_at pairs false (i * n + j))) (h.each i j l m)
            ∙ ap (λ (x : Pair Tally). caught x.kept (lengths_so_far S layer trace (suc i) (suc j))) (are.each i j (opened 0 new_tally) l m)
            ∙ so_far_more S layer (suc i) (suc j) trace entry

        outside : (i j : ℕ) → j < n → entry.key.receiver ≢ suc i → 1 ≤ entry.key.receiver → (leb (row * d.processes) (i * n + j) && ltb (i * n + j) (row * d.processes + d.processes)) ≡ false
        outside i j m other some =
            elim (cases_lt i row) [
              | inl l ↦
                  let le : suc i * n ≤ row * n = mul-le-mul_right n l in
                  and_left (leb (row * d.processes) (i * n + j)) (ltb (i * n + j) (row * d.processes + d.processes)) (lt-leb _ _ (omega (arith, le, first_is, suc-mul i n, m)))
              | inr l ↦
                  let le : suc row * n ≤ i * n = mul-le-mul_right n (let m : row < i = omega (arith, l, other, some) in m) in
                  and_right (leb (row * d.processes) (i * n + j)) (ltb (i * n + j) (row * d.processes + d.processes)) (le-ltb _ _ (omega (arith, le, first_is, suc-mul row n, h.processes)))
            ]

        pub follows_caught : 1 ≤ entry.key.receiver → AreFollowing S layer (trace ++ entry ∷ []) new
        follows_caught some = record {
          processes = same ∙ h.processes;
          count = sym (length-map new.pairs.items (λ (x : Vec ℕ). x.items)) ∙ caught_up.count ∙ long;
          each = λ i j l m. elim (cases_eq entry.key.receiver (suc i)) [
            | inl e ↦ own i j l m e
            | inr ne ↦
                caught_up.each (i * n + j) (omega (arith, long, mul-add-lt i n j n l m))
                ∙ cond-false _ _ _ (outside i j m ne some)
                ∙ h.each i j l m
                ∙ so_far_same S layer (suc i) (suc j) trace entry (turns_other layer (suc i) (suc j) S.horizon entry ne)
          ];
        }

  -- ---- no entry follows

  pub closes_caught : (pairs : Pairs Tally) → ArePairs counted S layer new_tally trace pairs → (new : Durations) → new.processes ≡ d.processes
      → AreCaught pairs true 0 (length d.pairs.items) (lists_in d.pairs.items) (lists_in new.pairs.items) → AreDurations S layer trace new
  closes_caught pairs are new same caught_up = record {
    processes = same ∙ h.processes;
    count = sym (length-map new.pairs.items (λ (x : Vec ℕ). x.items)) ∙ caught_up.count ∙ long;
    each = λ i j l m.
        let n = S.processes in
        let inside : i * n + j < n * n = mul-add-lt i n j n l m in
        caught_up.each (i * n + j) (omega (arith, long, inside))
        ∙ cond-true _ _ _ (and_from (leb 0 (i * n + j)) (ltb (i * n + j) (length d.pairs.items)) (le-leb _ _ (omega arith)) (lt-ltb _ _ (omega (arith, h.count, inside))))
        ∙ (λ z. caught (kept_at counted (are.horizon z) (are.each i j (opened 0 new_tally) l m z)) (h.each i j l m z))
        ∙ lengths_closed S layer (suc i) (suc j) trace are.in_order;
  }
    where
      long : length (lists_in d.pairs.items) ≡ S.processes * S.processes
      long = length-map d.pairs.items (λ (x : Vec ℕ). x.items) ∙ h.count

pub same_length : (v : Vec (Vec ℕ)) (new : List (Vec ℕ)) → length (lists_in new) ≡ length (lists_in v.items) → length new ≡ v.len
same_length v new same = omega (arith, length-map new (λ (x : Vec ℕ). x.items), length-map v.items (λ (x : Vec ℕ). x.items), same, v.ok.0)
