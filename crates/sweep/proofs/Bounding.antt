-- The bounds of detections: what is counted of them, and that no detection is later.
use Rattle.sweep.proofs.Words.{◌≡◌, ◌≢◌, ◌⊎◌, inl, inr, ℕ, zero, suc, ◌+◌, ◌-◌, ◌*◌, ◌%◌, ◌<◌, ◌≤◌, min, Bool, true, false, cond, not, ◌||◌, nat_lt, Option, None, Some, unwrap_or, List, [], ◌∷◌, ◌++◌, length, map, take, get_or, refl, sym, ap, ◌∙◌, subst, arith, true≢false, All, cons_option, count_by, filter, filter_map, flat_map, list_any, map-append, take_more, filter-append, list_any-append, filter_map-append, sum_by-append, le-ltb, ltb-true, ltb-false, le_trans, append-nil, is_some, ◌==◌, All-filter, take-append_seam, mul-le-mul_right, div-add-mod', mod_below, EntryRecord, PairMeasures, Record, IsInRange, Finished, Group, Trial, LayerSums, greater, greatest, done_on, all_pairs, all_detections, AreFitting, IsDistribution, counts_on, counted_of, counted_pairs, detections, detection_time, is_undetected, times_of, is_none, All-cons, All-head, All-nil, All-tail, All-take, both_true, is_watched, crash, link, crash_tick, is_crashed, is_correct, suspects, least_from, detected_by, last_letter, grown, trusts, watch_of, IsBounded, HasGrounds, all_measures, delay_after, is_measured, layer_measures, pair_measures, AreTrusts, most_trusts, trusts_of, Na, NoTick, At, Trusts, one_layer, two_layers, AreBounds, IsAwaited, detection_bound, is_in, bounds_plus, of_bound, IsPair, bound_after, bounds, bounds_of, bounds_on, is_to_detect, DetectionBounds, Distribution}
use Rattle.sweep.proofs.{Added.{bounds_added}, Greatest.{greatest_both}, Lasted.{each_measure}}
use Rattle.process_api.specs.declared.numbers.{DetectorNumbers.{DetectorNumbers, TheVariants.{Timeout, Freshness}}, TimeoutNumbers.{TimeoutNumbers}}
use Rattle.scenario_record.specs.{Ranges.{AreInRange}, declared.link.Link.{Link}}
use Rattle.detector_bounds.specs.Detected.{multiple_from}
use Rattle.reporting.specs.declared.pair_measures.Detection.{Detection}

-- ---- what is counted

one_bound : (o : Option ℕ) → AreBounds (o ∷ []) (of_bound o)
one_bound None = record { highest = refl; late = refl }
one_bound (Some v) = record { highest = refl; late = refl }

module _ (S : Record) (of : (q p : ℕ) → ℕ) where
  pub bounds_both : (xs ys : List PairMeasures) → bounds_of S of (xs ++ ys) ≡ bounds_of S of xs ++ bounds_of S of ys
  bounds_both xs ys =
      let bound : PairMeasures → Option ℕ = λ m. bound_after S (of m.observer m.subject) m.observer m.subject in
      let test : PairMeasures → Bool = λ m. is_to_detect m.detection in
      ap (map bound) (filter-append test xs ys) ∙ map-append bound (filter test xs) (filter test ys)

  -- of the first pairs, with one more
  module _ (pairs : List PairMeasures) (i : ℕ) (m : PairMeasures) (lt : i < length pairs) (at : m ≡ get_or pairs i m) (b : DetectionBounds) (so_far : AreBounds (bounds_of S of (take i pairs)) b) where
    next : bounds_of S of (take (i + 1) pairs) ≡ bounds_of S of (take i pairs) ++ bounds_of S of (m ∷ [])
    next = ap (bounds_of S of) (take_more pairs i m lt ∙ ap (λ x. take i pairs ++ x ∷ []) (sym at)) ∙ bounds_both (take i pairs) (m ∷ [])

    pub bound_more : is_to_detect m.detection ≡ true → AreBounds (bounds_of S of (take (i + 1) pairs)) (bounds_plus b (of_bound (bound_after S (of m.observer m.subject) m.observer m.subject)))
    bound_more is =
        let its = bound_after S (of m.observer m.subject) m.observer m.subject in
        let one : bounds_of S of (m ∷ []) ≡ its ∷ [] = ap (λ c. map (λ (x : PairMeasures). bound_after S (of x.observer x.subject) x.observer x.subject) (cond c (m ∷ []) [])) is in
        subst (λ bs. AreBounds bs (bounds_plus b (of_bound its))) (sym (next ∙ ap (λ bs. bounds_of S of (take i pairs) ++ bs) one))
        (bounds_added (bounds_of S of (take i pairs)) (its ∷ []) b (of_bound its) so_far (one_bound its))

    pub bound_same : is_to_detect m.detection ≡ false → AreBounds (bounds_of S of (take (i + 1) pairs)) b
    bound_same isnt =
        let none : bounds_of S of (m ∷ []) ≡ [] = ap (λ c. map (λ (x : PairMeasures). bound_after S (of x.observer x.subject) x.observer x.subject) (cond c (m ∷ []) [])) isnt in
        subst (λ bs. AreBounds bs b) (sym (next ∙ ap (λ bs. bounds_of S of (take i pairs) ++ bs) none ∙ append-nil (bounds_of S of (take i pairs)))) so_far

-- ---- a count of trusts that stays at the greatest number leaves each bound as it is

not_before : (period tick : ℕ) → 1 ≤ period → tick ≤ multiple_from period tick
not_before period tick low =
    let whole = div-add-mod' (tick + (period - 1)) period in
    let rest : (tick + (period - 1)) % period < period = mod_below (tick + (period - 1)) period low in
    omega (arith, whole, rest, low)

grown_late : (t : TimeoutNumbers) → 1 ≤ t.check → 1 ≤ t.grow → (its : Link) (count tick : ℕ) → count ≤ detected_by (Timeout t) its count tick
grown_late t check grow its count tick =
    let most : 1 * count ≤ t.grow * count = mul-le-mul_right count grow in
    let after = not_before t.check (last_letter t its tick + grown t count) check in
    omega (arith, most, after)

-- either the trusts mean nothing, or so many bring the bound above every horizon
many_trusts : (d : DetectorNumbers) → AreInRange d → (its : Link) (count tick : ℕ) → most_trusts ≤ count
    → (detected_by d its most_trusts tick ≡ detected_by d its count tick)
    ⊎ ((most_trusts ≤ detected_by d its most_trusts tick) × (most_trusts ≤ detected_by d its count tick))
many_trusts (Timeout t) ranges its count tick high =
    let late = grown_late t ranges.check_low ranges.grow_low its in
    inr (late most_trusts tick, le_trans high (late count tick))
many_trusts (Freshness f) ranges its count tick high = inl refl

module _ (S : Record) (ranges : IsInRange S) (q p : ℕ) where
  abbrev tick : ℕ
  tick = crash_tick S p

  -- the bound from the tick at which it lies
  abbrev from : ℕ → Option ℕ
  from until = cond (nat_lt until S.horizon) (Some (until - tick)) None

  none_late : (count : ℕ) → most_trusts ≤ detected_by S.detector (link S p q) count tick → bound_after S count q p ≡ None
  none_late count high = ap (λ b. cond b (Some (detected_by S.detector (link S p q) count tick - tick)) None) (le-ltb (detected_by S.detector (link S p q) count tick) S.horizon (omega (arith, high, ranges.horizon_high)))

  cases_most : (count : ℕ) → (count ≤ most_trusts) ⊎ (most_trusts ≤ count)
  cases_most count = grind arith

  pub same_bound : (count : ℕ) → bound_after S (min count most_trusts) q p ≡ bound_after S count q p
  same_bound count = elim (cases_most count) [
    | inl low ↦ ap (λ n. bound_after S n q p) (let e : min count most_trusts ≡ count = omega (arith, low) in e)
    | inr high ↦
        ap (λ n. bound_after S n q p) (let e : min count most_trusts ≡ most_trusts = omega (arith, high) in e)
        ∙ elim (many_trusts S.detector ranges.numbers (link S p q) count tick high) [
          | inl same ↦ ap from same
          | inr late ↦ none_late most_trusts late.0 ∙ sym (none_late count late.1)
        ]
  ]

-- ---- of the pairs of a layer

same_images : {X Y : Type 0} (f g : X → Y) (xs : List X) → All (λ x. f x ≡ g x) xs → map f xs ≡ map g xs
same_images f g [] each = refl
same_images f g (x ∷ xs) each = (λ i. All-head (λ y. f y ≡ g y) x xs each i ∷ same_images f g xs (All-tail (λ y. f y ≡ g y) x xs each) i)

-- what holds of those that pass a test
chosen : {X : Type 0} (test : X → Bool) (P : X → Type 0) (xs : List X) → All (λ x. test x ≡ true → P x) xs → All P (filter test xs)
chosen test P [] each = All-nil P
chosen {X} test P (x ∷ xs) each = by (test x) refl (chosen test P xs (All-tail (λ y. test y ≡ true → P y) x xs each))
  where
    by : (b : Bool) → test x ≡ b → All P (filter test xs) → All P (cond b (x ∷ filter test xs) (filter test xs))
    by true is rest = All-cons P x (filter test xs) (All-head (λ y. test y ≡ true → P y) x xs each is) rest
    by false is rest = rest

module _ (group : Group) (S : Record) (trace : List EntryRecord) (layer : ℕ) where
  is_pair : (q p : ℕ) → 1 ≤ q → q ≤ S.processes → 1 ≤ p → p ≤ S.processes → q ≢ p → IsPair S (pair_measures S trace layer q p).observer (pair_measures S trace layer q p).subject
  unfolding pair_measures
  is_pair q p some l one m other = record { different = other; observer = l; subject = m }

  pub pairs_are : All (λ m. IsPair S m.observer m.subject) (counted_of group layer S (layer_measures S trace layer))
  pairs_are =
      All-filter (λ m. counts_on group layer S m.observer m.subject) (λ m. IsPair S m.observer m.subject) (layer_measures S trace layer)
      (each_measure S trace layer (λ m. IsPair S m.observer m.subject) is_pair)

  -- what was counted of the trusts gives the bounds
  module _ (ranges : IsInRange S) (t : Trusts) (are : AreTrusts S.processes trace t) where
    abbrev IsSame : PairMeasures → Type 0
    IsSame m = bound_after S (trusts_of t m.observer m.subject) m.observer m.subject ≡ bound_after S (trusts trace m.observer m.subject) m.observer m.subject

    same_measures : (q p : ℕ) → 1 ≤ q → q ≤ S.processes → 1 ≤ p → p ≤ S.processes → q ≢ p → IsSame (pair_measures S trace layer q p)
    unfolding pair_measures
    same_measures zero p some l one m other = absurd (omega (arith, some))
    same_measures (suc i) zero some l one m other = absurd (omega (arith, one))
    same_measures (suc i) (suc j) some l one m other =
        let row : suc i - 1 ≡ i = omega arith in
        let column : suc j - 1 ≡ j = omega arith in
        let counted : trusts_of t (suc i) (suc j) ≡ min (trusts trace (suc i) (suc j)) most_trusts
        = (λ z. get_or t.counts.items (row z * are.processes z + column z) 0) ∙ are.counts.each i j (omega (arith, l)) (omega (arith, m)) in
        ap (λ n. bound_after S n (suc i) (suc j)) counted ∙ same_bound S ranges (suc i) (suc j) (trusts trace (suc i) (suc j))

    abbrev pairs : List PairMeasures
    pairs = counted_of group layer S (layer_measures S trace layer)

    pub bounds_same : bounds_on layer S (trusts_of t) pairs ≡ bounds_on layer S (trusts trace) pairs
    bounds_same =
        let counts : PairMeasures → Bool = λ m. counts_on group layer S m.observer m.subject in
        let test : PairMeasures → Bool = λ m. is_to_detect m.detection in
        ap (λ bs. cond (layer == 1) bs [])
        (same_images (λ m. bound_after S (trusts_of t m.observer m.subject) m.observer m.subject) (λ m. bound_after S (trusts trace m.observer m.subject) m.observer m.subject) (filter test pairs)
        (All-filter test IsSame pairs (All-filter counts IsSame (layer_measures S trace layer) (each_measure S trace layer IsSame same_measures))))

-- so what was reckoned with them is that of a run
pub bounded_one : (group : Group) (layer : ℕ) (S : Record) (trace : List EntryRecord) → IsInRange S → (t : Trusts) → AreTrusts S.processes trace t
    → (its : DetectionBounds) (counted : List PairMeasures) → counted ≡ counted_of group layer S (layer_measures S trace layer)
    → (All (λ m. IsPair S m.observer m.subject) counted → AreBounds (bounds_on layer S (trusts_of t) counted) its)
    → AreBounds (bounds group layer (record { scenario = S; trace = trace })) its
bounded_one group layer S trace ranges t are its counted is reckoned =
    let pairs = counted_of group layer S (layer_measures S trace layer) in
    let all : AreBounds (bounds_on layer S (trusts_of t) pairs) its = subst (λ ms. All (λ m. IsPair S m.observer m.subject) ms → AreBounds (bounds_on layer S (trusts_of t) ms) its) is reckoned (pairs_are group S trace layer) in
    subst (λ bs. AreBounds bs its) (bounds_same group S trace layer ranges t are) all

-- ---- no detection is later than the bound

-- a crash that was to be detected, and has a bound, was detected by then
abbrev IsMet : Detection → Option ℕ → Type 0
IsMet d bound = (v : ℕ) → is_to_detect d ≡ true → bound ≡ Some v → (ticks : ℕ) × (d ≡ At ticks) × (ticks ≤ v)

abbrev IsKept : Record → List EntryRecord → PairMeasures → Type 0
IsKept S trace m = IsMet m.detection (bound_after S (trusts trace m.observer m.subject) m.observer m.subject)

module _ (S : Record) (trace : List EntryRecord) where
  some_crash : (o : Option ℕ) (horizon : ℕ) → unwrap_or o (suc horizon) < horizon → o ≡ Some (unwrap_or o (suc horizon))
  some_crash None horizon lt = absurd (omega (arith, lt))
  some_crash (Some c) horizon lt = refl

  has_bound : (below : Bool) (at v : ℕ) → cond below (Some at) None ≡ Some v → (below ≡ true) × (at ≡ v)
  has_bound true at v is = (refl, cc)
  has_bound false at v is = absurd (cc)

  is_awaited : (b : Bool) (d : Detection) → is_to_detect (cond b d Na) ≡ true → b ≡ true
  is_awaited true d is = refl
  is_awaited false d is = absurd (true≢false (sym is))

  not_true : (b : Bool) → not b ≡ true → b ≡ false
  not_true true is = absurd (true≢false (sym is))
  not_true false is = refl

  pub pair_awaited : (group : Group) (q p : ℕ) → 1 ≤ q → q ≤ S.processes → 1 ≤ p → p ≤ S.processes → q ≢ p
      → counts_on group 1 S (pair_measures S trace 1 q p).observer (pair_measures S trace 1 q p).subject ≡ true → is_to_detect (pair_measures S trace 1 q p).detection ≡ true
      → IsAwaited group (record { scenario = S; trace = trace }) (pair_measures S trace 1 q p).observer (pair_measures S trace 1 q p).subject (crash_tick S (pair_measures S trace 1 q p).subject)
  unfolding pair_measures
  pair_awaited group q p some l one m other counts awaited =
      let measured : is_measured S q p ≡ true = is_awaited (is_measured S q p) (delay_after (crash_tick S p) (least_from (suspects 1 trace q p) S.horizon)) awaited in
      let both = both_true (is_crashed S p) (is_correct S q) measured in
      let early : crash_tick S p < S.horizon = ltb-true (crash_tick S p) S.horizon both.0 in
      let late : S.horizon ≤ crash_tick S q = ltb-false (crash_tick S q) S.horizon (not_true (is_crashed S q) both.1) in
      let of = both_true (is_in group q p) (is_watched q S.processes (watch_of S.detector) p) counts in
      record {
        grouped = of.0;
        correct = ((some, l), late);
        watches = ((some, l), of.1);
        crashes = ((one, m), some_crash (crash S p) S.horizon early, early);
      }

  pair_kept : (group : Group) (q p : ℕ) → 1 ≤ q → q ≤ S.processes → 1 ≤ p → p ≤ S.processes → q ≢ p → IsBounded S trace (pair_measures S trace 1 q p)
      → counts_on group 1 S (pair_measures S trace 1 q p).observer (pair_measures S trace 1 q p).subject ≡ true → IsKept S trace (pair_measures S trace 1 q p)
  unfolding pair_measures
  pair_kept group q p some l one m other bounded counts v awaited bound =
      let until = detected_by S.detector (link S p q) (trusts trace q p) (crash_tick S p) in
      let is = pair_awaited group q p some l one m other counts awaited in
      let its = has_bound (nat_lt until S.horizon) (until - crash_tick S p) v bound in
      let found = (bounded refl).detection (crash_tick S p) is.correct is.watches is.crashes (ltb-true until S.horizon its.0) in
      (found.0, found.1, omega (arith, found.2, its.1))

  first_bounded : All (IsBounded S trace) (all_measures S trace) → All (IsBounded S trace) (layer_measures S trace 1)
  first_bounded all = by (is_some S.share) refl
    where
      by : (b : Bool) → is_some S.share ≡ b → All (IsBounded S trace) (layer_measures S trace 1)
      by true shared =
          let one = layer_measures S trace 1 in
          let two = layer_measures S trace 2 in
          subst (All (IsBounded S trace)) (take-append_seam one two)
          (All-take (IsBounded S trace) (length one) (one ++ two) (subst (All (IsBounded S trace)) (sym (two_layers S trace shared)) all))
      by false alone = subst (All (IsBounded S trace)) (sym (one_layer S trace alone)) all

  pub all_kept : (group : Group) → HasGrounds S trace → All (IsKept S trace) (counted_pairs group 1 (record { scenario = S; trace = trace }))
  all_kept group grounds =
      let counts : PairMeasures → Bool = λ m. counts_on group 1 S m.observer m.subject in
      let bounded = first_bounded grounds.bounded in
      let kept = each_measure S trace 1 (λ m. IsBounded S trace m → counts m ≡ true → IsKept S trace m) (pair_kept group) in
      chosen counts (IsKept S trace) (layer_measures S trace 1) (λ k d lt. kept k d lt (bounded k d lt))

-- a time isn't above a bound, if there are any
abbrev IsBelow : Option ℕ → Option ℕ → Type 0
IsBelow None None = Unit {0}
IsBelow (Some t) (Some bound) = t ≤ bound
IsBelow None (Some bound) = ⊥
IsBelow (Some t) None = ⊥

below_both : (s t a b : Option ℕ) → IsBelow s a → IsBelow t b → IsBelow (greater s t) (greater a b)
below_both None None None None p q = tt
below_both None (Some t) None (Some b) p q = q
below_both (Some s) None (Some a) None p q = p
below_both (Some s) (Some t) (Some a) (Some b) p q = omega (arith, p, q)
below_both None t (Some a) b p q = absurd p
below_both (Some s) t None b p q = absurd p
below_both None None None (Some b) p q = absurd q
below_both None (Some t) None None p q = absurd q
below_both (Some s) None (Some a) (Some b) p q = absurd q
below_both (Some s) (Some t) (Some a) None p q = absurd q

is_below : (o : Option ℕ) (bound : ℕ) → IsBelow o (Some bound) → (t : ℕ) × (o ≡ Some t) × (t ≤ bound)
is_below None bound p = absurd p
is_below (Some t) bound p = (t, refl, p)

abbrev pub known : List (Option ℕ) → List ℕ
known all = filter_map (λ bound. bound) all

abbrev lacking : List PairMeasures → ℕ
lacking pairs = count_by (λ m. is_undetected m.detection) pairs

-- of these pairs, times and bounds: where no bound is missing, each crash was detected, and the longest time isn't above
-- the greatest bound
abbrev AreKept : List PairMeasures → (times : List ℕ) → List (Option ℕ) → Type 0
AreKept pairs times all = list_any is_none all ≡ false → (lacking pairs ≡ 0) × IsBelow (greatest times) (greatest (known all))

none_missing : (a b : Bool) → (a || b) ≡ false → (a ≡ false) × (b ≡ false)
none_missing true b is = absurd (true≢false is)
none_missing false b is = (refl, is)

kept_both : (ps qs : List PairMeasures) (ss ts : List ℕ) (cs bs : List (Option ℕ)) → AreKept ps ss cs → AreKept qs ts bs → AreKept (ps ++ qs) (ss ++ ts) (cs ++ bs)
kept_both ps qs ss ts cs bs p q none =
    let each = none_missing (list_any is_none cs) (list_any is_none bs) (sym (list_any-append is_none cs bs) ∙ none) in
    let first = p each.0 in
    let second = q each.1 in
    let own : Option ℕ → Option ℕ = λ bound. bound in
    let bound : greatest (known (cs ++ bs)) ≡ greater (greatest (known cs)) (greatest (known bs)) = ap greatest (filter_map-append own cs bs) ∙ greatest_both (known cs) (known bs) in (
      omega (arith, sum_by-append (λ (m : PairMeasures). cond (is_undetected m.detection) 1 0) ps qs, first.0, second.0),
      subst (IsBelow (greatest (ss ++ ts))) (sym bound)
          (subst (λ o. IsBelow o (greater (greatest (known cs)) (greatest (known bs)))) (sym (greatest_both ss ts))
          (below_both (greatest ss) (greatest ts) (greatest (known cs)) (greatest (known bs)) first.1 second.1)),
    )

abbrev once : Bool → ℕ
once b = cond b 1 0

-- one crash, and none
met_kept : (d : Detection) (o : Option ℕ) → IsMet d o → list_any is_none (cond (is_to_detect d) (o ∷ []) []) ≡ false
    → (once (is_undetected d) ≡ 0) × IsBelow (greatest (cons_option (detection_time d) [])) (greatest (known (cond (is_to_detect d) (o ∷ []) [])))
met_kept Na o met none = (refl, tt)
met_kept NoTick None met none = absurd (true≢false none)
met_kept NoTick (Some v) met none = let found = met v refl refl in absurd (cc found.1)
met_kept (At t) None met none = absurd (true≢false none)
met_kept (At t) (Some v) met none =
    let found = met v refl refl in
    let same : t ≡ found.0 = cc found.1 in
    (refl, omega (arith, same, found.2))

one_kept : (S : Record) (trace : List EntryRecord) (m : PairMeasures) → IsKept S trace m → AreKept (m ∷ []) (times_of (m ∷ [])) (bounds_of S (trusts trace) (m ∷ []))
one_kept S trace m met =
    let bound : PairMeasures → Option ℕ = λ x. bound_after S (trusts trace x.observer x.subject) x.observer x.subject in
    let all : (b : Bool) → cond b (bound m ∷ []) [] ≡ map bound (cond b (m ∷ []) []) = λ b. elim b as (λ c. cond c (bound m ∷ []) [] ≡ map bound (cond c (m ∷ []) [])) [ true ↦ refl | false ↦ refl ] in
    subst (AreKept (m ∷ []) (times_of (m ∷ []))) (all (is_to_detect m.detection))
    (λ none. let each = met_kept m.detection (bound m) met none in (omega (arith, each.0), each.1))

pairs_kept : (S : Record) (trace : List EntryRecord) (pairs : List PairMeasures) → All (IsKept S trace) pairs → AreKept pairs (times_of pairs) (bounds_of S (trusts trace) pairs)
pairs_kept S trace [] each = λ none. (refl, tt)
pairs_kept S trace (m ∷ ms) each =
    subst (AreKept (m ∷ ms) (times_of (m ∷ ms))) (sym (bounds_both S (trusts trace) (m ∷ []) ms))
    (subst (λ ts. AreKept (m ∷ ms) ts (bounds_of S (trusts trace) (m ∷ []) ++ bounds_of S (trusts trace) ms)) (sym (filter_map-append (λ (x : PairMeasures). detection_time x.detection) (m ∷ []) ms))
    (kept_both (m ∷ []) ms (times_of (m ∷ [])) (times_of ms) (bounds_of S (trusts trace) (m ∷ [])) (bounds_of S (trusts trace) ms)
    (one_kept S trace m (All-head (IsKept S trace) m ms each)) (pairs_kept S trace ms (All-tail (IsKept S trace) m ms each))))

abbrev AreGrounded : List Finished → Type 0
AreGrounded runs = All (λ r. HasGrounds r.scenario r.trace) runs

runs_kept : (group : Group) (runs : List Finished) → AreGrounded runs → AreKept (all_pairs group 1 runs) (flat_map (detections group 1) runs) (flat_map (bounds group 1) runs)
runs_kept group [] each = λ none. (refl, tt)
runs_kept group (r ∷ rs) each =
    kept_both (counted_pairs group 1 r) (all_pairs group 1 rs) (detections group 1 r) (flat_map (detections group 1) rs) (bounds group 1 r) (flat_map (bounds group 1) rs)
    (pairs_kept r.scenario r.trace (counted_pairs group 1 r) (all_kept r.scenario r.trace group (All-head (λ r. HasGrounds r.scenario r.trace) r rs each)))
    (runs_kept group rs (All-tail (λ r. HasGrounds r.scenario r.trace) r rs each))

pub told_bound : (late : Bool) (o : Option ℕ) (bound : ℕ) → cond late None o ≡ Some bound → (late ≡ false) × (o ≡ Some bound)
told_bound true o bound is = absurd (cc)
told_bound false o bound is = (refl, is)

first_kept : (group : Group) (trials : List Trial) (s : LayerSums) → AreFitting group 1 trials s → (bound : ℕ) → detection_bound s.bounds ≡ Some bound
    → (s.pairs.undetected ≡ 0) × (longest : ℕ) × (greatest (all_detections group 1 trials) ≡ Some longest) × (longest ≤ bound)
first_kept group trials s fit bound is =
    let runs = done_on 1 trials in
    let b = fit.sums.done.bounds in
    let told = told_bound s.bounds.is_late s.bounds.greatest bound is in
    let kept = runs_kept group runs fit.grounds (sym b.late ∙ told.0) in
    let below = is_below (greatest (all_detections group 1 trials)) bound (subst (IsBelow (greatest (all_detections group 1 trials))) (sym b.highest ∙ told.1) kept.1) in
    (fit.sums.done.pairs.undetected ∙ kept.0, below.0, below.1, below.2)

pub columns_kept : (group : Group) (layer : ℕ) (trials : List Trial) (s : LayerSums) (d : Distribution) (infinite : ℕ) → AreFitting group layer trials s
    → IsDistribution (all_detections group layer trials) infinite d → layer ≡ 1 → (bound : ℕ) → detection_bound s.bounds ≡ Some bound
    → (s.pairs.undetected ≡ 0) × (longest : ℕ) × (d.greatest ≡ Some longest) × (longest ≤ bound)
columns_kept group layer trials s d infinite fit of one bound is =
    let first = subst (λ l. AreFitting group l trials s) one fit in
    let its : d.greatest ≡ greatest (all_detections group 1 trials) = of.highest ∙ ap (λ l. greatest (all_detections group l trials)) one in
    let kept = first_kept group trials s first bound is in
    (kept.0, kept.1, its ∙ kept.2, kept.3)
