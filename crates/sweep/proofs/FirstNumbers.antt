-- The numbers of the first runs in which something is so.
use Rattle.sweep.proofs.Words.{◌≡◌, ℕ, ◌+◌, ◌<◌, ◌≤◌, max, Bool, true, false, cond, is_some, Option, None, Some, List, [], ◌∷◌, ◌++◌, length, refl, sym, ap, ◌∙◌, arith, nat_lt, ◌||◌, ◌==◌, true≢false, zero-add, count_by, flat_map, list_any, lt-ltb, ltb-true, ltb-false, list_any-append, sum_by-cons, first_of, first_with, is_above, first_number, done_on, all_detections, does, first_after, AreFirstRuns, AreRunCounts, Finished, detections, has_mistake, do_disagree, run_outcomes, greater, greatest, Trial, Group, FirstRuns, RunCounts}
use Rattle.sweep.proofs.{Greatest.{greatest_both, has, has_greatest, has_none_above}, Layered.{detections_both}}

-- of a list with one more
pub first_more : {X : Type 0} (p : X → Bool) (n : ℕ) (xs : List X) (x : X)
    → first_number p n (xs ++ x ∷ []) ≡ first_of (first_number p n xs) (p x) (n + length xs)
first_more p n [] x = ap (λ m. cond (p x) (Some m) None) (omega arith)
first_more {X} p n (y ∷ ys) x = by (p y) (first_more p (n + 1) ys x)
  where
    by : (b : Bool) → first_number p (n + 1) (ys ++ x ∷ []) ≡ first_of (first_number p (n + 1) ys) (p x) (n + 1 + length ys)
        → cond b (Some n) (first_number p (n + 1) (ys ++ x ∷ [])) ≡ first_of (cond b (Some n) (first_number p (n + 1) ys)) (p x) (n + length (y ∷ ys))
    by true later = refl
    by false later = later ∙ ap (first_of (first_number p (n + 1) ys) (p x)) (omega arith)

-- some are counted just where one passes
pub some_counted : {X : Type 0} (p : X → Bool) (xs : List X) → nat_lt 0 (count_by p xs) ≡ list_any p xs
some_counted p [] = refl
some_counted {X} p (x ∷ xs) = ap (nat_lt 0) (sum_by-cons (λ y. cond (p y) 1 0) x xs) ∙ by (p x) (some_counted p xs)
  where
    by : (b : Bool) → nat_lt 0 (count_by p xs) ≡ list_any p xs → nat_lt 0 (cond b 1 0 + count_by p xs) ≡ (b || list_any p xs)
    by true later = lt-ltb 0 (1 + count_by p xs) (omega arith)
    by false later = ap (nat_lt 0) (zero-add (count_by p xs)) ∙ later

module _ (group : Group) (layer : ℕ) where
  -- a run with a detection after so many ticks
  abbrev has_run : ℕ → Finished → Bool
  has_run v r = has v (detections group layer r)

  any_flat : {X Y : Type 0} (p : Y → Bool) (f : X → List Y) (xs : List X) → list_any (λ x. list_any p (f x)) xs ≡ list_any p (flat_map f xs)
  any_flat p f [] = refl
  any_flat p f (x ∷ xs) = ap (λ b. list_any p (f x) || b) (any_flat p f xs) ∙ sym (list_any-append p (f x) (flat_map f xs))

  does_have : (v : ℕ) (t : Trial) → does layer (has_run v) t ≡ has v (all_detections group layer (t ∷ []))
  does_have v t = any_flat (λ w. w == v) (detections group layer) (done_on layer (t ∷ []))

  -- there is such a run just where there is such a detection
  found : (v n : ℕ) (trials : List Trial) → is_some (first_number (does layer (has_run v)) n trials) ≡ has v (all_detections group layer trials)
  found v n [] = refl
  found v n (t ∷ ts) =
      by (does layer (has_run v) t) (found v (n + 1) ts)
      ∙ ap (λ b. b || has v (all_detections group layer ts)) (does_have v t)
      ∙ sym (list_any-append (λ w. w == v) (all_detections group layer (t ∷ [])) (all_detections group layer ts))
      ∙ ap (has v) (sym (detections_both group layer (t ∷ []) ts))
    where
      by : (b : Bool) → is_some (first_number (does layer (has_run v)) (n + 1) ts) ≡ has v (all_detections group layer ts)
          → is_some (cond b (Some n) (first_number (does layer (has_run v)) (n + 1) ts)) ≡ (b || has v (all_detections group layer ts))
      by true later = refl
      by false later = later

  module _ (first : ℕ) (trials : List Trial) (trial : Trial) where
    abbrev pub number : ℕ
    number = first + length trials

    abbrev pub before : Option ℕ
    before = greatest (all_detections group layer trials)

    abbrev here : List ℕ
    here = all_detections group layer (trial ∷ [])

    keeps : (o : Option ℕ) (b : Bool) → is_some o ≡ true → first_of o b number ≡ o
    keeps (Some n) b is = refl
    keeps None b is = absurd (true≢false (sym is))

    takes : (o : Option ℕ) (b : Bool) → is_some o ≡ false → b ≡ true → first_of o b number ≡ Some number
    takes (Some n) b none passes = absurd (true≢false none)
    takes None b none passes = ap (λ x. cond x (Some number) None) passes

    -- what is above the greatest before is the greatest here
    rises : (o g : Option ℕ) (v : ℕ) → greater o g ≡ Some v → is_above (Some v) o ≡ true → g ≡ Some v
    rises None g v is up = is
    rises (Some a) None v is up =
        let same : a ≡ v = cc in
        let lt : a < v = ltb-true a v up in
        absurd (omega (arith, same, lt))
    rises (Some a) (Some b) v is up =
        let most : max a b ≡ v = cc in
        let lt : a < v = ltb-true a v up in
        ap Some (omega (arith, most, lt))

    -- what isn't above it is that
    stays : (o g : Option ℕ) (v : ℕ) → greater o g ≡ Some v → is_above (Some v) o ≡ false → o ≡ Some v
    stays None g v is up = absurd (true≢false up)
    stays (Some a) None v is up = is
    stays (Some a) (Some b) v is up =
        let most : max a b ≡ v = cc in
        let le : v ≤ a = ltb-false a v up in
        ap Some (omega (arith, most, le))

    longest : (new old : Option ℕ) → new ≡ greater before (greatest here) → old ≡ first_after group layer first trials before
        → cond (is_above new before) (Some number) old ≡ first_after group layer first (trials ++ trial ∷ []) new
    longest None old is was = ap (λ o. o) (was ∙ ap (first_after group layer first trials) (none before (greatest here) (sym is)))
      where
        none : (o g : Option ℕ) → greater o g ≡ None → o ≡ None
        none None g p = refl
        none (Some a) None p = p
        none (Some a) (Some b) p = cc
    longest (Some v) old is was =
        by (is_above (Some v) before) refl
        ∙ sym (first_more (does layer (has_run v)) first trials trial)
      where
        by : (b : Bool) → is_above (Some v) before ≡ b
            → cond b (Some number) old ≡ first_of (first_number (does layer (has_run v)) first trials) (does layer (has_run v) trial) number
        by true up =
            sym (takes (first_number (does layer (has_run v)) first trials) (does layer (has_run v) trial)
            (found v first trials ∙ has_none_above v (all_detections group layer trials) up)
            (does_have v trial ∙ has_greatest v here (rises before (greatest here) v (sym is) up)))
        by false up =
            let same : before ≡ Some v = stays before (greatest here) v (sym is) up in
            was ∙ ap (first_after group layer first trials) same
            ∙ sym (keeps (first_number (does layer (has_run v)) first trials) (does layer (has_run v) trial)
            (found v first trials ∙ has_greatest v (all_detections group layer trials) same))

    -- what is greatest of all with one more
    pub greatest_more : greatest (all_detections group layer (trials ++ trial ∷ [])) ≡ greater before (greatest here)
    greatest_more = ap greatest (detections_both group layer trials (trial ∷ [])) ∙ greatest_both (all_detections group layer trials) here

    pub longest_more : (old : Option ℕ) → old ≡ first_after group layer first trials before
        → cond (is_above (greatest (all_detections group layer (trials ++ trial ∷ []))) before) (Some number) old
        ≡ first_after group layer first (trials ++ trial ∷ []) (greatest (all_detections group layer (trials ++ trial ∷ [])))
    longest_more old was = longest (greatest (all_detections group layer (trials ++ trial ∷ []))) old greatest_more was

    -- a test that some are counted of
    passed : (p : Finished → Bool) (n : ℕ) → n ≡ count_by p (done_on layer (trial ∷ [])) → nat_lt 0 n ≡ does layer p trial
    passed p n is = ap (nat_lt 0) is ∙ some_counted p (done_on layer (trial ∷ []))

    first_passed : (p : Finished → Bool) (n : ℕ) (old : Option ℕ) → n ≡ count_by p (done_on layer (trial ∷ [])) → old ≡ first_number (does layer p) first trials
        → first_of old (nat_lt 0 n) number ≡ first_number (does layer p) first (trials ++ trial ∷ [])
    first_passed p n old is was =
        ap (λ o. first_of o (nat_lt 0 n) number) was
        ∙ ap (λ b. first_of (first_number (does layer p) first trials) b number) (passed p n is)
        ∙ sym (first_more (does layer p) first trials trial)

    pub first_runs_more : (f : FirstRuns) (counts : RunCounts) (is_longest : Bool) → AreFirstRuns group layer first trials f
        → AreRunCounts group layer (done_on layer (trial ∷ [])) counts
        → is_longest ≡ is_above (greatest (all_detections group layer (trials ++ trial ∷ []))) before
        → AreFirstRuns group layer first (trials ++ trial ∷ []) (first_with f number counts is_longest)
    first_runs_more f counts is_longest are told longer = record {
      mistake = first_passed (has_mistake group layer) counts.with_mistakes f.mistake told.with_mistakes are.mistake;
      detection_max = ap (λ b. cond b (Some number) f.detection_max) longer ∙ longest_more f.detection_max are.detection_max;
      disagreement = first_passed (λ r. do_disagree (run_outcomes r)) counts.disagreements f.disagreement told.disagreements are.disagreement;
    }
