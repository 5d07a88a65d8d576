-- Every row of layer 2 with a mistake or a detection rests on an earlier suspicion of layer 1, and every row of layer 1
-- keeps to the bounds.
use Rattle.runs.proofs.Words.{◌≡◌, inl, inr, ℕ, zero, suc, ◌<◌, ◌≤◌, refl, sym, subst, Bool, true, arith, List, [], ◌∷◌, map, Option, None, Some, All, AllByRecursion, flat_map, cases_Bool, cond-false, cond_both, All-from_recursion, EntryRecord, both, images, always, both_true, IsInRange, Record, setting_of, IsTrace, crash_tick, end_of, suspects, all_from, least_from, blamed_by_out, shares_suspicions, all_from-at, KeepsBounds, IsBounded, HasGrounds, HasBlame, RestsOnBlame, count_below, starts, delay_after, is_measured, detection, measured, pair_measures, layer_measures, layers, all_measures, Na, At}
use Rattle.{runs.proofs.{Bounded.{bounded}, Least.{least_passes}}, process_api.specs.Place.{numbers_to, others}}
use Rattle.{judges.proofs.Meaning.{verdicts_mean}, detector_bounds.proofs.Kept.{bounds_kept}}
use Rattle.reporting.specs.declared.pair_measures.PairMeasures.{PairMeasures}

-- ---- ticks

some_counted : (test : ℕ → Bool) (end : ℕ) → 1 ≤ count_below test end → (t : ℕ) × (t < end) × (test t ≡ true)
some_counted test zero h = absurd (omega arith)
some_counted test (suc t) h = elim (cases_Bool (test t)) [
  | inl is ↦ (t, omega arith, is)
  | inr is ↦ let r = some_counted test t (omega (arith, h, cond-false {A = ℕ} (test t) 1 0 is)) in (r.0, omega (arith, r.1), r.2)
]

-- a detection is by the suspicion that lasts to the horizon
detected : (S : Record) (q p : ℕ) (suspected : ℕ → Bool) (ticks : ℕ) → detection S q p suspected ≡ At ticks
    → (t : ℕ) × (least_from suspected S.horizon ≡ Some t) × (suspected t ≡ true)
detected S q p suspected ticks h =
    cond_both (is_measured S q p) (delay_after (crash_tick S p) (least_from suspected S.horizon)) Na (λ d. d ≡ At ticks → (t : ℕ) × (least_from suspected S.horizon ≡ Some t) × (suspected t ≡ true))
    (λ _. by (least_from suspected S.horizon) refl) (λ _ f. absurd (cc f)) h
  where
    by : (o : Option ℕ) → least_from suspected S.horizon ≡ o → delay_after (crash_tick S p) o ≡ At ticks
        → (t : ℕ) × (least_from suspected S.horizon ≡ Some t) × (suspected t ≡ true)
    by None is f = absurd (cc f)
    by (Some t) is f =
        let r = least_passes (λ t. all_from suspected t S.horizon) S.horizon t is in
        (t, is, all_from-at suspected t S.horizon t r.1 (omega arith) r.0)

-- ---- rows

all_flat : {X A : Type 0} (P : A → Type 0) (f : X → List A) (xs : List X) → ((x : X) → AllByRecursion P (f x)) → AllByRecursion P (flat_map f xs)
all_flat P f [] each = tt
all_flat P f (x ∷ xs) each = both P (f x) (flat_map f xs) (each x) (all_flat P f xs each)

module _ (S : Record) (ranges : IsInRange S) (trace : List EntryRecord) (is_trace : IsTrace (setting_of S) trace) where
  -- whom a row of layer 2 tells of, some base detector had suspected
  has_blame : (q p : ℕ) → HasBlame S trace (measured S 2 q p (suspects 2 trace q p))
  has_blame q p = record {
    mistake = λ some.
        let r = some_counted (starts (suspects 2 trace q p)) (end_of S q p) some in
        (r.0, (r.1, r.2), blamed_by_out S ranges trace is_trace q r.0 p (both_true _ _ r.2).0);
    detection = λ ticks is.
        let r = detected S q p (suspects 2 trace q p) ticks is in
        (r.0, r.1, blamed_by_out S ranges trace is_trace q r.0 p r.2);
  }

  rests : (layer q p : ℕ) → RestsOnBlame S trace (pair_measures S trace layer q p)
  unfolding pair_measures
  rests layer q p two = subst (λ l. HasBlame S trace (measured S l q p (suspects l trace q p))) (sym two) (has_blame q p)

  each_row : (P : PairMeasures → Type 0) → ((layer q p : ℕ) → P (pair_measures S trace layer q p)) → All P (all_measures S trace)
  unfolding all_measures layer_measures
  each_row P each =
      All-from_recursion P (all_measures S trace)
      (all_flat P (layer_measures S trace) (layers S) (λ layer.
      all_flat P (λ q. map (pair_measures S trace layer q) (others S.processes q)) (numbers_to S.processes) (λ q.
      images P (pair_measures S trace layer q) (others S.processes q) (always (λ p. P (pair_measures S trace layer q p)) (each layer q) (others S.processes q)))))

  pub all_rest : All (RestsOnBlame S trace) (all_measures S trace)
  all_rest = each_row (RestsOnBlame S trace) rests

  keeps : KeepsBounds S trace
  keeps = bounds_kept S ranges trace is_trace

  pub all_bounded : All (IsBounded S trace) (all_measures S trace)
  all_bounded = each_row (IsBounded S trace) (bounded S trace keeps)

  pub has_grounds : HasGrounds S trace
  has_grounds = record {
    meaning = verdicts_mean S trace;
    shares = shares_suspicions S ranges trace is_trace;
    blame = all_rest;
    bounds = keeps;
    bounded = all_bounded;
  }
