-- The bound of a row is that of some detection.
use Rattle.sweep.proofs.Words.{◌≡◌, ◌⊎◌, inl, inr, ℕ, zero, suc, ◌-◌, ◌≤◌, Bool, true, false, cond, not, nat_lt, Option, None, Some, unwrap_or, List, [], ◌∷◌, map, refl, sym, ap, ◌∙◌, subst, arith, true≢false, All, filter, flat_map, list_any, le-ltb, lt-ltb, ltb-false, eqb-true, ◌==◌, numbers_to, others, EntryRecord, PairMeasures, Record, Finished, Group, Trial, LayerSums, greater, greatest, done_on, AreFitting, counts_on, counted_pairs, is_none, All-head, All-tail, both_true, and_true, is_process, is_watched, is_other, is_chosen, crash_tick, is_crashed, is_correct, suspects, least_from, trusts, watch_of, delay_after, is_measured, layer_measures, pair_measures, Na, AreBounds, IsAwaited, SomeAwaited, TellsBound, detection_bound, is_in, bound_after, bounds, is_to_detect, DetectionBounds}
use Rattle.sweep.proofs.{Bounding.{known, pair_awaited, told_bound}, Greatest.{has_greatest}, Lasted.{each_measure}}
use Rattle.{trace_laws.specs.History.{IsIn}, trace_laws.proofs.Steps.{in_left, in_right}}
use Rattle.{judges.proofs.Members.{in_filter, in_image, of_image}, detector_bounds.specs.Bounds.{detected_at}}
use Rattle.promised.proofs.Elements.{in_chosen, in_each, none_passes, of_chosen, of_each, of_filter, some_passes}

-- ---- of lists

all_in : {X : Type 0} (P : X → Type 0) (x : X) (xs : List X) → All P xs → IsIn x xs → P x
all_in P x [] all none = absurd none
all_in P x (y ∷ ys) all (inl e) = subst P (sym e) (All-head P y ys all)
all_in P x (y ∷ ys) all (inr i) = all_in P x ys (All-tail P y ys all) i

last_or_before : (p n : ℕ) → p ≤ suc n → (p ≡ suc n) ⊎ (p ≤ n)
last_or_before p n high = grind arith

in_numbers : (p n : ℕ) → 1 ≤ p → p ≤ n → IsIn p (numbers_to n)
in_numbers p zero low high = absurd (omega (arith, low, high))
in_numbers p (suc n) low high = elim (last_or_before p n high) [
  | inl last ↦ in_right p (numbers_to n) (suc n ∷ []) (inl last)
  | inr before ↦ in_left p (numbers_to n) (suc n ∷ []) (in_numbers p n low before)
]

greatest_in : (v : ℕ) (values : List ℕ) → greatest values ≡ Some v → IsIn v values
greatest_in v values is =
    let found = some_passes (λ w. w == v) values (has_greatest v values is) in
    subst (λ w. IsIn w values) (eqb-true found.0 v found.2) found.1

none_in : (v : ℕ) (values : List ℕ) → IsIn v values → greatest values ≡ None → ⊥
none_in v [] none is = none
none_in v (w ∷ ws) there is = by (greatest ws) is
  where
    by : (o : Option ℕ) → greater (Some w) o ≡ None → ⊥
    by None is = cc
    by (Some m) is = cc

is_there : (o : Option ℕ) → is_none o ≡ false → (v : ℕ) × (o ≡ Some v)
is_there None is = absurd (true≢false is)
is_there (Some v) is = (v, refl)

-- ---- a bound by the tick at which it lies

abbrev from : (horizon until c : ℕ) → Option ℕ
from horizon until c = cond (nat_lt until horizon) (Some (until - c)) None

is_just : (horizon until c bound : ℕ) (o : Option ℕ) → o ≡ from horizon until c → o ≡ Some bound → bound ≡ until - c
is_just horizon until c bound o its is = by (nat_lt until horizon) (sym its ∙ is)
  where
    by : (below : Bool) → cond below (Some (until - c)) None ≡ Some bound → bound ≡ until - c
    by true e = cc
    by false e = absurd (cc)

is_after : (horizon until c : ℕ) (o : Option ℕ) → o ≡ from horizon until c → is_none o ≡ true → horizon ≤ until
is_after horizon until c o its none = by (nat_lt until horizon) refl (ap is_none (sym its) ∙ none)
  where
    by : (below : Bool) → nat_lt until horizon ≡ below → is_none (cond below (Some (until - c)) None) ≡ true → horizon ≤ until
    by true is e = absurd (true≢false (sym e))
    by false is e = ltb-false until horizon is

awaits : (b : Bool) (c : ℕ) (o : Option ℕ) → b ≡ true → is_to_detect (cond b (delay_after c o) Na) ≡ true
awaits true c None is = refl
awaits true c (Some t) is = refl
awaits false c o is = absurd (true≢false (sym is))

module _ (group : Group) (S : Record) (trace : List EntryRecord) where
  abbrev run : Finished
  run = record { scenario = S; trace = trace }

  abbrev counts : PairMeasures → Bool
  counts m = counts_on group 1 S m.observer m.subject

  abbrev awaited : PairMeasures → Bool
  awaited m = is_to_detect m.detection

  abbrev bound_of : PairMeasures → Option ℕ
  bound_of m = bound_after S (trusts trace m.observer m.subject) m.observer m.subject

  abbrev IsOne : PairMeasures → Type 0
  IsOne m = counts m ≡ true → awaited m ≡ true → IsAwaited group run m.observer m.subject (crash_tick S m.subject)

  -- each bound is of a crash that was to be detected
  of_run : (o : Option ℕ) → IsIn o (bounds group 1 run)
      → (q p c : ℕ) × IsAwaited group run q p c × (o ≡ from S.horizon (detected_at S trace q p c) c)
  of_run o there =
      let of = of_image bound_of (filter awaited (counted_pairs group 1 run)) o there in
      let chosen = of_filter awaited of.0 (counted_pairs group 1 run) of.1 in
      let counted = of_filter counts of.0 (layer_measures S trace 1) chosen.0 in
      let each = each_measure S trace 1 IsOne (pair_awaited S trace group) in
      (of.0.observer, of.0.subject, crash_tick S of.0.subject, all_in IsOne of.0 (layer_measures S trace 1) each counted.0 counted.1 chosen.1, of.2)

  measured_there : (q p : ℕ) → 1 ≤ q → q ≤ S.processes → 1 ≤ p → p ≤ S.processes → not (p == q) ≡ true → IsIn (pair_measures S trace 1 q p) (layer_measures S trace 1)
  unfolding layer_measures
  measured_there q p some l one m other =
      in_each (λ r. map (pair_measures S trace 1 r) (others S.processes r)) q (pair_measures S trace 1 q p) (numbers_to S.processes) (in_numbers q S.processes some l)
      (in_image (pair_measures S trace 1 q) (others S.processes q) p (in_filter (λ r. not (r == q)) (numbers_to S.processes) p (in_numbers p S.processes one m) other))

  counts_it : (q p : ℕ) → is_in group q p ≡ true → is_watched q S.processes (watch_of S.detector) p ≡ true → counts (pair_measures S trace 1 q p) ≡ true
  unfolding pair_measures
  counts_it q p grouped watched = and_true (is_in group q p) (is_watched q S.processes (watch_of S.detector) p) grouped watched

  awaits_it : (q p : ℕ) → is_measured S q p ≡ true → awaited (pair_measures S trace 1 q p) ≡ true
  unfolding pair_measures
  awaits_it q p measured = awaits (is_measured S q p) (crash_tick S p) (least_from (suspects 1 trace q p) S.horizon) measured

  its_bound : (q p : ℕ) → bound_of (pair_measures S trace 1 q p) ≡ from S.horizon (detected_at S trace q p (crash_tick S p)) (crash_tick S p)
  unfolding pair_measures
  its_bound q p = refl

  -- and the bound of each such crash is one of them
  in_run : (q p c : ℕ) → IsAwaited group run q p c → (o : Option ℕ) × IsIn o (bounds group 1 run)
  in_run q p c is =
      let m = pair_measures S trace 1 q p in
      let other = (both_true (is_other q S.processes p) (is_chosen q S.processes (watch_of S.detector) p) is.watches.1).0 in
      let different = (both_true (is_process S.processes p) (not (p == q)) other).1 in
      let tick : crash_tick S p ≡ c = ap (λ o. unwrap_or o (suc S.horizon)) is.crashes.1 in
      let crashed : is_crashed S p ≡ true = lt-ltb (crash_tick S p) S.horizon (omega (arith, tick, is.crashes.2)) in
      let correct : is_correct S q ≡ true = ap not (le-ltb (crash_tick S q) S.horizon (omega (arith, is.correct.1))) in
      let there = measured_there q p is.correct.0.0 (omega (arith, is.correct.0.1)) is.crashes.0.0 (omega (arith, is.crashes.0.1)) different in
      let counted = in_filter counts (layer_measures S trace 1) m there (counts_it q p is.grouped is.watches.1) in
      let chosen = in_filter awaited (counted_pairs group 1 run) m counted (awaits_it q p (and_true (is_crashed S p) (is_correct S q) crashed correct)) in
      (bound_of m, in_image bound_of (filter awaited (counted_pairs group 1 run)) m chosen)

-- ---- of all runs

module _ (group : Group) (runs : List Finished) where
  abbrev all : List (Option ℕ)
  all = flat_map (bounds group 1) runs

  of_runs : (o : Option ℕ) → IsIn o all → SomeAwaited group runs (λ r c until. o ≡ from r.scenario.horizon until c)
  of_runs o there =
      let by = of_each (bounds group 1) o runs there in
      let of = of_run group by.0.scenario by.0.trace o by.2 in
      (by.0, by.1, of.0, of.1, of.2, of.3, of.4)

  bound_attained : (bound : ℕ) → greatest (known all) ≡ Some bound → SomeAwaited group runs (λ r c until. bound ≡ until - c)
  bound_attained bound is =
      let own : Option ℕ → Option ℕ = λ o. o in
      let chosen = of_chosen own bound all (greatest_in bound (known all) is) in
      let of = of_runs chosen.0 chosen.1 in
      let until = detected_at of.0.scenario of.0.trace of.2 of.3 of.4 in
      (of.0, of.1, of.2, of.3, of.4, of.5, is_just of.0.scenario.horizon until of.4 bound chosen.0 of.6 chosen.2)

  some_late : list_any is_none all ≡ true → SomeAwaited group runs (λ r c until. r.scenario.horizon ≤ until)
  some_late is =
      let none = some_passes is_none all is in
      let of = of_runs none.0 none.1 in
      let until = detected_at of.0.scenario of.0.trace of.2 of.3 of.4 in
      (of.0, of.1, of.2, of.3, of.4, of.5, is_after of.0.scenario.horizon until of.4 none.0 of.6 none.2)

  some_known : list_any is_none all ≡ false → SomeAwaited group runs (λ r c until. Unit {0}) → greatest (known all) ≡ None → ⊥
  some_known early some none =
      let own : Option ℕ → Option ℕ = λ o. o in
      let its = in_run group some.0.scenario some.0.trace some.2 some.3 some.4 some.5 in
      let there = in_each (bounds group 1) some.0 its.0 runs some.1 its.1 in
      let has = is_there its.0 (none_passes is_none its.0 all there early) in
      none_in has.0 (known all) (in_chosen own its.0 has.0 all there has.1) none

  pub bound_told : (b : DetectionBounds) → AreBounds all b → TellsBound group runs b
  bound_told b are = record { attained = attained; missing = by b.is_late refl }
    where
      attained : (bound : ℕ) → detection_bound b ≡ Some bound → SomeAwaited group runs (λ r c until. bound ≡ until - c)
      attained bound is = bound_attained bound (sym are.highest ∙ (told_bound b.is_late b.greatest bound is).1)

      by : (late : Bool) → b.is_late ≡ late → cond late None b.greatest ≡ None → SomeAwaited group runs (λ r c until. Unit {0})
          → SomeAwaited group runs (λ r c until. r.scenario.horizon ≤ until)
      by true is none some = some_late (sym are.late ∙ is)
      by false is none some = absurd (some_known (sym are.late ∙ is) some (sym are.highest ∙ none))

pub columns_told : (group : Group) (layer : ℕ) (trials : List Trial) (s : LayerSums) → AreFitting group layer trials s → layer ≡ 1 → TellsBound group (done_on 1 trials) s.bounds
columns_told group layer trials s fit one =
    let first = subst (λ l. AreFitting group l trials s) one fit in
    bound_told group (done_on 1 trials) s.bounds first.sums.done.bounds
