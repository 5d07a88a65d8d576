-- The runs that have a layer, and what is added up of them.
use Rattle.sweep.proofs.Words.{All, ◌≡◌, ℕ, ◌+◌, ◌*◌, ◌^◌, ◌<◌, ◌≤◌, Bool, true, false, cond, is_some, Option, Some, None, List, [], ◌∷◌, ◌++◌, length, sym, ap, ◌∙◌, refl, subst, arith, nat_lt, ◌||◌, ◌==◌, length-append, cons_option, count_by, filter_map, flat_map, list_any, lt-ltb, flat_map-append, filter-append, filter_map-append, count_by-le-length, length-filter, Record, layer_plus, has_layer, on_layer, finished_of, finish_of, done_on, all_pairs, all_durations, all_detections, last_decisions, top_rounds, is_limited, AreDoneSums, AreRunCounts, AreVerdictCounts, ArePairSums, AreDecisionSums, most_runs, most_of, IsLayerWithin, Finished, counted_pairs, pair_ticks, mistakes, durations, detections, run_outcomes, deciding, last_decision, top_round, Trial, AreFitting, Group, LayerSums, All-append, HasGrounds, AreBounds, bounds}
use Rattle.sweep.proofs.Added.{added, bounds_added, counted, traces_added, pairs_added, decisions_added}

-- ---- layers

pub has_first : (S : Record) → has_layer 1 S ≡ true
has_first S = by (is_some S.share)
  where
    by : (b : Bool) → list_any (λ l. l == 1) (cond b (1 ∷ 2 ∷ []) (1 ∷ [])) ≡ true
    by true = refl
    by false = refl

pub has_second : (S : Record) → has_layer 2 S ≡ is_some S.share
has_second S = by (is_some S.share)
  where
    by : (b : Bool) → list_any (λ l. l == 2) (cond b (1 ∷ 2 ∷ []) (1 ∷ [])) ≡ b
    by true = refl
    by false = refl

-- some run has a reduction just where there is a run with layer 2
pub any_shared : (trials : List Trial) → nat_lt 0 (length (on_layer 2 trials)) ≡ list_any (λ t. is_some t.scenario.share) trials
any_shared [] = refl
any_shared (t ∷ ts) = ap (λ b. nat_lt 0 (length (cond b (t ∷ on_layer 2 ts) (on_layer 2 ts)))) (has_second t.scenario) ∙ by (is_some t.scenario.share) (any_shared ts)
  where
    by : (b : Bool) → nat_lt 0 (length (on_layer 2 ts)) ≡ list_any (λ u. is_some u.scenario.share) ts
        → nat_lt 0 (length (cond b (t ∷ on_layer 2 ts) (on_layer 2 ts))) ≡ (b || list_any (λ u. is_some u.scenario.share) ts)
    by true later = lt-ltb 0 (length (t ∷ on_layer 2 ts)) (omega arith)
    by false later = later

-- ---- two lists of runs, one after the other

module _ (layer : ℕ) (xs ys : List Trial) where
  pub on_both : on_layer layer (xs ++ ys) ≡ on_layer layer xs ++ on_layer layer ys
  on_both = filter-append (λ t. has_layer layer t.scenario) xs ys

  pub done_both : done_on layer (xs ++ ys) ≡ done_on layer xs ++ done_on layer ys
  done_both = ap finished_of on_both ∙ filter_map-append (λ t. finish_of t.scenario t.result) (on_layer layer xs) (on_layer layer ys)

  pub decisions_both : last_decisions layer (xs ++ ys) ≡ last_decisions layer xs ++ last_decisions layer ys
  decisions_both =
      ap (filter_map (λ r. last_decision (deciding r))) done_both
      ∙ filter_map-append (λ r. last_decision (deciding r)) (done_on layer xs) (done_on layer ys)

  pub rounds_both : top_rounds layer (xs ++ ys) ≡ top_rounds layer xs ++ top_rounds layer ys
  rounds_both =
      ap (filter_map (λ r. top_round (run_outcomes r))) done_both
      ∙ filter_map-append (λ r. top_round (run_outcomes r)) (done_on layer xs) (done_on layer ys)

module _ (group : Group) (layer : ℕ) (xs ys : List Trial) where
  pub pairs_both : (rs qs : List Finished) → all_pairs group layer (rs ++ qs) ≡ all_pairs group layer rs ++ all_pairs group layer qs
  pairs_both rs qs = flat_map-append (counted_pairs group layer) rs qs

  pub durations_both : all_durations group layer (xs ++ ys) ≡ all_durations group layer xs ++ all_durations group layer ys
  durations_both = ap (flat_map (durations group layer)) (done_both layer xs ys) ∙ flat_map-append (durations group layer) (done_on layer xs) (done_on layer ys)

  pub detections_both : all_detections group layer (xs ++ ys) ≡ all_detections group layer xs ++ all_detections group layer ys
  detections_both = ap (flat_map (detections group layer)) (done_both layer xs ys) ∙ flat_map-append (detections group layer) (done_on layer xs) (done_on layer ys)

pub few_on : (layer : ℕ) (xs : List Trial) → length (on_layer layer xs) ≤ length xs
few_on layer xs = omega (arith, length-filter (λ t. has_layer layer t.scenario) xs, count_by-le-length (λ t. has_layer layer t.scenario) xs)

pub few_mapped : {X Y : Type 0} (h : X → Option Y) (xs : List X) → length (filter_map h xs) ≤ length xs
few_mapped h [] = omega arith
few_mapped {X} {Y} h (x ∷ xs) = by (h x) (few_mapped h xs)
  where
    by : (o : Option Y) → length (filter_map h xs) ≤ length xs → length (cons_option o (filter_map h xs)) ≤ length (x ∷ xs)
    by None le = omega arith
    by (Some y) le = omega arith

pub few_done : (layer : ℕ) (xs : List Trial) → length (done_on layer xs) ≤ length xs
few_done layer xs = omega (arith, few_mapped (λ t. finish_of t.scenario t.result) (on_layer layer xs), few_on layer xs)

-- the runs have at most one last decision and one greatest round each
pub few_decisions : (layer : ℕ) (xs : List Trial) → length (last_decisions layer xs) ≤ length xs
few_decisions layer xs = omega (arith, few_mapped (λ r. last_decision (deciding r)) (done_on layer xs), few_done layer xs)

pub few_rounds : (layer : ℕ) (xs : List Trial) → length (top_rounds layer xs) ≤ length xs
few_rounds layer xs = omega (arith, few_mapped (λ r. top_round (run_outcomes r)) (done_on layer xs), few_done layer xs)

module _ (group : Group) (layer : ℕ) (xs ys : List Trial) (a b : LayerSums) (few : length xs + length ys ≤ most_runs) (p : AreFitting group layer xs a) (q : AreFitting group layer ys b) where
  few_finished : length (done_on layer xs) + length (done_on layer ys) < 2 ^ 64
  few_finished = omega (arith, few_done layer xs, few_done layer ys)

  few_of_layer : length (on_layer layer xs) + length (on_layer layer ys) < 2 ^ 64
  few_of_layer = omega (arith, few_on layer xs, few_on layer ys)

  abbrev A : ℕ
  A = most_of (length xs)

  abbrev B : ℕ
  B = most_of (length ys)

  verdicts_added : AreVerdictCounts layer (done_on layer xs ++ done_on layer ys) (layer_plus a b).verdicts
  verdicts_added =
      let u = p.sums.done.verdicts in
      let v = q.sums.done.verdicts in
      search (counted, few_finished)

  counts_added : AreRunCounts group layer (done_on layer xs ++ done_on layer ys) (layer_plus a b).counts
  counts_added =
      let u = p.sums.done.counts in
      let v = q.sums.done.counts in
      search (counted, few_finished)

  done_added : AreDoneSums group layer (done_on layer xs ++ done_on layer ys) (layer_plus a b)
  done_added =
      let rs = done_on layer xs in
      let qs = done_on layer ys in
      let d = p.sums.done in
      let e = q.sums.done in
      record {
        traces = traces_added rs qs a.traces b.traces A B (omega arith) p.within.traces q.within.traces d.traces e.traces;
        pair_ticks = added (pair_ticks group layer) rs qs a.pair_ticks b.pair_ticks A B (omega arith) d.pair_ticks e.pair_ticks p.within.pair_ticks q.within.pair_ticks;
        pairs = subst (λ ms. ArePairSums ms (layer_plus a b).pairs) (sym (pairs_both group layer xs ys rs qs))
            (pairs_added (all_pairs group layer rs) (all_pairs group layer qs) a.pairs b.pairs A B (omega arith) p.within.pairs q.within.pairs d.pairs e.pairs);
        mistakes_squared_sum = added (λ r. mistakes group layer r * mistakes group layer r) rs qs a.mistakes_squared_sum b.mistakes_squared_sum A B (omega arith) d.mistakes_squared_sum e.mistakes_squared_sum p.within.mistakes_squared_sum q.within.mistakes_squared_sum;
        verdicts = verdicts_added;
        bounds = subst (λ bs. AreBounds bs (layer_plus a b).bounds) (sym (flat_map-append (bounds group layer) rs qs))
            (bounds_added (flat_map (bounds group layer) rs) (flat_map (bounds group layer) qs) a.bounds b.bounds d.bounds e.bounds);
        decisions = subst (λ os. AreDecisionSums os (layer_plus a b).decisions) (sym (flat_map-append deciding rs qs))
            (decisions_added (flat_map deciding rs) (flat_map deciding qs) a.decisions b.decisions A B (omega arith) p.within.decisions q.within.decisions d.decisions e.decisions);
        counts = counts_added;
      }

  within_both : IsLayerWithin (A + B) (layer_plus a b)
  within_both = search arith

  pub layer_added : AreFitting group layer (xs ++ ys) (layer_plus a b)
  layer_added =
      let long : length (xs ++ ys) ≡ length xs + length ys = length-append xs ys in
      record {
        sums = record {
          runs = omega (arith, p.sums.runs, q.sums.runs, few_of_layer, ap length (on_both layer xs ys), length-append (on_layer layer xs) (on_layer layer ys));
          limited = counted (λ t. is_limited t.result) (on_layer layer xs) (on_layer layer ys) a.limited b.limited few_of_layer p.sums.limited q.sums.limited
              ∙ ap (count_by (λ t. is_limited t.result)) (sym (on_both layer xs ys));
          done = subst (λ rs. AreDoneSums group layer rs (layer_plus a b)) (sym (done_both layer xs ys)) done_added;
        };
        grounds = subst (All (λ r. HasGrounds r.scenario r.trace)) (sym (done_both layer xs ys))
            (All-append (λ r. HasGrounds r.scenario r.trace) (done_on layer xs) (done_on layer ys) p.grounds q.grounds);
        few_runs = omega (arith, long, few);
        within = subst (λ m. IsLayerWithin m (layer_plus a b)) (omega (arith, long)) within_both;
        few_detected = omega (arith, p.few_detected, q.few_detected, ap length (detections_both group layer xs ys), length-append (all_detections group layer xs) (all_detections group layer ys), long);
        few_undetected = omega (arith, p.few_undetected, q.few_undetected, long);
        few_ticks = omega (arith, p.few_ticks, q.few_ticks, long);
      }
