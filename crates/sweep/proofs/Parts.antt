-- What one run gives, layer by layer.
use Rattle.sweep.proofs.Words.{◌≡◌, ℕ, zero, suc, ◌+◌, ◌*◌, ◌/◌, ◌^◌, ◌≤◌, Bool, true, false, ◌&&◌, cond, is_some, None, Some, List, [], ◌∷◌, ◌++◌, length, sym, ap, ◌∙◌, refl, subst, arith, append-nil, length-append, map, unwrap_or, true≢false, le_trans, zero-add, nat_lt, All, cons_option, count_by, filter_map, flat_map, list_all, sum_by, mul-le-mul_right, length-map, All-filter, sum_by-le, length-filter, count_by-le-length, end_of, verdicts, Verdicts, EntryRecord, numbers_to, others, AreFindings, RunFindings, Record, IsInRange, PairMeasures, of_verdicts, has_layer, on_layer, finished_of, done_on, all_durations, all_detections, last_decisions, top_rounds, is_limited, AreDoneSums, AreRunCounts, AreVerdictCounts, AreTraceSums, ArePairSums, AreDecisionSums, most_of, most_mistakes, IsLayerWithin, AreTracesWithin, ArePairsWithin, AreDecisionsWithin, Finished, counts_on, counted_of, counted_pairs, pair_ticks, mistakes, has_mistake, durations, detections, detection_time, is_undetected, has_decided, do_disagree, is_to_decide, deciding_of, do_all_decide, is_undecided, last_decision, top_round, run_outcomes, deciding, Trial, done_run, AreFitting, AreLayerFindings, Group, DecisionSums, LayerSums, PairSums, suspects, layer_measures, pair_measures, starts, one_layer, two_layers, HasGrounds, All-cons, All-nil, AreBounds, AreOwnSums, bounds, DetectionBounds}
use Rattle.{sweep.proofs.{Lasted.{each_measure}, Layered.{few_mapped}}, std.proofs.lemmas.List.Concat.{length-flat_map}}
use Rattle.judges.specs.Outcomes.{outcome, outcomes}
use Rattle.process_api.proofs.Numbering.{length-numbers_to, length-filter_to}
use Rattle.reporting.specs.{Measures.{count_below}, declared.summary.Summary.{Summary}}

module _ (S : Record) (trace : List EntryRecord) where
  -- how many pairs a layer has
  pairs_of : (layer : ℕ) → length (layer_measures S trace layer) ≡ sum_by (λ q. length (others S.processes q)) (numbers_to S.processes)
  unfolding layer_measures
  pairs_of layer =
      length-flat_map (λ q. map (pair_measures S trace layer q) (others S.processes q)) (numbers_to S.processes)
      ∙ (λ i. sum_by (λ q. length-map (others S.processes q) (pair_measures S trace layer q) i) (numbers_to S.processes))

  pub few_pairs : IsInRange S → (layer : ℕ) → length (layer_measures S trace layer) ≤ 2 ^ 17
  few_pairs ranges layer =
      let n = S.processes in
      let each : All (λ q. length (others n q) ≤ n) (numbers_to n) = λ k d lt. length-filter_to _ n in
      let most : sum_by (λ q. length (others n q)) (numbers_to n) ≤ length (numbers_to n) * n = sum_by-le (λ q. length (others n q)) n (numbers_to n) each in
      let square : n * n ≤ 256 * n = mul-le-mul_right n ranges.processes_high in
      let same : length (numbers_to n) * n ≡ n * n = ap (λ m. m * n) (length-numbers_to n) in
      omega (arith, pairs_of layer, most, square, same, ranges.processes_high)

  pub few_outcomes : IsInRange S → length (outcomes trace S.processes) ≤ 256
  few_outcomes ranges = omega (arith, length-map (numbers_to S.processes) (outcome trace), length-numbers_to S.processes, ranges.processes_high)

  -- ---- the measures of each layer

  module _ (found : RunFindings) (are : AreFindings S trace found) where
    pub alone : found.second ≡ None → is_some S.share ≡ false
    alone none = by (is_some S.share) (sym are.second ∙ none)
      where
        by : (b : Bool) → cond b (Some (verdicts S trace 2)) None ≡ None → b ≡ false
        by true p = absurd (true≢false (ap is_some p))
        by false p = refl

    pub shared : (v : Verdicts) → found.second ≡ Some v → (is_some S.share ≡ true) × (v ≡ verdicts S trace 2)
    shared v some = by (is_some S.share) (sym are.second ∙ some)
      where
        by : (b : Bool) → cond b (Some (verdicts S trace 2)) None ≡ Some v → (b ≡ true) × (v ≡ verdicts S trace 2)
        by true p = (refl, sym (ap (λ o. unwrap_or o v) p))
        by false p = absurd (true≢false (sym (ap is_some p)))

    pub first_alone : found.second ≡ None → found.measures.items ≡ layer_measures S trace 1
    first_alone none = are.measures ∙ sym (one_layer S trace (alone none))

    pub both_layers : (v : Verdicts) → found.second ≡ Some v → found.measures.items ≡ layer_measures S trace 1 ++ layer_measures S trace 2
    both_layers v some = are.measures ∙ sym (two_layers S trace (shared v some).0)

    pub half : (v : Verdicts) → found.second ≡ Some v → length found.measures.items / 2 ≡ length (layer_measures S trace 1)
    half v some =
        omega (arith, ap length (both_layers v some), length-append (layer_measures S trace 1) (layer_measures S trace 2), pairs_of 1, pairs_of 2)

-- ---- mistakes

below_end : (test : ℕ → Bool) (end : ℕ) → count_below test end ≤ end
below_end test zero = omega arith
below_end test (suc t) = by (test t) (below_end test t)
  where
    by : (b : Bool) → count_below test t ≤ t → count_below test t + cond b 1 0 ≤ suc t
    by true le = omega arith
    by false le = omega arith

module _ (group : Group) (S : Record) (trace : List EntryRecord) (ranges : IsInRange S) (layer : ℕ) where
  pair_mistakes : (q p : ℕ) → (pair_measures S trace layer q p).mistakes ≤ 10000000
  unfolding pair_measures
  pair_mistakes q p =
      let le : (pair_measures S trace layer q p).mistakes ≤ end_of S q p = below_end (starts (suspects layer trace q p)) (end_of S q p) in
      omega (arith, le, ranges.horizon_high)

  pair_mistake_ticks : (q p : ℕ) → (pair_measures S trace layer q p).mistake_ticks ≤ 10000000
  unfolding pair_measures
  pair_mistake_ticks q p =
      let le : (pair_measures S trace layer q p).mistake_ticks ≤ end_of S q p = below_end (suspects layer trace q p) (end_of S q p) in
      omega (arith, le, ranges.horizon_high)

  abbrev pub counts : PairMeasures → Bool
  counts m = counts_on group layer S m.observer m.subject

  few_counted : length (counted_of group layer S (layer_measures S trace layer)) ≤ 2 ^ 17
  few_counted =
      omega (arith, length-filter counts (layer_measures S trace layer), count_by-le-length counts (layer_measures S trace layer), few_pairs S trace ranges layer)

  -- a sum over the pairs that count, each of which gives at most one for each tick
  few_each : (f : PairMeasures → ℕ) → ((q p : ℕ) → f (pair_measures S trace layer q p) ≤ 10000000)
      → sum_by f (counted_of group layer S (layer_measures S trace layer)) ≤ most_mistakes 1
  few_each f each =
      let all = layer_measures S trace layer in
      let low : All (λ m. f m ≤ 10000000) all = each_measure S trace layer (λ m. f m ≤ 10000000) (λ q p _ _ _ _ _. each q p) in
      let sum : sum_by f (counted_of group layer S all) ≤ length (counted_of group layer S all) * 10000000 =
      sum_by-le f 10000000 (counted_of group layer S all) (All-filter counts (λ m. f m ≤ 10000000) all low) in
      omega (arith, sum, few_counted)

  run_mistakes : sum_by (λ m. m.mistakes) (counted_of group layer S (layer_measures S trace layer)) ≤ most_mistakes 1
  run_mistakes = few_each (λ m. m.mistakes) pair_mistakes

  run_ticks : sum_by (λ m. m.mistake_ticks) (counted_of group layer S (layer_measures S trace layer)) ≤ most_mistakes 1
  run_ticks = few_each (λ m. m.mistake_ticks) pair_mistake_ticks

square_high : (m : ℕ) → m ≤ 2 ^ 41 → m * m ≤ 2 ^ 82
square_high m le =
    let once : m * m ≤ 2 ^ 41 * m = mul-le-mul_right m le in
    omega (arith, once, le)

-- ---- a run that is done, alone

pub pairs_raised : (A B : ℕ) (s : PairSums) → A ≤ B → ArePairsWithin A s → ArePairsWithin B s
pairs_raised A B s le w = search arith

module _ (group : Group) (layer : ℕ) (S : Record) (trace : List EntryRecord) (has : has_layer layer S ≡ true) where
  abbrev pub one : Finished
  one = record { scenario = S; trace = trace }

  abbrev pub trial : Trial
  trial = done_run S trace

  on_one : on_layer layer (trial ∷ []) ≡ trial ∷ []
  on_one = ap (λ b. cond b (trial ∷ []) []) has

  done_one : done_on layer (trial ∷ []) ≡ one ∷ []
  done_one = ap finished_of on_one

  pub durations_one : all_durations group layer (trial ∷ []) ≡ durations group layer one
  durations_one = ap (flat_map (durations group layer)) done_one ∙ append-nil (durations group layer one)

  pub detections_one : all_detections group layer (trial ∷ []) ≡ detections group layer one
  detections_one = ap (flat_map (detections group layer)) done_one ∙ append-nil (detections group layer one)

  pub decisions_one : last_decisions layer (trial ∷ []) ≡ cons_option (last_decision (deciding one)) []
  decisions_one = ap (filter_map (λ r. last_decision (deciding r))) done_one

  pub rounds_one : top_rounds layer (trial ∷ []) ≡ cons_option (top_round (run_outcomes one)) []
  rounds_one = ap (filter_map (λ r. top_round (run_outcomes r))) done_one

  module _ (summary : Summary) (v : Verdicts) (pairs counted : List PairMeasures) (sums : LayerSums)
      (found : AreLayerFindings layer S trace summary v pairs) (is : counted ≡ counted_of group layer S pairs)
      (its : DetectionBounds) (kept : AreBounds (bounds group layer one) its)
      (decisions : DecisionSums) (own : AreOwnSums S summary v counted its (deciding_of S summary.outcomes.items) decisions sums)
      (decided : AreDecisionSums (deciding_of S summary.outcomes.items) decisions)
      (d : AreDecisionsWithin (length (deciding_of S summary.outcomes.items) * 2 ^ 64) decisions) where
    counted_is : counted ≡ counted_pairs group layer one
    counted_is = is ∙ ap (counted_of group layer S) found.measured

    deciding_is : deciding_of S summary.outcomes.items ≡ deciding one
    deciding_is = ap (deciding_of S) found.summed.decided

    traces_one : AreTraceSums (one ∷ []) sums.traces
    traces_one = subst (AreTraceSums (one ∷ [])) (sym own.traces) (record {
      entries = omega (arith, found.summed.entries);
      sent = omega (arith, found.summed.sent);
      lost = omega (arith, found.summed.lost);
    })

    verdicts_one : AreVerdictCounts layer (one ∷ []) sums.verdicts
    verdicts_one = subst (AreVerdictCounts layer (one ∷ [])) (sym (own.verdicts ∙ ap of_verdicts found.judged)) (record {
      strong_completeness = omega arith;
      weak_completeness = omega arith;
      strong_accuracy = omega arith;
      weak_accuracy = omega arith;
      eventual_strong_accuracy = omega arith;
      eventual_weak_accuracy = omega arith;
    })

    mistakes_is : sums.pairs.mistakes ≡ mistakes group layer one
    mistakes_is = own.pairs.mistakes ∙ ap (sum_by (λ m. m.mistakes)) counted_is

    mistakes_high : sums.pairs.mistakes ≤ 2 ^ 41
    mistakes_high = omega (arith, mistakes_is, run_mistakes group S trace found.ranges layer)

    squared_is : sums.mistakes_squared_sum ≡ sums.pairs.mistakes * sums.pairs.mistakes
    squared_is = omega (arith, own.squared, square_high sums.pairs.mistakes mistakes_high)

    counts_one : AreRunCounts group layer (one ∷ []) sums.counts
    counts_one =
        let c = own.counts in
        record {
          with_mistakes = c.with_mistakes ∙ ap (λ n. cond (nat_lt 0 n) 1 0) mistakes_is ∙ sym (zero-add (cond (has_mistake group layer one) 1 0));
          all_decided = c.all_decided ∙ ap (λ n. cond (nat_lt 0 n && list_all has_decided (deciding_of S summary.outcomes.items)) 1 0) decided.to_decide
              ∙ ap (λ os. cond (do_all_decide os) 1 0) deciding_is ∙ sym (zero-add (cond (do_all_decide (deciding one)) 1 0));
          undecided = c.undecided ∙ ap (λ os. cond (is_undecided os) 1 0) deciding_is ∙ sym (zero-add (cond (is_undecided (deciding one)) 1 0));
          disagreements = c.disagreements ∙ ap (λ os. cond (do_disagree os) 1 0) found.summed.decided ∙ sym (zero-add (cond (do_disagree (run_outcomes one)) 1 0));
        }

    done_alone : AreDoneSums group layer (one ∷ []) sums
    done_alone = record {
      traces = traces_one;
      pair_ticks = own.pair_ticks ∙ ap (sum_by (λ m. end_of S m.observer m.subject)) counted_is ∙ sym (zero-add (pair_ticks group layer one));
      pairs = subst (λ ms. ArePairSums ms sums.pairs) (counted_is ∙ sym (append-nil (counted_pairs group layer one))) own.pairs;
      mistakes_squared_sum = squared_is ∙ ap (λ m. m * m) mistakes_is ∙ sym (zero-add (mistakes group layer one * mistakes group layer one));
      verdicts = verdicts_one;
      bounds = rw own.bounds (subst (λ bs. AreBounds bs its) (sym (append-nil (bounds group layer one))) kept);
      decisions = rw own.decisions (subst (λ os. AreDecisionSums os decisions) (deciding_is ∙ sym (append-nil (deciding one))) decided);
      counts = counts_one;
    }

    few : length counted ≤ 2 ^ 17
    few = subst (λ ms. length ms ≤ 2 ^ 17) (sym counted_is) (few_counted group S trace found.ranges layer)

    fewer : length (deciding_of S summary.outcomes.items) ≤ 256
    fewer =
        omega (
          arith,
          length-filter (λ o. is_to_decide S o.pid) summary.outcomes.items,
          count_by-le-length (λ o. is_to_decide S o.pid) summary.outcomes.items,
          ap length found.summed.decided,
          few_outcomes S trace found.ranges,
        )

    within_one : IsLayerWithin (most_of 1) sums
    within_one =
        let short : length trace ≤ 100000000 = le_trans found.within found.ranges.limit_high in
        record {
          traces = subst (AreTracesWithin (most_of 1)) (sym own.traces) (record {
            entries = omega (arith, found.summed.entries, short);
            sent = omega (arith, found.sent_high, short);
            lost = omega (arith, found.lost_high, short);
          });
          pair_ticks = omega (arith, own.pair_ticks_high, few);
          pairs = pairs_raised (length counted * 2 ^ 64) (most_of 1) sums.pairs (omega (arith, few)) own.pairs_high;
          mistakes_squared_sum = omega (arith, squared_is, square_high sums.pairs.mistakes mistakes_high);
          decisions = rw own.decisions (record {
            to_decide = omega (arith, d.to_decide, fewer);
            decided = omega (arith, d.decided, fewer);
            decision_tick_sum = omega (arith, d.decision_tick_sum, fewer);
          });
        }

    pub fitting_one : AreFitting group layer (trial ∷ []) sums
    fitting_one = record {
      sums = record {
        runs = own.runs ∙ ap length (sym on_one);
        limited = own.limited ∙ ap (count_by (λ (t : Trial). is_limited t.result)) (sym on_one);
        done = subst (λ rs. AreDoneSums group layer rs sums) (sym done_one) done_alone;
      };
      grounds = subst (All (λ r. HasGrounds r.scenario r.trace)) (sym done_one) (All-cons (λ r. HasGrounds r.scenario r.trace) one [] found.grounds (All-nil (λ r. HasGrounds r.scenario r.trace)));
      few_runs = omega arith;
      within = within_one;
      few_detected = omega (arith, ap length detections_one, few_mapped (λ (m : PairMeasures). detection_time m.detection) (counted_pairs group layer one), ap length counted_is, few);
      few_undetected = omega (arith, own.pairs.undetected, count_by-le-length (λ (m : PairMeasures). is_undetected m.detection) counted, few);
      few_ticks = omega (arith, own.pairs.mistake_ticks, ap (sum_by (λ (m : PairMeasures). m.mistake_ticks)) counted_is, run_ticks group S trace found.ranges layer);
    }
