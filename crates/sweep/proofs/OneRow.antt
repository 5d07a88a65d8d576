-- What a row tells is told by the runs alone.
use Rattle.sweep.proofs.Words.{rules, ◌≡◌, ℕ, ◌*◌, ◌≤◌, ◌++◌, List, [], ◌∷◌, Option, None, Some, is_some, cond, refl, sym, ap, ◌∙◌, subst, arith, AllZip, flat_map, list_any, Outcome, PairMeasures, over, all_detections, last_decisions, IsDistribution, AreTraceSums, ArePairSums, AreDecisionSums, AreVerdictCounts, AreRunCounts, AreLayerSums, AreFirstRuns, AreColumns, Finished, IsPercentile, Trial, Text, layer_text, AreRowsFor, AreRowsOfGroup, Group, DecisionSums, FirstRuns, LayerSums, PairSums, RunCounts, TraceSums, Columns, AreBounds, DetectionBounds, Distribution}
use Rattle.sweep.specs.declared.columns.VerdictCounts.{VerdictCounts}

module _ (p : ℕ) (values : List ℕ) (infinite : ℕ) where
  one_percentile : (o q : Option ℕ) → IsPercentile p values infinite o → IsPercentile p values infinite q → o ≡ q
  one_percentile None None a b = refl
  one_percentile None (Some w) a b = absurd (a w b.value b.covers)
  one_percentile (Some v) None a b = absurd (b v a.value a.covers)
  one_percentile (Some v) (Some w) a b =
      let up : v ≤ w = a.least w b.value b.covers in
      let down : w ≤ v = b.least v a.value a.covers in
      ap Some (omega (arith, up, down))

one_distribution : (values : List ℕ) (infinite : ℕ) (s t : Distribution) → IsDistribution values infinite s
    → IsDistribution values infinite t → s ≡ t
one_distribution values infinite s t a b =
    let half = one_percentile 50 values infinite s.p50 t.p50 a.p50 b.p50 in
    let most = one_percentile 90 values infinite s.p90 t.p90 a.p90 b.p90 in
    let all = one_percentile 99 values infinite s.p99 t.p99 a.p99 b.p99 in
    λ i. record { count = (a.many ∙ sym b.many) i; p50 = half i; p90 = most i; p99 = all i; greatest = (a.highest ∙ sym b.highest) i }

one_trace_sums : (runs : List Finished) (s t : TraceSums) → AreTraceSums runs s → AreTraceSums runs t → s ≡ t
one_trace_sums runs s t a b = search rules

one_pair_sums : (pairs : List PairMeasures) (s t : PairSums) → ArePairSums pairs s → ArePairSums pairs t → s ≡ t
one_pair_sums pairs s t a b = search rules

one_bounds : (all : List (Option ℕ)) (s t : DetectionBounds) → AreBounds all s → AreBounds all t → s ≡ t
one_bounds all s t a b = search rules

one_decision_sums : (outcomes : List Outcome) (s t : DecisionSums) → AreDecisionSums outcomes s → AreDecisionSums outcomes t
    → s ≡ t
one_decision_sums outcomes s t a b = search rules

one_verdict_counts : (layer : ℕ) (runs : List Finished) (s t : VerdictCounts) → AreVerdictCounts layer runs s
    → AreVerdictCounts layer runs t → s ≡ t
one_verdict_counts layer runs s t a b = search rules

module _ (group : Group) (layer : ℕ) where
  one_run_counts : (runs : List Finished) (s t : RunCounts) → AreRunCounts group layer runs s → AreRunCounts group layer runs t → s ≡ t
  one_run_counts runs s t a b = search rules

  one_layer_sums : (trials : List Trial) (s t : LayerSums) → AreLayerSums group layer trials s → AreLayerSums group layer trials t → s ≡ t
  one_layer_sums trials s t a b = λ i. record {
    runs = (a.runs ∙ sym b.runs) i;
    limited = (a.limited ∙ sym b.limited) i;
    traces = one_trace_sums _ s.traces t.traces a.done.traces b.done.traces i;
    pair_ticks = (a.done.pair_ticks ∙ sym b.done.pair_ticks) i;
    pairs = one_pair_sums _ s.pairs t.pairs a.done.pairs b.done.pairs i;
    mistakes_squared_sum = (a.done.mistakes_squared_sum ∙ sym b.done.mistakes_squared_sum) i;
    verdicts = one_verdict_counts layer _ s.verdicts t.verdicts a.done.verdicts b.done.verdicts i;
    bounds = one_bounds _ s.bounds t.bounds a.done.bounds b.done.bounds i;
    decisions = one_decision_sums _ s.decisions t.decisions a.done.decisions b.done.decisions i;
    counts = one_run_counts _ s.counts t.counts a.done.counts b.done.counts i;
  }

  module _ (first : ℕ) (trials : List Trial) where
    one_first_runs : (s t : FirstRuns) → AreFirstRuns group layer first trials s → AreFirstRuns group layer first trials t → s ≡ t
    one_first_runs s t a b = search rules

    one_columns : (c d : Columns) → AreColumns group layer first trials c → AreColumns group layer first trials d → c ≡ d
    one_columns c d a b =
        let e = one_layer_sums trials c.sums d.sums a.sums b.sums in
        let e0 = a.mistake_recurrence ∙ ap (λ (s : LayerSums). over s.pair_ticks s.pairs.mistakes) e ∙ sym b.mistake_recurrence in
        let e1 = a.mistaken_ppm ∙ ap (λ (s : LayerSums). over (1000000 * s.pairs.mistake_ticks) s.pair_ticks) e ∙ sym b.mistaken_ppm in
        let undetected = ap (λ (s : LayerSums). s.pairs.undetected) e in
        let undecided = ap (λ (s : LayerSums). s.counts.undecided) e in
        let e2 = one_distribution _ _ c.detections d.detections a.detections (subst (λ n. IsDistribution (all_detections group layer trials) n d.detections) (sym undetected) b.detections) in
        let e3 = one_distribution _ _ c.last_decisions d.last_decisions a.last_decisions (subst (λ n. IsDistribution (last_decisions layer trials) n d.last_decisions) (sym undecided) b.last_decisions) in
        let e4 = one_distribution _ 0 c.rounds d.rounds a.rounds b.rounds in
        let e6 = one_distribution _ 0 c.durations d.durations a.durations b.durations in
        let e5 = one_first_runs c.first_runs d.first_runs a.first_runs b.first_runs in
        λ i. record {
          sums = e i;
          mistake_recurrence = e0 i;
          mistaken_ppm = e1 i;
          durations = e6 i;
          detections = e2 i;
          last_decisions = e3 i;
          rounds = e4 i;
          first_runs = e5 i;
        }

-- lists in step with one list are one, where what stands in step with anything is one
pub one_list : {A B : Type 0} (R : A → B → Type 0) → ((x : A) (y z : B) → R x y → R x z → y ≡ z)
    → (xs : List A) (ys zs : List B) → AllZip R xs ys → AllZip R xs zs → ys ≡ zs
one_list R one [] [] [] a b = refl
one_list R one [] [] (z ∷ zs) a b = absurd b
one_list R one [] (y ∷ ys) zs a b = absurd a
one_list R one (x ∷ xs) [] zs a b = absurd a
one_list R one (x ∷ xs) (y ∷ ys) [] a b = absurd b
one_list R one (x ∷ xs) (y ∷ ys) (z ∷ zs) a b =
    ap (λ u. u ∷ ys) (one x y z a.0 b.0) ∙ ap (λ l. z ∷ l) (one_list R one xs ys zs a.1 b.1)

module _ (picks : List ℕ) (lead : List Text) (first : ℕ) (trials : List Trial) where
  one_group : (group : Group) (a b : Text) → AreRowsOfGroup picks lead first trials group a → AreRowsOfGroup picks lead first trials group b
      → a ≡ b
  one_group group a b x y =
      let e = one_columns group 1 first trials x.one y.one x.on_first y.on_first in
      let f = one_columns group 2 first trials x.two y.two x.on_second y.on_second in
      x.text
      ∙ ap (λ c. layer_text picks lead group 1 c ++ cond (list_any (λ t. is_some t.scenario.share) trials) (layer_text picks lead group 2 x.two) []) e
      ∙ ap (λ c. layer_text picks lead group 1 y.one ++ cond (list_any (λ t. is_some t.scenario.share) trials) (layer_text picks lead group 2 c) []) f
      ∙ sym y.text

  pub one_rows_for : (groups : List Group) (a b : Text) → AreRowsFor picks lead groups first trials a
      → AreRowsFor picks lead groups first trials b → a ≡ b
  one_rows_for groups a b x y =
      x.text_is ∙ ap (λ l. flat_map (λ part. part) l) (one_list (AreRowsOfGroup picks lead first trials) one_group groups x.parts y.parts x.each y.each) ∙ sym y.text_is
