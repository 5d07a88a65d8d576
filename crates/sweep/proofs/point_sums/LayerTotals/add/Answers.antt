use Rattle.sweep.proofs.{Words.{◌≡◌, ◌∷◌, ◌++◌, [], ap, sym, ◌∙◌, subst, arith, first_with, is_above, AreFirstRuns, all_detections, greatest}, FirstNumbers.{first_runs_more}, Layered.{layer_added}}
use Rattle.sweep.proofs.point_sums.LayerTotals.add.Goals as goal

pub returns : goal.returns
returns c group layer first trials trial few number p q =
    let old = c.args.self.now in
    let run = c.args.run.now in
    let values = c.in_ok-add.ensures group layer trials trial few p.fitting.few_detected p.values q in
    let now = all_detections group layer (trials ++ trial ∷ []) in
    let longest : c.is_above-is_longest.result ≡ is_above (greatest now) (greatest (all_detections group layer trials)) =
    c.is_above-is_longest.ensures ∙ ap (λ o. is_above o old.values.detections.greatest) values.detected.highest ∙ ap (is_above (greatest now)) p.values.detected.highest in
    record {
      fitting = rw c.plus-self.ensures (layer_added group layer trials (trial ∷ []) old.sums run.sums (omega (arith, few)) p.fitting q.fitting);
      values = values;
      first_runs = subst (AreFirstRuns group layer first (trials ++ trial ∷ [])) (sym (c.with-self.ensures ∙ ap (λ n. first_with old.first_runs n run.sums.counts c.is_above-is_longest.result) number))
          (first_runs_more group layer first trials trial old.first_runs run.sums.counts c.is_above-is_longest.result p.first_runs q.fitting.sums.done.counts longest);
    }
