use Rattle.sweep.proofs.Words.{◌≡◌, ◌*◌, ◌^◌, [], length, ap, sym, ◌∙◌, subst, cons_option, flat_map, lengths_of, AreDecisionSums, AreDecisionsWithin, counted_of, deciding_of, last_decision, times_of, top_round, AreBounds, bounds}
use Rattle.sweep.proofs.{Bounding.{bounded_one}, Lasted.{lasted_of}, Parts.{durations_one, detections_one, decisions_one, rounds_one, fitting_one}}
use Rattle.sweep.proofs.run_numbers.LayerNumbers.of_run.Goals as goal

pub returns : goal.returns
returns c trace has found lasted trusted =
    let S = c.args.scenario.now in
    let group = c.args.group.now in
    let layer = c.args.layer in
    let os = c.args.found.now.summary.now.outcomes.items in
    let counted : c.in_ok-counted.counted.items ≡ counted_of group layer S c.args.found.now.pairs.now = c.in_ok-counted.ensures in
    let its = c.bounds_on-bounds.result in
    let bounded : AreBounds (bounds group layer (record { scenario = S; trace = trace })) its = bounded_one group layer S trace found.ranges c.args.found.now.trusts.now trusted its c.deref-4.result.now
    (c.deref-4.ensures.value ∙ counted ∙ ap (counted_of group layer S) found.measured) c.bounds_on-bounds.ensures in
    let deciding : c.deref-5.result.now ≡ deciding_of S os = c.deref-5.ensures.value ∙ c.in_ok-deciding.ensures ∙ ap (deciding_of S) c.deref.ensures.value in
    let decisions : AreDecisionSums (deciding_of S os) c.sum_decisions-decisions.result = subst (λ l. AreDecisionSums l c.sum_decisions-decisions.result) deciding c.sum_decisions-decisions.ensures.sums in
    let within : AreDecisionsWithin (length (deciding_of S os) * 2 ^ 64) c.sum_decisions-decisions.result =
    subst (λ l. AreDecisionsWithin (length l * 2 ^ 64) c.sum_decisions-decisions.result) deciding c.sum_decisions-decisions.ensures.within in
    record {
      fitting = fitting_one group layer S trace has c.args.found.now.summary.now c.args.found.now.verdicts.now c.args.found.now.pairs.now c.deref-6.result.now c.sums_of_run.result found (c.deref-6.ensures.value ∙ counted) its bounded
          c.sum_decisions-decisions.result (c.sums_of_run.ensures (deciding_of S os) decisions) decisions within;
      durations = c.in_ok-durations.ensures
          ∙ ap (flat_map (λ m. lengths_of c.args.found.now.durations.now m.observer m.subject)) (c.deref-2.ensures.value ∙ counted ∙ ap (counted_of group layer S) found.measured)
          ∙ lasted_of group S trace layer c.args.found.now.durations.now lasted
          ∙ sym (durations_one group layer S trace has);
      detections = c.in_ok-detections.ensures ∙ ap times_of (c.deref-3.ensures.value ∙ counted ∙ ap (counted_of group layer S) found.measured) ∙ sym (detections_one group layer S trace has);
      last_decision = ap (λ o. cons_option o []) (c.last_decision.ensures (deciding_of S os) decisions ∙ ap (λ l. last_decision (deciding_of S l)) found.summed.decided) ∙ sym (decisions_one group layer S trace has);
      top_round = ap (λ o. cons_option o []) (c.top_round.ensures ∙ ap top_round (c.deref-7.ensures.value ∙ found.summed.decided)) ∙ sym (rounds_one group layer S trace has);
    }
