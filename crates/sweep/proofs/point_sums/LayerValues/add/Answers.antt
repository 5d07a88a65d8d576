use Rattle.sweep.proofs.Words.{◌≡◌, ◌+◌, ◌^◌, ◌<◌, ◌≤◌, ◌∷◌, ◌++◌, [], length, length-append, cons_option, ap, sym, ◌∙◌, subst, arith, all_durations, all_detections, last_decisions, top_rounds, most_values}
use Rattle.sweep.proofs.{Layered.{durations_both, detections_both, decisions_both, rounds_both, few_decisions, few_rounds}, Lines.{on_ok}}
use Rattle.sweep.specs.Percentile.{AreCounted}
use Rattle.sweep.proofs.point_sums.LayerValues.add.Goals as goal

pub returns : goal.returns
returns c =
    on_ok c.add_if_any-2.result (λ last group layer trials trial few detected p q.
    let one = trial ∷ [] in
    let lasted : c.deref.result.now ≡ all_durations group layer one = c.deref.ensures.value ∙ q.durations in
    let short : length c.deref.result.now < 2 ^ 64 = omega arith in
    let space : length (all_durations group layer trials) + length c.deref.result.now ≤ most_values = omega (arith, short, p.few_lasted, few) in
    let times : c.deref-2.result.now ≡ all_detections group layer one = c.deref-2.ensures.value ∙ q.detections in
    let room : length (all_detections group layer trials) + length c.deref-2.result.now ≤ most_values = omega (arith, ap length times, detected, q.fitting.few_detected, few) in
    let few_last : length (last_decisions layer trials) + length (cons_option c.args.run.now.last_decision []) ≤ most_values =
    omega (arith, few_decisions layer trials, few_decisions layer one, ap length q.last_decision, few) in
    let few_top : length (top_rounds layer trials) + length (cons_option c.args.run.now.top_round []) ≤ most_values =
    omega (arith, few_rounds layer trials, few_rounds layer one, ap length q.top_round, few) in
    record {
      lasted = subst (λ vs. AreCounted vs c.add_all.new.self) (ap (λ vs. all_durations group layer trials ++ vs) lasted ∙ sym (durations_both group layer trials one))
          (c.in_ok-add_all.ensures (all_durations group layer trials) space p.lasted);
      few_lasted = omega (arith, p.few_lasted, short, ap length lasted, ap length (durations_both group layer trials one), length-append (all_durations group layer trials) (all_durations group layer one), length-append trials one);
      detected = subst (λ vs. AreCounted vs c.add_all-2.new.self) (ap (λ vs. all_detections group layer trials ++ vs) times ∙ sym (detections_both group layer trials one))
          (c.in_ok-add_all-2.ensures (all_detections group layer trials) room p.detected);
      decided = subst (λ vs. AreCounted vs c.add_if_any.new.self) (ap (λ vs. last_decisions layer trials ++ vs) q.last_decision ∙ sym (decisions_both layer trials one))
          (c.in_ok-add_if_any.ensures (last_decisions layer trials) few_last p.decided);
      rounds = subst (λ vs. AreCounted vs c.add_if_any-2.new.self) (ap (λ vs. top_rounds layer trials ++ vs) q.top_round ∙ sym (rounds_both layer trials one))
          (last (top_rounds layer trials) few_top p.rounds);
    }) c.add_if_any-2.ensures
