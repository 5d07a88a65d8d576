use Rattle.sweep.proofs.{Words.{◌≡◌, ◌*◌, ◌^◌, ◌<◌, ap, ◌∙◌, subst, arith, count_by-le-length, IsDistribution, all_durations, all_detections, last_decisions, top_rounds, done_on, over, deciding, is_undecided}, Attained.{columns_told}}
use Rattle.sweep.proofs.{Bounding.{columns_kept}, Layered.{few_done, few_decisions, few_rounds}}
use Rattle.sweep.proofs.point_sums.LayerTotals.columns.Goals as goal

pub returns : goal.returns
returns c group layer first trials totals =
    let s = c.args.self.now.sums in
    let fit = totals.fitting in
    let million : c.saturating_mul.result ≡ 1000000 * s.pairs.mistake_ticks = omega (arith, c.saturating_mul.ensures, fit.few_ticks, fit.few_runs) in
    let few_undetected : s.pairs.undetected < 2 ^ 64 = omega (arith, fit.few_undetected, fit.few_runs) in
    let few_undecided : c.from-undecided.result < 2 ^ 64 =
    omega (arith, c.from-undecided.ensures, fit.sums.done.counts.undecided, count_by-le-length (λ r. is_undecided (deciding r)) (done_on layer trials), few_done layer trials, fit.few_runs) in
    let detections = c.distribution-2.ensures (all_detections group layer trials) (omega (arith, fit.few_detected, fit.few_runs)) few_undetected totals.values.detected in
    record {
      sums = fit.sums;
      mistake_recurrence = c.over.ensures;
      mistaken_ppm = c.over-2.ensures ∙ ap (λ n. over n s.pair_ticks) million;
      durations = c.distribution.ensures (all_durations group layer trials) (omega (arith, totals.values.few_lasted, fit.few_runs)) (omega arith) totals.values.lasted;
      detections = detections;
      last_decisions = subst (λ n. IsDistribution (last_decisions layer trials) n c.distribution-3.result) c.from-undecided.ensures
          (c.distribution-3.ensures (last_decisions layer trials) (omega (arith, few_decisions layer trials, fit.few_runs)) few_undecided totals.values.decided);
      rounds = c.distribution-4.ensures (top_rounds layer trials) (omega (arith, few_rounds layer trials, fit.few_runs)) (omega arith) totals.values.rounds;
      first_runs = totals.first_runs;
      kept = columns_kept group layer trials s c.distribution-2.result s.pairs.undetected fit detections;
      told = columns_told group layer trials s fit;
    }
