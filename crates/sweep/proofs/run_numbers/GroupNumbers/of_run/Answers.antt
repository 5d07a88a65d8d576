use Rattle.sweep.proofs.Words.{rules, ◌≡◌, ◌++◌, ◌/◌, ℕ, List, length, take, drop, refl, ap, ◌∙◌, take-append_seam, drop-append_seam, verdicts, Verdicts, MeasuresRun, RunFindings, PairMeasures, IsInRange, Record, done_run, AreLayerFindings, layer_measures, Trusts}
use Rattle.sweep.proofs.{Layered.{has_first, has_second}, Parts.{alone, shared, first_alone, both_layers, half}}
use Rattle.reporting.specs.declared.durations.RunDurations.{RunDurations}
use Rattle.sweep.proofs.run_numbers.GroupNumbers.of_run.Goals as goal

layer_found : (S : Record) (f : RunFindings) (d : RunDurations) (t : Trusts) (found : MeasuresRun S f d t) → IsInRange S → (layer : ℕ) (v : Verdicts) (pairs : List PairMeasures)
    → v ≡ verdicts S found.trace layer → pairs ≡ layer_measures S found.trace layer → AreLayerFindings layer S found.trace f.summary v pairs
layer_found S f d t found ranges layer v pairs judged measured = record {
  ranges = ranges;
  within = found.is_within.within;
  summed = found.measured.summary;
  sent_high = found.sent_high;
  lost_high = found.lost_high;
  judged = judged;
  measured = measured;
  grounds = found.grounds;
}

pub returns-in-None : goal.returns-in-None
returns-in-None c found =
    let S = c.args.scenario.now in
    let f = c.args.findings.now in
    record {
      first = c.in_ok-first-in-None.ensures found.trace (has_first S) (layer_found S f c.args.durations.now c.args.trusts.now found c.recall_ranges.ensures 1 f.first c.deref.result.now
          found.measured.first (c.deref.ensures.value ∙ first_alone S found.trace f found.measured c.in-None.is)) found.lasted.first found.trusted;
      second = c.of_nothing-second.ensures.none refl c.args.group.now 2 (done_run S found.trace) (has_second S ∙ alone S found.trace f found.measured c.in-None.is);
    }

pub returns : goal.returns
returns c found =
    let S = c.args.scenario.now in
    let f = c.args.findings.now in
    let v = c.in-Some.verdicts in
    let one = layer_measures S found.trace 1 in
    let two = layer_measures S found.trace 2 in
    let is = shared S found.trace f found.measured v c.in-Some.is in
    let size : c.len.result ≡ length f.measures.items = search rules in
    let place : c.len.result / 2 ≡ length one = ap (λ n. n / 2) size ∙ half S found.trace f found.measured v c.in-Some.is in
    let all : c.deref-2.result.now ≡ one ++ two = c.deref-2.ensures.value ∙ both_layers S found.trace f found.measured v c.in-Some.is in
    let front : c.split_at.result.0.now ≡ one = c.split_at.ensures.front ∙ ap (λ n. take n c.deref-2.result.now) place ∙ ap (take (length one)) all ∙ take-append_seam one two in
    let back : c.split_at.result.1.now ≡ two = c.split_at.ensures.back ∙ ap (λ n. drop n c.deref-2.result.now) place ∙ ap (drop (length one)) all ∙ drop-append_seam one two in
    let ranges = c.recall_ranges.ensures in
    record {
      first = c.in_ok-first.ensures found.trace (has_first S) (layer_found S f c.args.durations.now c.args.trusts.now found ranges 1 f.first c.split_at.result.0.now found.measured.first front) found.lasted.first found.trusted;
      second = c.in_ok-second.ensures found.trace (has_second S ∙ is.0) (layer_found S f c.args.durations.now c.args.trusts.now found ranges 2 v c.split_at.result.1.now is.1 back) (found.lasted.second is.0) found.trusted;
    }
