use Rattle.detector_bounds.proofs.{Kept.{bounds_kept}, Sharing.{shares_detection}}
use Rattle.detector_bounds.proofs.laws.law_bounds.Goals as goal

pub returns : goal.returns
returns c = record {
  bounds = bounds_kept c.args.scenario.now c.recall_ranges.ensures;
  shared = shares_detection c.args.scenario.now c.recall_ranges.ensures;
}
