use Rattle.sweep.proofs.Words.{rules}
use Rattle.sweep.proofs.point_sums.LayerTotals.new.Goals as goal

pub returns : goal.returns
returns c group layer first = record {
  fitting = search rules;
  values = c.new.ensures group layer;
  first_runs = record { mistake = search rules; detection_max = search rules; disagreement = search rules };
}
