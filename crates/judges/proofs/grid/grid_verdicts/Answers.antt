use Rattle.judges.proofs.Words.{◌≡◌, arith, add-one, common_steps}
use Rattle.judges.proofs.grid.grid_verdicts.Goals as goal

pub loop-i-preserved : goal.loop-i-preserved
loop-i-preserved g c = record {
  strong_completeness = rw add-one (cc);
  weak_completeness = rw add-one (cc);
  strong_accuracy = grind (arith, common_steps);
  weak_accuracy = grind (arith, common_steps);
  eventual_strong_accuracy = rw add-one (cc);
  eventual_weak_accuracy = rw add-one (cc);
}

pub returns : goal.returns
returns g c =
    let all : c.loop-i.i ≡ c.args.pairs.now.processes = omega arith in
    let told = c.loop-i.invariant in
    λ k. record {
      strong_completeness = (rw all at told.strong_completeness) k;
      weak_completeness = (rw all at told.weak_completeness) k;
      strong_accuracy = (rw all at told.strong_accuracy) k;
      weak_accuracy = (rw all at told.weak_accuracy) k;
      eventual_strong_accuracy = (rw all at told.eventual_strong_accuracy) k;
      eventual_weak_accuracy = (rw all at told.eventual_weak_accuracy) k;
    }
