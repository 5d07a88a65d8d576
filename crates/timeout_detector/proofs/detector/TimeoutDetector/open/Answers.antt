use Rattle.std.proofs.Common.{ap, ◌∙◌, nat_cmp}
use Rattle.std.specs.FinSet as set
use Rattle.timeout_detector.proofs.detector.TimeoutDetector.open.Goals as goal

pub invariant_of-result-clause-not_itself : goal.invariant_of-result-clause-not_itself
invariant_of-result-clause-not_itself c = ap (λ m. set.contains m c.args.opening.now.own) c.new.ensures ∙ set.contains-empty nat_cmp c.args.opening.now.own
