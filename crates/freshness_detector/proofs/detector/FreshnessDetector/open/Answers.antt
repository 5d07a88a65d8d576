use Rattle.freshness_detector.proofs.{Words.{refl, ap, subst, ◌∙◌, place_of, state_by}, Points.{opens_with_nobody}}
use Rattle.std.specs.FinSet as set
use Rattle.scenario_record.specs.Ranges.{AreInRange}
use Rattle.freshness_detector.proofs.detector.FreshnessDetector.open.Goals as goal

pub invariant_of-result-clause-ranges : goal.invariant_of-result-clause-ranges
invariant_of-result-clause-ranges c = subst AreInRange c.in-Freshness.is c.args.opening.now.numbers

pub invariant_of-result-clause-current : goal.invariant_of-result-clause-current
invariant_of-result-clause-current c = λ q. ap (λ m. set.contains m q) c.new.ensures ∙ opens_with_nobody (place_of c.args.opening.now) c.in-Freshness.numbers (state_by 0 0 c.in_ok-vec.field-0.items) refl q
