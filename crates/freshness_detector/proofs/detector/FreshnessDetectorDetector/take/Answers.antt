use Rattle.{freshness_detector.proofs.Words.{subst, arith, suspected, place_of, state_of}, std.specs.Prelude.{IsTrue}}
use Rattle.process_api.proofs.DetectorLaws.{base_allowed, base_few, base_changes}
use Rattle.process_api.specs.Detector.{ByFreshness, opening_detector, has_pauses, step_detector}
use Rattle.scenario_record.proofs.DetectorFacts.{opens_paced}
use Rattle.freshness_detector.proofs.detector.FreshnessDetectorDetector.take.Goals as goal

pub returns-clause-allowed : goal.returns-clause-allowed
returns-clause-allowed c =
    let d = c.args.self.now in
    base_allowed (place_of d.opening) (ByFreshness d.numbers (state_of d)) c.args._now c.args.input.now
    (subst (λ its. IsTrue (has_pauses (opening_detector its))) d.kind (opens_paced d.opening.detector d.opening.numbers))

pub returns-clause-few : goal.returns-clause-few
returns-clause-few c =
    let d = c.args.self.now in
    base_few (place_of d.opening) (ByFreshness d.numbers (state_of d)) c.args._now c.args.input.now (omega (arith, d.opening.few))

pub returns-clause-changes : goal.returns-clause-changes
unfolding step_detector
returns-clause-changes c =
    let d = c.args.self.now in
    let e = c.step.new.self in
    base_changes (place_of d.opening) (ByFreshness d.numbers (state_of d)) c.args._now c.args.input.now (suspected (place_of e.opening) e.numbers (state_of e))
    (λ i. suspected (place_of (c.step.ensures.opening i)) (c.step.ensures.numbers i) (c.in_ok-step.ensures.state i))
