use Rattle.{std.proofs.Common.{ap, subst, arith}, std.specs.Prelude.{IsTrue}}
use Rattle.process_api.proofs.DetectorLaws.{base_allowed, base_few, base_changes}
use Rattle.process_api.specs.Detector.{ByTimeout, opening_detector, has_pauses, step_detector}
use Rattle.{scenario_record.proofs.DetectorFacts.{opens_paced}, scenario_record.specs.Opening.{place_of}}
use Rattle.timeout_detector.specs.Inside.View.{state_of}
use Rattle.timeout_detector.proofs.detector.TimeoutDetectorDetector.take.Goals as goal

pub returns-clause-allowed : goal.returns-clause-allowed
returns-clause-allowed c =
    let d = c.args.self.now in
    base_allowed (place_of d.opening) (ByTimeout d.numbers (state_of d)) c.args.now c.args.input.now
    (subst (λ its. IsTrue (has_pauses (opening_detector its))) d.kind (opens_paced d.opening.detector d.opening.numbers))

pub returns-clause-few : goal.returns-clause-few
returns-clause-few c =
    let d = c.args.self.now in
    base_few (place_of d.opening) (ByTimeout d.numbers (state_of d)) c.args.now c.args.input.now (omega (arith, d.opening.few))

pub returns-clause-changes : goal.returns-clause-changes
unfolding step_detector
returns-clause-changes c =
    let d = c.args.self.now in
    base_changes (place_of d.opening) (ByTimeout d.numbers (state_of d)) c.args.now c.args.input.now c.step.new.self.suspects (ap (λ s. s.suspects) c.in_ok-step.ensures.state)
