use Rattle.std.proofs.Common.{◌≤◌, sym, subst}
use Rattle.{process_api.specs.Place.{most_processes, Place}, scenario_record.specs.Opening.{place_of}}
use Rattle.reduction.specs.Inside.Parts.{state_of}
use Rattle.reduction.proofs.Joining.{joined_state, joined_actions, joined_changes, joined_allowed, joined_few}
use Rattle.reduction.proofs.reduced.ReducedDetector.take.Goals as goal

pub returns-clause-state : goal.returns-clause-state
returns-clause-state g c =
    let old = c.args.self.now in
    joined_state (g.D.Detector.lower old.detector) old.base (state_of old.gathering) c.args.now c.args.input.now _ (state_of c.step.new.self) c.suspects-suspects.result (place_of old.gathering.opening) (sym old.place)
    c.in_ok-take.ensures.state c.suspects-suspects.ensures.value c.in_ok-step.ensures.state

pub returns-clause-actions : goal.returns-clause-actions
returns-clause-actions g c =
    let old = c.args.self.now in
    joined_actions (g.D.Detector.lower old.detector) old.base (state_of old.gathering) c.args.now c.args.input.now _ (state_of c.step.new.self) c.suspects-suspects.result (place_of old.gathering.opening) (sym old.place)
    c.in_ok-take.ensures.state c.suspects-suspects.ensures.value c.in_ok-step.ensures.state
    c.args.out.now.items c.take.new.out.items c.step.new.out.items c.in_ok-take.ensures.actions c.in_ok-step.ensures.actions

pub returns-clause-allowed : goal.returns-clause-allowed
returns-clause-allowed g c = joined_allowed _ c.args.self.now.base (state_of c.args.self.now.gathering) _ _ c.args.self.now.gathering.paced c.in_ok-take.ensures.allowed

pub returns-clause-few : goal.returns-clause-few
returns-clause-few g c =
    let old = c.args.self.now in
    joined_few _ old.base (state_of old.gathering) _ _ (subst (λ (p : Place). p.processes ≤ most_processes) (sym old.place) old.gathering.opening.few) c.in_ok-take.ensures.few

pub returns-clause-changes : goal.returns-clause-changes
returns-clause-changes g c =
    let old = c.args.self.now in
    joined_changes (g.D.Detector.lower old.detector) old.base (state_of old.gathering) c.args.now c.args.input.now _ (state_of c.step.new.self) c.suspects-suspects.result (place_of old.gathering.opening) (sym old.place)
    c.in_ok-take.ensures.state c.suspects-suspects.ensures.value c.in_ok-step.ensures.state
