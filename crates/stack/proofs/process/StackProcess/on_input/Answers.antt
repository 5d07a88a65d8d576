use Rattle.stack.proofs.Joining.{joined_mind, joined_actions, joined_allowed, joined_few}
use Rattle.stack.proofs.process.StackProcess.on_input.Goals as goal

pub returns-clause-mind : goal.returns-clause-mind
returns-clause-mind g c = joined_mind _ _ _ _ _ _ _ c.in_ok-take.ensures.state c.suspects-suspects.ensures.value c.in_ok-take-2.ensures.state

pub returns-clause-actions : goal.returns-clause-actions
returns-clause-actions g c =
    joined_actions _ _ _ _ _ _ _ c.in_ok-take.ensures.state c.suspects-suspects.ensures.value c.in_ok-take-2.ensures.state
    _ _ _ c.in_ok-take.ensures.actions c.in_ok-take-2.ensures.actions

pub returns-clause-allowed : goal.returns-clause-allowed
returns-clause-allowed g c =
    joined_allowed _ _ _ _ _ _ _ c.in_ok-take.ensures.state c.suspects-suspects.ensures.value c.in_ok-take-2.ensures.state
    c.args.self.now.together c.in_ok-take.ensures.allowed c.in_ok-take-2.ensures.allowed

pub returns-clause-few : goal.returns-clause-few
returns-clause-few g c =
    joined_few _ _ _ _ _ _ _ c.in_ok-take.ensures.state c.suspects-suspects.ensures.value c.in_ok-take-2.ensures.state
    c.in_ok-take.ensures.few c.in_ok-take-2.ensures.few
