use Rattle.consensus_es.proofs.Words.{◌∙◌, ap, append_assoc, ◌++◌, ◌∷◌, [], cond, Collect, Await, state_of}
use Rattle.process_api.specs.declared.action.Action.TheVariants as action
use Rattle.process_api.specs.declared.action.Note.TheVariants as note
use Rattle.process_api.specs.declared.message.Payload.TheVariants as payload
use Rattle.consensus_es.proofs.progress.Progress.enter.Goals as goal

pub returns : goal.returns
returns c =
    let s = c.args.self.now in
    let r = c.args.round in
    let out = c.args.out.now.items in
    let what = payload.Estimate r s.estimate.value s.estimate.stamp in
    let phase_is = c.first_phase-self.ensures ∙ ap (λ b. cond b Collect Await) c.is_coordinator.ensures in
    record {
      state = λ i. record (state_of s) {
        round = r;
        phase = phase_is i;
        kept = record { estimates = c.drop_before.ensures i; proposals = c.drop_before-2.ensures i; replies = c.drop_before-3.ensures i };
      };
      actions = c.in_ok-send_to.ensures.ok
          ∙ (ap (λ z. z ++ action.Send c.coordinator.result what ∷ []) c.in_ok-note_that.ensures.ok
          ∙ (append_assoc out (action.Note (note.Round r) ∷ []) (action.Send c.coordinator.result what ∷ [])
          ∙ ap (λ q. out ++ action.Note (note.Round r) ∷ action.Send q what ∷ []) c.coordinator.ensures));
    }
