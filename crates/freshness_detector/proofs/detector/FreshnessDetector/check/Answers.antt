use Rattle.freshness_detector.proofs.{Words.{◌++◌, ap, ◌∙◌, append_assoc, map, changes, place_of, state_of, checked_by, suspected_at, noted_by, next_check_of}, Points.{same_suspects}}
use Rattle.std.proofs.lemmas.Result.{on_ok_weaker}
use Rattle.std.specs.FinSet as set
use Rattle.process_api.specs.declared.action.Action.TheVariants.{Note}
use Rattle.freshness_detector.proofs.detector.FreshnessDetector.check.Goals as goal

pub returns-clause-actions : goal.returns-clause-actions
returns-clause-actions c =
    let d = c.args.self.now in
    let out = c.args.out.now.items in
    let old = same_suspects (place_of d.opening) d.numbers (state_of d) d.suspects d.current in
    let new = c.suspects_at-suspects.ensures ∙ ap (suspected_at d) c.next-point.ensures in
    let noted = c.in_ok-note_changes.ensures ∙ (λ i. out ++ map Note (changes 1 d.opening.processes (old i) (new i))) in
    on_ok_weaker c.wake_after.result (λ e. e ∙ (ap (λ xs. xs ++ next_check_of d) noted ∙ append_assoc out (noted_by d (checked_by d)) (next_check_of d))) c.wake_after.ensures.ok
