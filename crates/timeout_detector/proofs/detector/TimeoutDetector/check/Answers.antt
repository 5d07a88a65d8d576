use Rattle.std.proofs.{Common.{◌≡◌, ℕ, true, false, ap, ◌∙◌, ◌++◌, ◌&&◌, not, nat_le, ◌-◌, map, append_assoc}, Math.Bool.{and-false}, lemmas.Result.{on_ok_weaker}}
use Rattle.std.specs.FinSet as set
use Rattle.process_api.specs.{Sets.{changes}, declared.action.Action.TheVariants.{Note}, Timeout.{next_check}}
use Rattle.{process_api.proofs.Changes.{notes-joined}, scenario_record.specs.Opening.{place_of}}
use Rattle.timeout_detector.specs.Inside.View.{state_of, is_watched, is_overdue}
use Rattle.timeout_detector.proofs.detector.TimeoutDetector.check.Goals as goal

pub returns-clause-actions : goal.returns-clause-actions
returns-clause-actions c =
    let d = c.args.self.now in
    let out = c.args.out.now.items in
    let new : (q : ℕ) → set.contains d.suspects q ≡ true → is_overdue d c.args.now q ≡ false =
    λ q h. ap (λ b. is_watched d q && (not b && nat_le ((state_of d).bound q) (c.args.now - (state_of d).last_heard q))) h ∙ and-false (is_watched d q) in
    let noted =
    c.in_ok-note_changes.ensures
    ∙ ap (λ xs. out ++ xs) (ap (λ s. map Note (changes 1 d.opening.processes d.suspects s)) c.suspects_at-suspects.ensures.value ∙ notes-joined d.opening.processes d.suspects (is_overdue d c.args.now) new) in
    on_ok_weaker c.wake_after.result (λ ok. ok ∙ (ap (λ xs. xs ++ next_check (place_of d.opening) d.numbers) noted ∙ append_assoc out _ (next_check (place_of d.opening) d.numbers))) c.wake_after.ensures.ok
