use Rattle.event_list.proofs.Words.{◌≡◌, ◌+◌, ap, add-one, suc, ℕ, ◌∙◌, Events, start_of, starts}
use Rattle.std.specs.FinMap as events
use Rattle.process_api.specs.declared.message.StepInput.{StepInput}
use Rattle.trace_laws.specs.Step.{Event}
use Rattle.event_list.proofs.list.starts_of.Goals as goal

-- one start more
one_more : (n p : ℕ) (e : Event) (old new : Events) → old ≡ starts n → p ≡ n + 1 → e ≡ (start_of p, StepInput.Start)
    → new ≡ events.insert old e.0 e.1 → new ≡ starts (n + 1)
one_more n p e old new was own is more =
    let last : e ≡ (start_of (suc n), StepInput.Start) = is ∙ ap (λ q. (start_of q, StepInput.Start)) (own ∙ add-one n) in
    rw (add-one n) (more ∙ (λ i. events.insert (was i) (last i).0 (last i).1))

pub loop-before-preserved : goal.loop-before-preserved
loop-before-preserved c =
    let was = c.loop-before in
    one_more was.before c.after.result c.start.result was.pending c.join.new.self was.invariant c.after.ensures c.start.ensures c.in_ok-join.ensures.ok
