use Rattle.pending_events.proofs.{Words.{◌∙◌, Some, ap, refl, all_in}, Parted.{row_taken}}
use Rattle.pending_events.proofs.pending.Pending.take_least.Goals as goal

pub invariant_of-self : goal.invariant_of-self
invariant_of-self c = (row_taken c.self.invariant refl (Some c.in-Some.least) c.take_least.new.self (λ none. absurd (none _ _ c.in-Some.ensures.least.there)) c.in-Some.ensures.least c.in-Some.ensures.removed).0

pub returns-in-Some : goal.returns-in-Some
returns-in-Some c =
    let n = row_taken c.self.invariant c.self.view_is (Some c.in-Some.least) c.take_least.new.self (λ none. absurd (none _ _ c.in-Some.ensures.least.there)) c.in-Some.ensures.least c.in-Some.ensures.removed in
    record { least = n.1.0; removed = n.1.1 }

pub invariant_of-self-2 : goal.invariant_of-self-2
invariant_of-self-2 c = (row_taken c.fill.ensures.parted refl c.take_least-2.result c.take_least-2.new.self c.in_ok-fill.ensures.left c.take_least-2.ensures.least c.take_least-2.ensures.removed).0

pub returns : goal.returns
returns c =
    let n = row_taken c.fill.ensures.parted (c.in_ok-fill.ensures.same ∙ (ap (λ m. all_in m c.self.inside.later) c.in_default.ensures.removed ∙ c.self.view_is)) c.take_least-2.result c.take_least-2.new.self c.in_ok-fill.ensures.left c.take_least-2.ensures.least c.take_least-2.ensures.removed in
    record { least = n.1.0; removed = n.1.1 }
