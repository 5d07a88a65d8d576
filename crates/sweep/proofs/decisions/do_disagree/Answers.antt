use Rattle.sweep.proofs.{Words.{◌≡◌, ◌++◌, None, list_any, Outcome, decided_value, differ, [], cons_option, ap, ◌∙◌, rules}, Single.{first_differs, gathered_more}}
use Rattle.sweep.proofs.decisions.do_disagree.Goals as goal

pub loop-one-preserved : goal.loop-one-preserved
loop-one-preserved c =
    let none : decided_value c.one-item.result.value ≡ None = search rules in
    gathered_more (λ (o : Outcome). decided_value o.value) c.args.outcomes.now c.loop-one.one-index c.one-item.result c.loop-one-test.true c.one-item.is
    ∙ (λ i. c.loop-one.invariant i ++ cons_option (none i) [])

pub returns-in-Value : goal.returns-in-Value
returns-in-Value c =
    c.is_contradicted.ensures
    ∙ ap (λ d. list_any (λ (o : Outcome). differ d (decided_value o.value)) c.args.outcomes.now) (ap decided_value c.in-Value.is)
    ∙ first_differs (λ (o : Outcome). decided_value o.value) c.args.outcomes.now c.loop-one.one-index c.one-item.result c.in-Value.field-0
    c.loop-one-test.true c.one-item.is (ap decided_value c.in-Value.is) c.loop-one.invariant
