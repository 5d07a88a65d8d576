use Rattle.reporting.proofs.Words.{◌∙◌, ◌++◌, sym, ap, subst, cond, Some, None, [], is_some, there_where, verdicts, layer_measures, IsLayer, IsSecond}
use Rattle.reporting.proofs.telling.close_second.Goals as goal

pub returns-in_ok-verdicts-in-Some-clause-verdicts : goal.returns-in_ok-verdicts-in-Some-clause-verdicts
returns-in_ok-verdicts-in-Some-clause-verdicts c = λ listed S trace h.
    let some = there_where (IsLayer listed S 2 trace) (is_some S.share) c.in-Some.layer (subst (IsSecond listed S trace) c.in-Some.is h) in
    ap Some (c.in_ok-verdicts-in-Some.ensures.verdicts listed S 2 trace some.1) ∙ sym (ap (λ b. cond b (Some (verdicts S trace 2)) None) some.0)

pub returns-in_ok-verdicts-in-Some-clause-lengths : goal.returns-in_ok-verdicts-in-Some-clause-lengths
returns-in_ok-verdicts-in-Some-clause-lengths c = λ S trace h shared.
    c.in_ok-verdicts-in-Some.ensures.lengths S 2 trace (there_where (IsLayer _ S 2 trace) (is_some S.share) c.in-Some.layer (subst (IsSecond _ S trace) c.in-Some.is h)).1

pub returns-in_ok-verdicts-in-Some-clause-measures : goal.returns-in_ok-verdicts-in-Some-clause-measures
returns-in_ok-verdicts-in-Some-clause-measures c = λ listed S trace h.
    let some = there_where (IsLayer listed S 2 trace) (is_some S.share) c.in-Some.layer (subst (IsSecond listed S trace) c.in-Some.is h) in
    c.in_ok-verdicts-in-Some.ensures.measures listed S 2 trace some.1 ∙ sym (ap (λ b. c.args.rows.now.items ++ cond b (layer_measures S trace 2) []) some.0)
