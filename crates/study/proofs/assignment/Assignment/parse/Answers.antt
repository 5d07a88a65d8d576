use Rattle.std.proofs.lemmas.Grind.{common_steps}
use Rattle.study.proofs.{Basics.{◌≡◌, ◌∙◌, [], None, arith, length, sym, subst, lit<, eqb-true, split_parts, path_of, SaysKey, SaysNoKey}, Parts.{has_not, split_has, nothing}}
use Rattle.study.specs.SetWords.{no_equals, no_key, no_value}
use Rattle.study.proofs.assignment.Assignment.parse.Goals as goal

pub returns-in-None-clause-err : goal.returns-in-None-clause-err
returns-in-None-clause-err c other =
    no_equals (has_not 61 c.args.words.now (split_parts 61 c.args.words.now None c.in-None.ensures.cases (lit< tt)))

pub returns-in-Err-clause-err : goal.returns-in-Err-clause-err
returns-in-Err-clause-err c other =
    let split = split_has 61 c.args.words.now c.in-Some.parts c.in-Some.ensures.cases (lit< tt) in
    no_key split.0 (subst (λ k. SaysNoKey k c.in-Err.error) split.1 c.in-Err.ensures.err)

pub returns-then-is_empty-clause-err : goal.returns-then-is_empty-clause-err
returns-then-is_empty-clause-err c other =
    let split = split_has 61 c.args.words.now c.in-Some.parts c.in-Some.ensures.cases (lit< tt) in
    let none : c.in-Some.parts.1.now ≡ [] =
    nothing c.in-Some.parts.1.now (eqb-true (length c.in-Some.parts.1.now) 0 (sym c.is_empty.ensures ∙ c.if-is_empty.true)) in
    no_value (path_of c.in-Ok.key) split.0 (subst (λ k. SaysKey k (path_of c.in-Ok.key)) split.1 c.in-Ok.ensures.ok)
    (sym split.2 ∙ none)

pub returns-clause-ok : goal.returns-clause-ok
returns-clause-ok c = grind (arith, common_steps)
