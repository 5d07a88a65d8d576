use Rattle.study.proofs.{Basics.{◌≡◌, ◌∙◌, None, Some, false, sym, subst, map, length, lit<, length-map, split_parts, path_of, SaysKey, SayNoKeys}, KeyNames.{carried}, Parts.{has_not, split_has}, Pieces.{matched}}
use Rattle.std.specs.List.{All, AllZip}
use Rattle.study.specs.{Words.{after, between}, AxisWords.{first_fault, entries, SaysNoAxis, no_equals, no_key, no_values, is_memory}}
use Rattle.study.proofs.axis.Axis.parse.Goals as goal

pub returns-in-None-clause-err : goal.returns-in-None-clause-err
returns-in-None-clause-err c other =
    no_equals (has_not 61 c.args.words.now (split_parts 61 c.args.words.now None c.in-None.ensures.cases (lit< tt)))

pub returns-in_err-values-clause-err : goal.returns-in_err-values-clause-err
returns-in_err-values-clause-err c =
    let split = split_has 61 c.args.words.now c.in-Some.parts c.in-Some.ensures.cases (lit< tt) in
    let paths = map path_of c.in-Ok.keys.items in
    let error = c.in_err-values.field-0.0 in
    let number : c.len.result ≡ length paths =
    c.len.ensures ∙ (c.in-Ok.keys.ok.0 ∙ sym (length-map c.in-Ok.keys.items path_of)) in
    carried (λ e. is_memory e ≡ false → SaysNoAxis c.args.words.now e) c.from_residual.result error c.from_residual.ensures.1
    (λ other. no_values paths split.0 (subst (λ k. AllZip SaysKey (between 44 k) paths) split.1 c.in-Ok.ensures.ok)
    (subst (λ n. first_fault 1000000 (entries n (after 61 c.args.words.now)) ≡ Some error) number
    (subst (λ v. first_fault 1000000 (entries c.len.result v) ≡ Some error) split.2 (c.in_err-values.ensures.err other))))

pub returns-in-Err-clause-err : goal.returns-in-Err-clause-err
returns-in-Err-clause-err c other =
    let split = split_has 61 c.args.words.now c.in-Some.parts c.in-Some.ensures.cases (lit< tt) in
    no_key split.0 (subst (λ k. SayNoKeys (between 44 k) c.in-Err.error) split.1 (c.in-Err.ensures.err other))

pub invariant_of-result : goal.invariant_of-result
invariant_of-result c =
    let values = c.in_ok-values.values.items in
    record {
      keyed = c.in-Ok.ensures.some;
      some = c.in_ok-values.ensures.some;
      matched = subst (λ n. All (λ v. length v.items ≡ n) values) (c.len.ensures ∙ c.in-Ok.keys.ok.0)
          (matched c.len.result values (between 44 c.in-Some.parts.1.now) c.in_ok-values.ensures.ok.0
          c.in_ok-values.ensures.ok.1);
    }
