use Rattle.study_line.proofs.Basics.{◌≡◌, ◌∙◌, ◌||◌, ap, IfOk-at_ok, IfOk-weaker, app_of, rule_of, with_rule, IsLocal}
use Rattle.study_line.proofs.command.with_argument.Goals as goal

pub returns : goal.returns
returns c app rule has made =
    let old = IfOk-at_ok (λ m. (app_of m ≡ app) × IsLocal m) c.in_ok-command.was made in
    IfOk-weaker c.arg.result _ _ (λ r adds. (
      adds.shape has.1 ∙ ap (λ a. with_rule a (rule_of c.args.argument)) old.0 ∙ ap (with_rule app) has.0,
      adds.globals ∙ ap (λ b. b || c.args.argument.global) old.1 ∙ has.1,
    ))
    c.arg.ensures
