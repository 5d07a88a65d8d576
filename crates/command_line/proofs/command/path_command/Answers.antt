use Rattle.command_line.proofs.Basics.{◌≡◌, rules, subst, app_of, new_app, with_rule, IsLocal, Makes}
use Rattle.command_line.proofs.command.path_command.Goals as goal

pub returns : goal.returns
returns c =
    let app = new_app c.args.name.now in
    let begun : app_of c.after_help-command.result ≡ app = search rules in
    let local : IsLocal c.after_help-command.result = search rules in
    subst (λ r. Makes (with_rule app r) c.with_argument.result) c.path_argument.ensures.rule
    (c.with_argument.ensures app (begun, local))
