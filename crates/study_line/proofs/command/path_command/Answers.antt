use Rattle.study_line.proofs.Basics.{◌≡◌, rules, app_of, new_app, IsLocal, path_rule}
use Rattle.study_line.proofs.command.path_command.Goals as goal

pub returns : goal.returns
returns c =
    let app = new_app c.args.name.now in
    let begun : app_of c.after_help-command.result ≡ app = search rules in
    let local : IsLocal c.after_help-command.result = search rules in
    c.with_argument.ensures _ _ c.repeated_option.ensures (c.with_argument-command-2.ensures _ _ c.option.ensures
    (c.with_argument-command.ensures app path_rule c.path_argument.ensures (begun, local)))
