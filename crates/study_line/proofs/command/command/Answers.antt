use Rattle.study_line.proofs.Basics.{◌≡◌, rules, app_of, IsLocal, top_app}
use Rattle.study_line.proofs.command.command.Goals as goal

pub returns : goal.returns
returns c =
    let begun : app_of c.subcommand_required-command.result ≡ top_app = search rules in
    let local : IsLocal c.subcommand_required-command.result = search rules in
    c.with_command.ensures _ _ (c.with_command-command-4.ensures _ _ (c.with_command-command-3.ensures _ _
    (c.with_command-command-2.ensures _ _
    (c.with_command-command.ensures _ _ (begun, local) c.study_command-check.ensures)
    c.path_command-letters.ensures) c.draw_command.ensures) c.show_command.ensures) c.study_command-sweep.ensures
