use Rattle.study_line.proofs.command.show_command.Goals as goal

pub returns : goal.returns
returns c =
    c.with_argument.ensures _ _ c.run_option.ensures
    (c.with_argument-command.ensures _ _ c.point_option.ensures c.grid_command-command.ensures)
