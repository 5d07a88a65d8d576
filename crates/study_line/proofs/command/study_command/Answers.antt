use Rattle.study_line.proofs.command.study_command.Goals as goal

pub returns : goal.returns
returns c =
    c.with_argument.ensures _ _ c.repeated_option.ensures (c.with_argument-command-4.ensures _ _ c.option-3.ensures
    (c.with_argument-command-3.ensures _ _ c.option-2.ensures
    (c.with_argument-command-2.ensures _ _ c.threads_option.ensures
    (c.with_argument-command.ensures _ _ c.option.ensures c.grid_command-command.ensures))))
