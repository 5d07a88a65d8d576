use Rattle.study_commands.proofs.Words.{◌∙◌, ap, sym, IfOk-weaker, warning_of, warning_line}
use Rattle.study_commands.proofs.warning_line.line_of.Goals as goal

pub returns-in-Unused : goal.returns-in-Unused
returns-in-Unused c =
    IfOk-weaker c.unused_line.result _ _
    (λ s is. is ∙ ap (λ w. warning_line c.args.grid.now c.args.of (warning_of w)) (sym c.in-Unused.is))
    c.unused_line.ensures
