use Rattle.study_commands.proofs.picturing.line_of.Goals as goal

pub returns-in-Ticks : goal.returns-in-Ticks
returns-in-Ticks c = rw c.in-Ticks.is (rw c.horizon.ensures.value at c.ticks_line.ensures)
