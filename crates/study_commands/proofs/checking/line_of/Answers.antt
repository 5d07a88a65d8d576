use Rattle.study_commands.proofs.checking.line_of.Goals as goal

pub returns : goal.returns
returns c = rw (c.in_ok-windows.ensures, c.in_ok-more.ensures) at c.format.ensures.ok
