use Rattle.command_line.proofs.{Basics.{rules, found_of, rows_of}, Words.{lacks_window, lacks_workers}}
use Rattle.command_line.proofs.order.read_compare.Goals as goal

pub returns-in_err-workers-clause-missing : goal.returns-in_err-workers-clause-missing
returns-in_err-workers-clause-missing c none asked = (lacks_workers (rows_of (found_of c.args.found.now)) (c.number_at.ensures.missing (search rules)) asked).1

pub returns-in_err-window-clause-missing : goal.returns-in_err-window-clause-missing
returns-in_err-window-clause-missing c none asked = (lacks_window (rows_of (found_of c.args.found.now)) (c.number_at-2.ensures.missing (search rules)) asked).1
