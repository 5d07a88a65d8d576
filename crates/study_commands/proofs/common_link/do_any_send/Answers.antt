use Rattle.study_commands.proofs.{Words.{rules, ◌≡◌, ◌+◌, ◌<◌, false, sends_by_link}, CommonLink.{one_fails}}
use Rattle.study_commands.proofs.common_link.do_any_send.Goals as goal

pub loop-from-preserved : goal.loop-from-preserved
loop-from-preserved c =
    let pairs = c.args.pairs.now in
    let from = c.loop-from.from in
    let low : from < c.args.processes + 1 = search rules in
    let fails : sends_by_link pairs c.args.processes from ≡ false = search rules in
    one_fails (sends_by_link pairs c.args.processes) c.args.processes from c.loop-from.invariant low fails
