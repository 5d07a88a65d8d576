use Rattle.study_commands.proofs.{Words.{rules, ◌≡◌, ◌+◌, ◌<◌, false, is_no_end}, CommonLink.{one_fails}}
use Rattle.study_commands.proofs.common_link.lacks_end.Goals as goal

pub loop-to-preserved : goal.loop-to-preserved
loop-to-preserved c =
    let ends = c.args.ends.now in
    let to = c.loop-to.to in
    let low : to < c.args.processes + 1 = search rules in
    let fails : is_no_end ends c.args.from to ≡ false = search rules in
    one_fails (is_no_end ends c.args.from) c.args.processes to c.loop-to.invariant low fails
