use Rattle.study_commands.proofs.{Words.{length, range_with_len, dealt_of, warning_of, warning_of_dealt}, AddedItems.{added}}
use Rattle.study_commands.proofs.warning.push_dealt_warnings.Goals as goal

pub loop-each-preserved : goal.loop-each-preserved
loop-each-preserved c = λ tables are.
    added (warning_of_dealt (range_with_len c.args.begin (length c.args.runs.now)) tables) dealt_of c.args.dealt.now
    c.loop-each.each-index c.each-item.result c.loop-each-test.true c.each-item.is warning_of c.args.all.now.items
    c.loop-each.all.items c.push_some.new.all.items c.in_ok-dealt_warning.field-0 c.in_ok-push_some.ensures
    (c.loop-each.invariant tables are) (c.in_ok-dealt_warning.ensures tables are)
