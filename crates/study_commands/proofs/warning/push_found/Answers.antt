use Rattle.study_commands.proofs.{Words.{option_map, path_of, warning_of, unused}, AddedItems.{added}}
use Rattle.study_commands.proofs.warning.push_found.Goals as goal

pub loop-key-preserved : goal.loop-key-preserved
loop-key-preserved c =
    added (λ p. option_map (unused p) c.args.found) (λ k. path_of k.now) c.args.keys.now
    c.loop-key.key-index c.key-item.result c.loop-key-test.true c.key-item.is warning_of c.args.all.now.items
    c.loop-key.all.items c.push_some.new.all.items c.key_warning.result c.in_ok-push_some.ensures
    c.loop-key.invariant c.key_warning.ensures
