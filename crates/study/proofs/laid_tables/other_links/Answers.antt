use Rattle.study.proofs.{Basics.{◌∙◌, map, view, is_laid}, LaidTables.{other_more}}
use Rattle.study.proofs.laid_tables.other_links.Goals as goal

pub loop-value-preserved : goal.loop-value-preserved
loop-value-preserved c =
    other_more c.loop-value.value-index (is_laid c.args.laid.now) c.args.values.now c.value-item.result
    (map view c.loop-value.others.items) (map view c.push_other.new.others.items) c.loop-value-test.true c.value-item.is
    c.in_ok-push_other.ensures ∙ c.loop-value.invariant
