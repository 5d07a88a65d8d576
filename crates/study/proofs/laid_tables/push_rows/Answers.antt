use Rattle.study.proofs.{Basics.{◌≡◌, [], ◌∷◌, ◌++◌, ◌∙◌, ap, map, rules, take_all, view}, LaidTables.{row_more}}
use Rattle.study.proofs.laid_tables.push_rows.Goals as goal

pub loop-row-preserved : goal.loop-row-preserved
loop-row-preserved g c =
    let now = c.loop-row.values.items in
    let pushed : c.push.new.self.items ≡ now ++ (c.in_ok-value.value ∷ []) = search rules in
    row_more c.loop-row.row-index g.R.Row.said c.args.rows.now c.row-item.result c.args.values.now.items now
    c.push.new.self.items c.in_ok-value.value c.loop-row-test.true c.row-item.is c.in_ok-value.ensures.ok pushed
    c.loop-row.invariant

pub returns-clause-ok : goal.returns-clause-ok
returns-clause-ok g c =
    c.loop-row.invariant
    ∙ ap (λ rows. map view c.args.values.now.items ++ map g.R.Row.said rows)
    (take_all c.loop-row.row-index c.args.rows.now c.loop-row-test.false)
