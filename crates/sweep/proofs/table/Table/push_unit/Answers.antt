use Rattle.sweep.proofs.{Words.{rules, ◌<◌, ◌≤◌, length, min, get_or, ap, ◌∙◌, arith}, Grouped.{rows_more, rows_all}}
use Rattle.sweep.proofs.table.Table.push_unit.Goals as goal

pub loop-place-preserved : goal.loop-place-preserved
loop-place-preserved c =
    let layout = c.args.layout.now in
    let i = c.loop-place.place in
    let group = c.index-groups-place.result in
    let s = c.index-its-place.result in
    let some = ap length c.groups-groups.ensures in
    let lt : i < min (length layout.groups) (length c.args.sums.now.groups.items) =
    omega (arith, c.loop-place-test.true, c.min-place-end.ensures, some, ap length c.groups-its.ensures) in
    record {
      between = search rules;
      low = omega (arith, lt);
      rows = rows_more layout c.args.grid.now c.args.unit c.args.sums.now i group s c.args.self.now c.loop-place.self c.push_group.new.self (omega (arith, lt))
          (c.index-groups-place.is ∙ ap (λ l. get_or l i group) c.groups-groups.ensures) (c.index-its-place.is ∙ ap (λ l. get_or l i s) c.groups-its.ensures)
          c.loop-place.invariant.rows c.in_ok-push_group.ensures.text;
    }

pub returns-clause-text : goal.returns-clause-text
returns-clause-text c =
    let inv = c.loop-place.invariant in
    let past : min (length c.args.layout.now.groups) (length c.args.sums.now.groups.items) ≤ c.loop-place.place =
    omega (arith, c.loop-place-test.false, c.min-place-end.ensures, ap length c.groups-groups.ensures, ap length c.groups-its.ensures) in
    rows_all c.args.layout.now c.args.grid.now c.args.unit c.args.sums.now c.loop-place.place c.args.self.now c.loop-place.self (omega (arith, inv.low)) past inv.rows
