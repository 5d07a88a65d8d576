use Rattle.network.proofs.{Basics.{◌≡◌, ◌∙◌, ap, sym, subst, take, arith, AllZip, filter_map, take_all, as_table, view, table_view, tables_of, one_there, none_there}, ArrayTables.{AllZip-more}}
use Rattle.network.proofs.read.read_each.Goals as goal

pub loop-value-preserved-in_default : goal.loop-value-preserved-in_default
loop-value-preserved-in_default g c =
    let same = none_there (λ v. as_table (view v)) c.args.values.now c.loop-value.value-index c.value-item.result c.loop-value-test.true c.value-item.is (rw c.in_default.is at c.as_table.ensures) in
    subst (λ ts. AllZip g.T.OfTable.says ts c.loop-value.found.items) (sym same) c.loop-value.invariant

pub loop-value-preserved : goal.loop-value-preserved
loop-value-preserved g c =
    let one = one_there (λ v. as_table (view v)) c.args.values.now c.loop-value.value-index c.value-item.result c.loop-value-test.true c.value-item.is (table_view c.in-Some.table.now) (rw c.in-Some.is at c.as_table.ensures) in
    let zip = AllZip-more g.T.OfTable.says (filter_map (λ v. as_table (view v)) (take c.loop-value.value-index c.args.values.now)) c.loop-value.found.items (table_view c.in-Some.table.now) c.in_ok-of_table.field-0 c.loop-value.invariant c.in_ok-of_table.ensures in
    rw (one, c.in_ok-push.ensures.items) zip

pub returns : goal.returns
returns g c =
    let all : take c.loop-value.value-index c.args.values.now ≡ c.args.values.now = take_all c.loop-value.value-index c.args.values.now (omega arith) in
    subst (λ ts. AllZip g.T.OfTable.says ts c.loop-value.found.items) (ap (filter_map (λ v. as_table (view v))) all ∙ sym (tables_of c.args.values.now)) c.loop-value.invariant
