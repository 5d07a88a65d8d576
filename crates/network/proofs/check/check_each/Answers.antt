use Rattle.network.proofs.{Basics.{◌≡◌, ◌∙◌, ap, sym, subst, take, arith, rules, All, filter_map, take_all, All-push, as_table, view, table_view, tables_of, one_there, none_there, IsTableOf}, ArrayTables.{table_numbered}}
use Rattle.network.proofs.check.check_each.Goals as goal

pub loop-i-preserved-in_default : goal.loop-i-preserved-in_default
loop-i-preserved-in_default c =
    let same = none_there (λ v. as_table (view v)) c.args.tables.now c.loop-i.i c.index-tables-i.result c.loop-i-test.true c.index-tables-i.is (rw c.in_default.is at c.as_table.ensures) in
    subst (All (IsTableOf c.args.kind)) (sym same) c.loop-i.invariant

pub returns-in_err-check_table-clause-err : goal.returns-in_err-check_table-clause-err
returns-in_err-check_table-clause-err c = λ file same.
    let there = table_numbered c.args.tables.now c.loop-i.i c.index-tables-i.result (table_view c.in-Some.table.now) c.requires c.loop-i-test.true c.index-tables-i.is (rw c.in-Some.is at c.as_table.ensures) in
    let refuses = c.in_err-check_table.ensures.err file (rw same there) in
    search (rules, refuses)

pub loop-i-preserved : goal.loop-i-preserved
loop-i-preserved c =
    let one = one_there (λ v. as_table (view v)) c.args.tables.now c.loop-i.i c.index-tables-i.result c.loop-i-test.true c.index-tables-i.is (table_view c.in-Some.table.now) (rw c.in-Some.is at c.as_table.ensures) in
    subst (All (IsTableOf c.args.kind)) (sym one)
    (All-push (IsTableOf c.args.kind) (filter_map (λ v. as_table (view v)) (take c.loop-i.i c.args.tables.now)) (table_view c.in-Some.table.now) c.loop-i.invariant c.in_ok-check_table.ensures.ok)

pub returns-clause-ok : goal.returns-clause-ok
returns-clause-ok c =
    let all : take c.loop-i.i c.args.tables.now ≡ c.args.tables.now = take_all c.loop-i.i c.args.tables.now (omega arith) in
    subst (All (IsTableOf c.args.kind)) (ap (filter_map (λ v. as_table (view v))) all ∙ sym (tables_of c.args.tables.now)) c.loop-i.invariant
