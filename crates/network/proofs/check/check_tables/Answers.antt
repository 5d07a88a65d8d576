use Rattle.network.proofs.Basics.{◌≡◌, ◌∙◌, ◌≤◌, ap, sym, subst, length, true, Some, None, arith, rules, All, get_member, view, items_view, table_view, most_tables, items_in, key_of, IsTableOf}
use Rattle.network.proofs.{ArrayTables.{are_items, counted, tables_there}, Checked.{absent, on_ok, present}}
use Rattle.scenario.specs.Table.{all_items, is_of, is_table, tables_at, the_tables}
use Rattle.scenario.specs.declared.field.Kind.TheVariants as kind
use Rattle.network.proofs.check.check_tables.Goals as goal

pub returns-in_default-clause-ok : goal.returns-in_default-clause-ok
returns-in_default-clause-ok c =
    let there : get_member (key_of c.args.kind) (table_view c.args.file.now) ≡ None = sym (search rules) in
    absent c.args.kind (table_view c.args.file.now) there

pub returns-then-tables-gt-MOST_TABLES-clause-err : goal.returns-then-tables-gt-MOST_TABLES-clause-err
returns-then-tables-gt-MOST_TABLES-clause-err c =
    let there : get_member (key_of c.args.kind) (table_view c.args.file.now) ≡ Some (view c.in-Some.value.now) = sym (search rules) in
    let are : is_of kind.Tables (view c.in-Some.value.now) ≡ true = sym (search rules) in
    let same = tables_there (key_of c.args.kind) (table_view c.args.file.now) (view c.in-Some.value.now) there are in
    let all : all_items is_table (items_view c.items_of-tables.result.now) ≡ true = ap (all_items is_table) c.items_of-tables.ensures ∙ are_items (key_of c.args.kind) (table_view c.args.file.now) (view c.in-Some.value.now) there are in
    let long : length (tables_at (key_of c.args.kind) (table_view c.args.file.now)) ≡ length c.items_of-tables.result.now =
    ap length same ∙ (ap (λ ds. length (the_tables ds)) (sym c.items_of-tables.ensures) ∙ counted c.items_of-tables.result.now all) in
    omega (arith, long, c.if-tables-gt-MOST_TABLES.true)

pub returns-clause-ok : goal.returns-clause-ok
returns-clause-ok c =
    let there : get_member (key_of c.args.kind) (table_view c.args.file.now) ≡ Some (view c.in-Some.value.now) = sym (search rules) in
    let are : is_of kind.Tables (view c.in-Some.value.now) ≡ true = sym (search rules) in
    let items : items_view c.items_of-tables.result.now ≡ items_in (view c.in-Some.value.now) = c.items_of-tables.ensures in
    let all : all_items is_table (items_view c.items_of-tables.result.now) ≡ true = ap (all_items is_table) items ∙ are_items (key_of c.args.kind) (table_view c.args.file.now) (view c.in-Some.value.now) there are in
    let long : length (the_tables (items_in (view c.in-Some.value.now))) ≡ length c.items_of-tables.result.now =
    ap (λ ds. length (the_tables ds)) (sym items) ∙ counted c.items_of-tables.result.now all in
    let few : length (the_tables (items_in (view c.in-Some.value.now))) ≤ most_tables = omega (arith, long, c.if-tables-gt-MOST_TABLES.false) in
    on_ok c.check_each.result (λ each. present c.args.kind (table_view c.args.file.now) (view c.in-Some.value.now) there are few
    (subst (λ ds. All (IsTableOf c.args.kind) (the_tables ds)) items each)) c.check_each.ensures.ok

pub returns-clause-err : goal.returns-clause-err
returns-clause-err c =
    let there : get_member (key_of c.args.kind) (table_view c.args.file.now) ≡ Some (view c.in-Some.value.now) = sym (search rules) in
    let are : is_of kind.Tables (view c.in-Some.value.now) ≡ true = sym (search rules) in
    let same = tables_there (key_of c.args.kind) (table_view c.args.file.now) (view c.in-Some.value.now) there are in
    c.check_each.ensures.err (table_view c.args.file.now) (same ∙ ap the_tables (sym c.items_of-tables.ensures))
