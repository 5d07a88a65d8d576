use Rattle.network.proofs.{Basics.{◌≡◌, ◌∙◌, ap, sym, subst, true, false, Some, None, rules, IfOk, AllZip, get_member, view, items_view, table_view, key_of}, ArrayTables.{nothing_there, tables_missing, tables_there}}
use Rattle.scenario.specs.Table.{is_of, tables_at, the_tables}
use Rattle.scenario.specs.declared.field.Kind.TheVariants as kind
use Rattle.network.proofs.read.read_tables.Goals as goal

pub returns-in_default : goal.returns-in_default
returns-in_default g c =
    let there : get_member (key_of c.args.kind) (table_view c.args.file.now) ≡ None = sym (search rules) in
    rw (nothing_there (key_of c.args.kind) (table_view c.args.file.now) there, c.new.ensures.items) tt

pub returns-then-not-takes : goal.returns-then-not-takes
returns-then-not-takes g c =
    let there : get_member (key_of c.args.kind) (table_view c.args.file.now) ≡ Some (view c.in-Some.value.now) = sym (search rules) in
    let other : is_of kind.Tables (view c.in-Some.value.now) ≡ false = sym (search rules) in
    rw (tables_missing (key_of c.args.kind) (table_view c.args.file.now) (view c.in-Some.value.now) there other, c.new-then-not-takes.ensures.items) tt

pub returns : goal.returns
returns g c =
    let there : get_member (key_of c.args.kind) (table_view c.args.file.now) ≡ Some (view c.in-Some.value.now) = sym (search rules) in
    let are : is_of kind.Tables (view c.in-Some.value.now) ≡ true = sym (search rules) in
    let same : the_tables (items_view c.items_of.result.now) ≡ tables_at (key_of c.args.kind) (table_view c.args.file.now) =
    ap the_tables c.items_of.ensures ∙ sym (tables_there (key_of c.args.kind) (table_view c.args.file.now) (view c.in-Some.value.now) there are) in
    subst (λ ts. IfOk c.read_each.result (λ v. AllZip g.T.OfTable.says ts v.items)) same c.read_each.ensures
