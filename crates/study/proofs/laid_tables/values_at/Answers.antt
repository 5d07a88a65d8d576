use Rattle.study.proofs.{Basics.{◌≡◌, ◌∙◌, None, Some, option_map, map, ap, sym, subst, get_member, view, table_view, view-Array, HasValues}, LaidTables.{nothing_there, no_tables, tables_there}}
use Rattle.study.proofs.laid_tables.values_at.Goals as goal

pub returns-in_default-clause-some : goal.returns-in_default-clause-some
returns-in_default-clause-some c =
    let key = c.args.key.now in
    let t = table_view c.args.table.now in
    let none : get_member key t ≡ None = sym c.value_at.ensures ∙ ap (option_map (λ v. view v.now)) c.in_default.is in
    subst (λ vs. HasValues key (map view vs) t) (sym c.new.ensures.items) (nothing_there key t none)

pub returns-then-not-takes-clause-none : goal.returns-then-not-takes-clause-none
returns-then-not-takes-clause-none c =
    let key = c.args.key.now in
    let t = table_view c.args.table.now in
    let there : get_member key t ≡ Some (view c.in-Some.value.now) =
    sym c.value_at.ensures ∙ ap (option_map (λ v. view v.now)) c.in-Some.is in
    no_tables key t (view c.in-Some.value.now) there (sym c.takes.ensures ∙ c.if-not-takes.true)

pub returns-in-Ok-Array-clause-some : goal.returns-in-Ok-Array-clause-some
returns-in-Ok-Array-clause-some c =
    let key = c.args.key.now in
    let t = table_view c.args.table.now in
    let there : get_member key t ≡ Some (view c.in-Some.value.now) =
    sym c.value_at.ensures ∙ ap (option_map (λ v. view v.now)) c.in-Some.is in
    subst (λ v. HasValues key (map view v.items) t) (sym c.in-Ok-Array.values-is)
    (tables_there key t (view c.in-Some.value.now) c.in-Ok-Array.values.items there
    (sym c.takes.ensures ∙ c.if-not-takes.false)
    (sym c.in-Ok-Array.ensures.cases ∙ (ap view c.in-Ok-Array.field-0-is ∙ view-Array c.in-Ok-Array.values)))
