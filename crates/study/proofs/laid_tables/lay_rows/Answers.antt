use Rattle.study.proofs.Basics.{◌≡◌, ◌∙◌, ◌++◌, ◌==◌, IfNone, IfSome, map, filter, not, ap, sym, subst, rules, length-map, on_ok_weaker, view, table_view, view-Array, is_laid, StaysAsItIs, HasValues, put}
use Rattle.study.proofs.LaidTables.{none_laid, rows_stay, rows_laid}
use Rattle.study.proofs.laid_tables.lay_rows.Goals as goal

pub returns-then-is_empty-clause-ok : goal.returns-then-is_empty-clause-ok
returns-then-is_empty-clause-ok g c =
    none_laid c.args.key.now c.args.laid.now (map g.R.Row.said c.args.rows.now) (table_view c.args.table.now)
    (ap (λ n. n == 0) (length-map c.args.rows.now g.R.Row.said) ∙ (sym c.is_empty.ensures ∙ c.if-is_empty.true))

pub returns-in_default-clause-ok : goal.returns-in_default-clause-ok
returns-in_default-clause-ok g c =
    let key = c.args.key.now in
    let t = table_view c.args.table.now in
    let as_it_is : StaysAsItIs key t =
    subst (λ o. IfNone o (StaysAsItIs key t)) c.in_default.is c.in_ok-values.ensures.none in
    rows_stay key c.args.laid.now (map g.R.Row.said c.args.rows.now) t
    (ap (λ n. n == 0) (length-map c.args.rows.now g.R.Row.said) ∙ (sym c.is_empty.ensures ∙ c.if-is_empty.false)) as_it_is

pub returns-clause-ok : goal.returns-clause-ok
returns-clause-ok g c =
    let key = c.args.key.now in
    let t = table_view c.args.table.now in
    let laid = c.args.laid.now in
    let rows = map g.R.Row.said c.args.rows.now in
    let has : HasValues key (map view c.in-Some.values.items) t =
    subst (λ o. IfSome o (λ v. HasValues key (map view v.items) t)) c.in-Some.is c.in_ok-values.ensures.some in
    let others : map view c.in_ok-others.others.items
    ≡ filter (λ d. not (is_laid laid d)) (map view c.deref.result.now) = search rules in
    let made : map view c.push_rows.new.values.items
    ≡ filter (λ d. not (is_laid laid d)) (map view c.in-Some.values.items) ++ rows =
    c.in_ok-push_rows.ensures.ok ∙ ap (λ ds. ds ++ rows)
    (others ∙ ap (λ vs. filter (λ d. not (is_laid laid d)) (map view vs)) c.deref.ensures.value) in
    on_ok_weaker c.put.result (λ is.
    is ∙ (ap (λ v. put key v t) (view-Array c.push_rows.new.values)
    ∙ rows_laid key laid rows t c.in-Some.values.items c.push_rows.new.values.items
    (ap (λ n. n == 0) (length-map c.args.rows.now g.R.Row.said) ∙ (sym c.is_empty.ensures ∙ c.if-is_empty.false)) has made))
    c.put.ensures.ok
