use Rattle.scenario.proofs.{Words.{◌≡◌, ◌∙◌, ◌++◌, [], ◌∷◌, ap, sym, take, arith, map-append, take_all, as_table, view, table_view, tables_in}, Among.{tables_of, one_there, none_there}}
use Rattle.scenario.proofs.table.tables_among.Goals as goal

pub loop-value-preserved-in_default : goal.loop-value-preserved-in_default
loop-value-preserved-in_default c =
    c.loop-value.invariant ∙ sym (none_there (λ v. as_table (view v)) c.args.values.now c.loop-value.value-index c.value-item.result c.loop-value-test.true c.value-item.is (rw c.in_default.is at c.as_table.ensures))

pub loop-value-preserved : goal.loop-value-preserved
loop-value-preserved c =
    let one = one_there (λ v. as_table (view v)) c.args.values.now c.loop-value.value-index c.value-item.result c.loop-value-test.true c.value-item.is (table_view c.in-Some.inner.now) (rw c.in-Some.is at c.as_table.ensures) in
    ap tables_in c.in_ok-push.ensures.items
    ∙ (map-append (λ m. table_view m.now) c.loop-value.found.items (c.in-Some.inner ∷ []) ∙ (ap (λ l. l ++ table_view c.in-Some.inner.now ∷ []) c.loop-value.invariant ∙ sym one))

pub returns : goal.returns
returns c =
    let all : take c.loop-value.value-index c.args.values.now ≡ c.args.values.now = take_all c.loop-value.value-index c.args.values.now (omega arith) in
    (rw all at c.loop-value.invariant) ∙ sym (tables_of c.args.values.now)
