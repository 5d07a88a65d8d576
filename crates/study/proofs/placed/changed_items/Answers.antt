use Rattle.study.proofs.{Basics.{◌≡◌, ◌∙◌, ◌+◌, ap, sym, subst, drop, [], ◌∷◌, ◌++◌, rules, table, view, table_view, items_view, view-Table, put_in_each}, KeyNames.{carried}, Placing.{after, put_fails, put_more, put_all}}
use Rattle.study.specs.Placed.{IsRefused}
use Rattle.toml.specs.declared.value.Value.TheVariants.{Table}
use Rattle.study.proofs.placed.changed_items.Goals as goal

pub returns-in_err-copy-clause-err : goal.returns-in_err-copy-clause-err
returns-in_err-copy-clause-err c =
    let all = put_in_each c.args.key.now (view c.args.value.now) (items_view c.args.items.now) in
    carried (IsRefused all) c.from_residual.result c.in_err-copy.field-0.0 c.from_residual.ensures.1
    (λ other. put_fails c.args.key.now (view c.args.value.now) c.args.items.now c.loop-item.item-index c.item-item.result
    c.loop-item.changed.items c.in_err-copy.field-0.0 all c.loop-item-test.true c.item-item.is
    (c.in_err-copy.ensures.err other) c.loop-item.invariant)

pub loop-item-preserved : goal.loop-item-preserved
loop-item-preserved c =
    let key = c.args.key.now in
    let value = view c.args.value.now in
    let items = c.args.items.now in
    let all = put_in_each key value (items_view items) in
    let set = Table c.set_here.new.table in
    let pushed : c.push.new.self.items ≡ c.loop-item.changed.items ++ (set ∷ []) = search rules in
    let more = put_more key value items c.loop-item.item-index c.item-item.result c.loop-item.changed.items set
    (table_view c.in_ok-copy.copy) all c.loop-item-test.true c.item-item.is c.in_ok-copy.ensures.ok
    (view-Table c.set_here.new.table ∙ ap table c.in_ok-set_here.ensures.ok) c.loop-item.invariant in
    subst (λ vs. after vs (put_in_each key value (items_view (drop (c.loop-item.item-index + 1) items))) ≡ all) (sym pushed) more

pub returns-clause-ok : goal.returns-clause-ok
returns-clause-ok c =
    put_all c.args.key.now (view c.args.value.now) c.args.items.now c.loop-item.item-index
    c.loop-item.changed.items _ c.loop-item-test.false c.loop-item.invariant
