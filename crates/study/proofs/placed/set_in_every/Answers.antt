use Rattle.study.proofs.{Basics.{◌≡◌, ◌≢◌, ◌∙◌, ◌≤◌, Ok, ap, sym, subst, length, vec_len, arith, eqb-false, on_ok_weaker, view, table_view, items_view, view-Array, put, put_in_each}, Placing.{every_set}}
use Rattle.study.proofs.placed.set_in_every.Goals as goal

pub returns-clause-ok : goal.returns-clause-ok
returns-clause-ok c =
    let d = view c.args.value.now in
    let items = c.in_ok-items.items in
    let differs : vec_len items ≢ 0 = eqb-false (vec_len items) 0 (sym c.is_empty.ensures ∙ c.if-is_empty.false) in
    let some : 1 ≤ length items.items = omega (arith, items.ok.0) in
    let each = subst (λ vs. put_in_each c.args.key.now d (items_view vs) ≡ Ok (items_view c.in_ok-changed.changed.items))
    c.deref.ensures.value c.in_ok-changed.ensures.ok in
    on_ok_weaker c.put.result (λ is. every_set c.args.key.now c.args.array.now d (table_view c.args.table.now)
    (table_view c.put.new.table) items.items c.in_ok-changed.changed.items c.in_ok-items.ensures.ok some each
    (is ∙ ap (λ v. put c.args.array.now v (table_view c.args.table.now)) (view-Array c.in_ok-changed.changed))) c.put.ensures.ok
