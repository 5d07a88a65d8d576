use Rattle.windows.proofs.{Words.{◌∙◌, ◌∷◌, [], ◌<◌, ◌≤◌, ap, sym, subst, arith, Some, both, Event, Has, joined, joined_one, earlier_of, AreFrom, first_tick}, Agendas.{insert_past, of_joined, tick_more}}
use Rattle.windows.proofs.agenda.join.Goals as goal

early : (c : goal.In_ok-join) → c.args.event.0.tick < c.args.lists.now.end
early c = omega (arith, ap (λ k. k.tick) c.key-tick.ensures, c.if-tick-lists.true)

pub returns-then-tick-lists-clause-lists : goal.returns-then-tick-lists-clause-lists
returns-then-tick-lists-clause-lists c =
    let a = c.args.lists.now in
    record { below = λ k y there. of_joined a.row (c.args.event ∷ []) (λ q. q.tick < a.end) c.requires.below (early c, tt) k y (subst (λ m. Has m k y) c.in_ok-join.ensures.ok there); from = c.requires.from; next = c.requires.next }

pub returns-then-tick-lists-clause-joined : goal.returns-then-tick-lists-clause-joined
returns-then-tick-lists-clause-joined c =
    let a = c.args.lists.now in
    let e : Event = c.args.event in
    ap (λ m. joined m a.later.items) c.in_ok-join.ensures.ok ∙ insert_past a.row a.later.items a.end c.requires.from e.0 (early c) e.1

pub returns-clause-lists : goal.returns-clause-lists
returns-clause-lists c =
    let a = c.args.lists.now in
    let e : Event = c.args.event in
    let late : a.end ≤ e.0.tick = omega (arith, ap (λ k. k.tick) c.key-tick.ensures, c.if-tick-lists.false) in
    record {
      below = c.requires.below;
      from = subst (AreFrom a.end) (sym c.in_ok-push.ensures.items) (both (λ (f : Event). a.end ≤ f.0.tick) a.later.items (e ∷ []) c.requires.from (late, tt));
      next = c.earlier-lists.ensures
          ∙ ((λ i. earlier_of (c.requires.next i) (Some (c.key-tick.ensures i).tick)) ∙ (sym (tick_more a.later.items e) ∙ ap first_tick (sym c.in_ok-push.ensures.items)));
    }

pub returns-clause-joined : goal.returns-clause-joined
returns-clause-joined c =
    let a = c.args.lists.now in
    let e : Event = c.args.event in
    ap (joined a.row) c.in_ok-push.ensures.items ∙ joined_one a.row a.later.items e
