use Rattle.windows.proofs.{Words.{◌∙◌, ◌++◌, ◌∷◌, [], ◌<◌, ◌≤◌, ap, sym, subst, arith, Some, AllByRecursion, Event, joined, both, earlier_of, AreFrom, first_tick}, Agendas.{filed_due, filed_later, tick_more}}
use Rattle.std.specs.FinMap as events
use Rattle.windows.proofs.agenda.Parted.file.Goals as goal

pub returns-in_ok-push : goal.returns-in_ok-push
returns-in_ok-push c end es h =
    let p = c.args.self.now in
    let e : Event = c.args.event in
    let early : e.0.tick < end = omega (arith, ap (λ k. k.tick) c.key-tick.ensures, c.if-tick-self.true, h.end_is) in
    record {
      end_is = h.end_is;
      same = ap (λ due. joined events.empty (due ++ p.later.items)) c.in_ok-push.ensures.items ∙ filed_due p.due.items p.later.items es e h.same end h.from early;
      below = subst (AllByRecursion (λ f. f.0.tick < end)) (sym c.in_ok-push.ensures.items) (both (λ (f : Event). f.0.tick < end) p.due.items (e ∷ []) h.below (early, tt));
      from = h.from;
      next = h.next;
    }

pub returns-in_ok-push-2 : goal.returns-in_ok-push-2
returns-in_ok-push-2 c end es h =
    let p = c.args.self.now in
    let e : Event = c.args.event in
    let late : end ≤ e.0.tick = omega (arith, ap (λ k. k.tick) c.key-tick.ensures, c.if-tick-self.false, h.end_is) in
    record {
      end_is = h.end_is;
      same = ap (λ later. joined events.empty (p.due.items ++ later)) c.in_ok-push-2.ensures.items ∙ filed_later p.due.items p.later.items es e h.same;
      below = h.below;
      from = subst (AreFrom end) (sym c.in_ok-push-2.ensures.items) (both (λ (f : Event). end ≤ f.0.tick) p.later.items (e ∷ []) h.from (late, tt));
      next = c.earlier-self.ensures
          ∙ ((λ i. earlier_of (h.next i) (Some (c.key-tick.ensures i).tick)) ∙ (sym (tick_more p.later.items e) ∙ ap first_tick (sym c.in_ok-push-2.ensures.items)));
    }
