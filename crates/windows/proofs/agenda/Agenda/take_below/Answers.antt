use Rattle.windows.proofs.{Words.{◌≡◌, ◌∙◌, ◌<◌, ap, sym, subst, map, MatchOption, event_of, IsLeast, NoneBelow, joined}, Agendas.{all_inside, are_inside, taken_below, taken_least, taken_removed}}
use Rattle.std.specs.FinMap as events
use Rattle.windows.proofs.agenda.Agenda.take_below.Goals as goal

pub settle-requires : goal.settle-requires
settle-requires g c = are_inside _ _ c.deref_mut-inner.ensures.value c.self.invariant

pub invariant_of-self-2 : goal.invariant_of-self-2
invariant_of-self-2 g c =
    let h = c.in_ok-settle.ensures.inner.0 in
    let a = c.settle.new.inner.lists in (
      record { below = taken_below a.row c.take_least.new.self a.later.items a.end h.from h.below c.take_least.result c.take_least.ensures.removed; from = h.from; next = h.next },
      c.in_ok-settle.ensures.inner.1,
    )

pub returns-clause-least : goal.returns-clause-least
returns-clause-least g c =
    let h = c.in_ok-settle.ensures.inner.0 in
    let a = c.settle.new.inner.lists in
    let r = c.take_least.result in
    subst (λ end. MatchOption r (NoneBelow end c.args.self.now) (λ e. IsLeast c.args.self.now e.0 e.1 × (e.0.tick < end))) c.in_ok-settle.ensures.settled.end_is
    (subst (λ m. MatchOption r (NoneBelow a.end m) (λ e. IsLeast m e.0 e.1 × (e.0.tick < a.end))) (c.in_ok-settle.ensures.settled.same ∙ (all_inside _ _ c.deref_mut-inner.ensures.value ∙ c.self.view_is))
    (taken_least a.row c.take_least.new.self a.later.items a.end h.from h.below r c.take_least.ensures.least))

pub returns-clause-removed : goal.returns-clause-removed
returns-clause-removed g c =
    let h = c.in_ok-settle.ensures.inner.0 in
    let a = c.settle.new.inner.lists in
    let r = c.take_least.result in
    let after = joined c.take_least.new.self a.later.items in
    let none = ap (λ l. joined after (map event_of l)) c.in_ok-settle.ensures.settled.empty in
    subst (λ n. MatchOption r (n ≡ c.args.self.now) (λ e. n ≡ events.remove c.args.self.now e.0)) (sym none)
    (subst (λ m. MatchOption r (after ≡ m) (λ e. after ≡ events.remove m e.0)) (c.in_ok-settle.ensures.settled.same ∙ (all_inside _ _ c.deref_mut-inner.ensures.value ∙ c.self.view_is))
    (taken_removed a.row c.take_least.new.self a.later.items a.end h.from h.below r c.take_least.ensures.least c.take_least.ensures.removed))
