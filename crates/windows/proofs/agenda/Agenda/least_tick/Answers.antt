use Rattle.windows.proofs.{Words.{map, subst, sym, ap, ◌∙◌, Option, ℕ, MatchOption, Events, event_of, IsEmpty, IsLeastTick, earlier_of, all_ahead, all_in, in_box}, Agendas.{all_inside, are_inside, least_joined, tick_of_letters}}
use Rattle.windows.proofs.agenda.Agenda.least_tick.Goals as goal

-- the least tick of a set, if there is one
abbrev IsLeastOf : Events → Option ℕ → Type 0
IsLeastOf m tick = MatchOption tick (IsEmpty m) (λ t. IsLeastTick m t)

pub returns : goal.returns
returns c =
    let i = c.deref.result.now in
    let a = i.lists in
    let xs = in_box i.inbox in
    let least = least_joined (map event_of xs) (all_in a) _ (least_joined a.later.items a.row _ c.least_tick.ensures) in
    let is = c.earlier-2.ensures
    ∙ (λ i. earlier_of ((c.earlier.ensures ∙ ap (earlier_of c.least_tick.result) (are_inside _ _ c.deref.ensures c.self.invariant).0.next) i) ((c.soonest_of.ensures ∙ sym (tick_of_letters xs)) i)) in
    subst (λ m. IsLeastOf m c.earlier-2.result) (all_inside _ _ c.deref.ensures ∙ c.self.view_is) (subst (IsLeastOf (all_ahead a i.inbox)) (sym is) least)
