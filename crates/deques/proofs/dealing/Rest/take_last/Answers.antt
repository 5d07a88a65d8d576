use Rattle.deques.proofs.{Words.{rules, ◌≡◌, ◌<◌, ◌≤◌, refl, sym, ap, ◌∙◌, subst, get_or, set, length, IsPermutation, set-get_or, All-get_or, RestView, all_put, TookLast}, Deals.{Counts, rest_at, took_last, emptied_more, emptied_all}}
use Rattle.deques.proofs.dealing.Rest.take_last.Goals as goal

pub returns-in-Some : goal.returns-in-Some
returns-in-Some g c =
    let now = c.loop-at.self-inside in
    let inv = c.loop-at.invariant in
    let d = c.index_mut.result.now in
    let none : now.out ≡ 0 = inv.1 ∙ ap (λ (r : RestView _). r.out) c.self.view_is ∙ c.requires in
    let lt : c.loop-at.at < length now.owners.items = search rules in
    let here : d ≡ get_or c.self.inside.owners.items c.loop-at.at d = c.index_mut.ensures.value ∙ ap (λ l. get_or l c.loop-at.at d) inv.0 in
    let below : c.loop-at.at < length c.self.inside.owners.items = subst (λ l. c.loop-at.at < length l) inv.0 lt in
    let counts : Counts c.self.inside.out d = subst (Counts c.self.inside.out) (sym here) (All-get_or (Counts c.self.inside.out) c.self.inside.owners.items c.loop-at.at d below c.self.invariant) in
    subst (λ v. TookLast v (rest_at (set now.owners.items c.loop-at.at c.pop.new.self) now.out) c.in-Some.item) ((λ i. rest_at (inv.0 i) (inv.1 i)) ∙ c.self.view_is)
    (took_last now.owners.items _ now.out c.loop-at.at d c.pop.new.self c.in-Some.item none c.index_mut.ensures.value lt counts.1 c.in-Some.ensures refl)

pub loop-at-preserved : goal.loop-at-preserved
loop-at-preserved g c =
    let now = c.loop-at.self-inside in
    let inv = c.loop-at.invariant in
    let d = c.index_mut.result.now in
    let lt : c.loop-at.at < length now.owners.items = search rules in
    let here : d ≡ get_or c.self.inside.owners.items c.loop-at.at d = c.index_mut.ensures.value ∙ ap (λ l. get_or l c.loop-at.at d) inv.0 in
    let below : c.loop-at.at < length c.self.inside.owners.items = subst (λ l. c.loop-at.at < length l) inv.0 lt in
    let counts : Counts c.self.inside.out d = subst (Counts c.self.inside.out) (sym here) (All-get_or (Counts c.self.inside.out) c.self.inside.owners.items c.loop-at.at d below c.self.invariant) in
    let none : d.out ≡ 0 = counts.0 ∙ ap (λ (r : RestView _). r.out) c.self.view_is ∙ c.requires in (
      ap (λ p. set now.owners.items c.loop-at.at p) (c.in_default.ensures.0 ∙ c.index_mut.ensures.value) ∙ set-get_or now.owners.items c.loop-at.at d ∙ inv.0,
      inv.1,
      emptied_more c.loop-at.at c.self.inside.owners.items d inv.2 here (c.in_default.ensures.1 none),
    )

pub returns : goal.returns
returns g c =
    let inv = c.loop-at.invariant in
    let end : length c.self.inside.owners.items ≤ c.loop-at.at = search rules in (
      (λ i. rest_at (inv.0 i) (inv.1 i)) ∙ c.self.view_is,
      subst (λ (v : RestView _). IsPermutation (all_put v.own) v.taken) c.self.view_is (emptied_all c.loop-at.at c.self.inside.owners.items end inv.2),
    )
