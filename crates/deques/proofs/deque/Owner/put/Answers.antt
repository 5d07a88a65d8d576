use Rattle.deques.proofs.Words.{[], ◌∷◌, ◌∙◌, ap, refl, has_put, puts, OwnerView}
use Rattle.deques.proofs.deque.Owner.put.Goals as goal

pub push_as-requires-clause-pushes : goal.push_as-requires-clause-pushes
push_as-requires-clause-pushes g c =
    λ items views b at. (has_put _ (c.args.item ∷ []), puts _ _ (c.args.item ∷ []) c.self.invariant.2 (ap (λ (o : OwnerView _). o.told) c.self.view_is ∙ c.requires) items views b at, refl)
