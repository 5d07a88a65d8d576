use Rattle.deques.proofs.{Words.{◌≡◌, ◌-◌, refl, sym, ap, ◌∙◌, subst, map, flat_map, RestView, deques_of, CameBack}, Deals.{from_deque, deque_of, stolen_by, dealt_deques, rest_at, came_back, counts_back}}
use Rattle.deques.proofs.dealing.Rest.take_back.Goals as goal

pub take_all_back-requires-clause-deques : goal.take_all_back-requires-clause-deques
take_all_back-requires-clause-deques g c =
    c.requires.deques ∙ ap (λ (r : RestView _). deques_of r.own) (sym c.self.view_is) ∙ dealt_deques c.self.inside.owners.items

pub invariant_of-self : goal.invariant_of-self
invariant_of-self g c =
    let same : map from_deque c.args.permits.items ≡ map deque_of c.self.inside.owners.items = c.requires.deques ∙ ap (λ (r : RestView _). deques_of r.own) (sym c.self.view_is) ∙ dealt_deques c.self.inside.owners.items in
    counts_back c.self.inside.out _ c.self.inside.owners.items c.take_all_back.new.owners.items c.args.permits.items refl same c.take_all_back.ensures c.self.invariant

pub returns : goal.returns
returns g c =
    let same : map from_deque c.args.permits.items ≡ map deque_of c.self.inside.owners.items = c.requires.deques ∙ ap (λ (r : RestView _). deques_of r.own) (sym c.self.view_is) ∙ dealt_deques c.self.inside.owners.items in
    subst (λ v. CameBack v (rest_at c.take_all_back.new.owners.items (c.self.inside.out - 1)) (flat_map stolen_by c.args.permits.items)) c.self.view_is
    (came_back c.self.inside.owners.items c.take_all_back.new.owners.items c.args.permits.items c.self.inside.out same c.take_all_back.ensures)
