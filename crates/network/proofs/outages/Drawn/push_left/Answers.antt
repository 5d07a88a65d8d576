use Rattle.network.proofs.{Basics.{◌≡◌, ◌∙◌, ap, sym, ◌++◌, [], append-nil, option_to_list, on_each}, Adding.{none_each}}
use Rattle.network.proofs.outages.Drawn.push_left.Goals as goal

pub returns-in-None-clause-ok : goal.returns-in-None-clause-ok
returns-in-None-clause-ok c =
    let old = c.args.self.now in
    let links = c.args.links.now in
    let none : on_each links (option_to_list c.args.left) ≡ [] = ap (λ left. on_each links (option_to_list left)) c.in-None.is ∙ none_each links in
    sym (ap (λ xs. old ++ xs) none ∙ append-nil old)
