use Rattle.study.proofs.{Basics.{◌≡◌, ◌∙◌, [], ap, sym, map, get_or, combinations, choices, GridRecord, paths_of}, Points.{first_keys}}
use Rattle.study.proofs.grid.Grid.varied.Goals as goal

pub returns-clause-keys : goal.returns-clause-keys
returns-clause-keys c =
    let vary : map choices c.self.inside.vary.items ≡ c.args.self.now.vary = ap (λ (g : GridRecord). g.vary) c.self.view_is in
    ap paths_of c.deref.ensures.value ∙ (sym (first_keys c.self.inside.vary.items)
    ∙ ap (λ v. map (λ x. x.path) (get_or (combinations v) 0 [])) vary)
