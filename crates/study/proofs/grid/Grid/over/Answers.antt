use Rattle.study.proofs.{Basics.{◌≡◌, ◌∙◌, ap, sym, map, choices, GridRecord, paths_of, keys_of}, Points.{first_keys}}
use Rattle.study.proofs.grid.Grid.over.Goals as goal

pub returns-clause-keys : goal.returns-clause-keys
returns-clause-keys c =
    let its : map choices c.self.inside.over.items ≡ c.args.self.now.over = ap (λ (g : GridRecord). g.over) c.self.view_is in
    ap paths_of c.deref.ensures.value ∙ (sym (first_keys c.self.inside.over.items) ∙ ap keys_of its)
