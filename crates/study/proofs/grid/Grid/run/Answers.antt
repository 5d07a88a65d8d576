use Rattle.study.proofs.{Basics.{◌≡◌, ◌∙◌, ap, sym, subst, ◌++◌, [], ◌+◌, ◌/◌, ◌%◌, ◌<◌, map, length, get_or, arith, chosen, GridRecord, runs}, Points.{ways, shown, mix_within, run_is, made}}
use Rattle.study.proofs.grid.Grid.run.Goals as goal

pub pick_combination-requires-clause-within : goal.pick_combination-requires-clause-within
pick_combination-requires-clause-within c =
    let g = c.self.inside in
    let grid = shown g.vary.items g.over.items g.deal.items g.first_seed g.seeds in
    let within : c.args.number < length (runs grid) =
    subst (λ (h : GridRecord). c.args.number < length (runs h)) (sym c.self.view_is) c.requires in
    omega (arith, c.self.invariant.mixes, mix_within grid c.args.number c.self.invariant.seeds_low within)

pub returns : goal.returns
returns c =
    let g = c.self.inside in
    let grid = shown g.vary.items g.over.items g.deal.items g.first_seed g.seeds in
    let within : c.args.number < length (runs grid) =
    subst (λ (h : GridRecord). c.args.number < length (runs h)) (sym c.self.view_is) c.requires in
    let settings = map chosen c.pick_combination-2.new.picked.items in
    let mix = get_or (ways g.over.items) (c.args.number / g.seeds) [] in
    let both : settings ≡ mix ++ get_or (ways g.deal.items) (c.args.number % g.seeds % g.deals) [] =
    c.in_ok-pick_combination-2.ensures
    ∙ (ap (λ xs. xs ++ get_or (ways c.deref-2.result.now) (c.args.number % g.seeds % g.deals) [])
    (c.in_ok-pick_combination.ensures
    ∙ (ap (λ xs. map chosen xs ++ get_or (ways c.deref.result.now) (c.args.number / g.seeds) []) c.new-settings.ensures.items
    ∙ ap (λ axes. get_or (ways axes) (c.args.number / g.seeds) []) c.deref.ensures.value))
    ∙ ap (λ axes. mix ++ get_or (ways axes) (c.args.number % g.seeds % g.deals) []) c.deref-2.ensures.value) in
    let seed = g.first_seed + c.args.number % g.seeds in
    subst (λ (h : GridRecord). made settings seed ≡ get_or (runs h) c.args.number (made settings seed)) c.self.view_is
    (run_is grid c.args.number g.deals settings c.self.invariant.seeds_low within c.self.invariant.deals both)
