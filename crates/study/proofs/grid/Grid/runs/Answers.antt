use Rattle.study.proofs.{Basics.{◌∙◌, ap, sym, subst, ℕ, ◌*◌, ◌≤◌, length, one-le-mul, GridRecord, runs}, Points.{shown, some_ways, runs_length}}
use Rattle.study.proofs.grid.Grid.runs.Goals as goal

pub returns-clause-value : goal.returns-clause-value
returns-clause-value c =
    let g = c.self.inside in
    ap (λ n. n * g.seeds) c.self.invariant.mixes
    ∙ (sym (runs_length (shown g.vary.items g.over.items g.deal.items g.first_seed g.seeds))
    ∙ ap (λ (h : GridRecord). length (runs h)) c.self.view_is)

pub returns-clause-low : goal.returns-clause-low
returns-clause-low c =
    one-le-mul (subst (λ (n : ℕ). 1 ≤ n) (sym c.self.invariant.mixes) (some_ways c.self.inside.over.items))
    c.self.invariant.seeds_low
