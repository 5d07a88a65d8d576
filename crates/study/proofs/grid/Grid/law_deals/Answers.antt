use Rattle.study.proofs.{Basics.{◌≡◌, ◌∙◌, ap, sym, arith, ◌%◌, length, combinations, GridRecord}, Points.{own_seeds, dealt_evenly}}
use Rattle.study.proofs.grid.Grid.law_deals.Goals as goal

pub returns-clause-seeds : goal.returns-clause-seeds
returns-clause-seeds c =
    let seeds : c.args.self.now.seeds ≡ c.self.inside.seeds = ap (λ (g : GridRecord). g.seeds) (sym c.self.view_is) in
    own_seeds c.args.self.now (omega (arith, c.self.invariant.seeds_low))

pub returns-clause-even : goal.returns-clause-even
returns-clause-even c =
    let seeds : c.args.self.now.seeds ≡ c.self.inside.seeds = ap (λ (g : GridRecord). g.seeds) (sym c.self.view_is) in
    let deals : length (combinations c.args.self.now.deal) ≡ c.self.inside.deals =
    ap (λ (g : GridRecord). length (combinations g.deal)) (sym c.self.view_is) ∙ sym c.self.invariant.deals in
    dealt_evenly c.args.self.now (ap (λ n. n % length (combinations c.args.self.now.deal)) seeds
    ∙ (ap (λ n. c.self.inside.seeds % n) deals ∙ c.self.invariant.even))
