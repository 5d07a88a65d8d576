use Rattle.run_tests.proofs.Words.{◌≡◌, ℕ, ◌*◌, ◌/◌, ◌==◌, length, map, ap, sym, ◌∙◌, arith, count_by, range_with_len, runs, turn}
use Rattle.{std.proofs.Math.Nat.{mul-div_left}, study.specs.Grid.{combinations}, study.proofs.Points.{runs_length}}
use Rattle.run_tests.proofs.sweep_tests.laws.seeds_of_each.Goals as goal

pub returns : goal.returns
returns c k within =
    let g = c.args.grid.now in
    let d : ℕ = length (combinations g.deal) in
    let count : ℕ = count_by (λ t. t == k) (map (turn g) (range_with_len 0 g.seeds)) in
    let even : count * d ≡ g.seeds = c.law_deals.ensures.even k (omega (arith, within, c.requires.dealt)) in
    let one : length (combinations g.over) ≡ 1 = ap (λ o. length (combinations o)) c.requires.alone in
    let all : length (runs g) ≡ 1 * g.seeds = runs_length g ∙ ap (λ n. n * g.seeds) one in
    let product : c.runs.result ≡ count * d = omega (arith, c.runs.ensures.value, all, even) in
    sym (ap (λ n. n / c.args.dealt) product ∙ ap (λ m. count * d / m) c.requires.dealt ∙ mul-div_left count (omega (arith, c.requires.some, c.requires.dealt)))
