use Rattle.std.proofs.{Common.{rules, ◌≡◌, ◌%◌, ◌<◌, All, map, eqb, subst, sym, ℕ}, lemmas.List.Filters.{dedup_is}}
use Rattle.study_commands.proofs.Phases.{are_phases, phases_low}
use Rattle.study_commands.proofs.spread.phases_of.Goals as goal

pub returns-clause-phases : goal.returns-clause-phases
returns-clause-phases c =
    let taken : c.in_ok-phases.phases.items ≡ map (λ t. t % c.args.period) c.args.ticks.now = search rules in
    are_phases c.args.period c.args.ticks.now c.in_ok-phases.phases.items c.sort_unstable.new.self.items c.dedup.new.self.items
    c.requires taken c.sort_unstable.ensures.permutation c.sort_unstable.ensures.sorted
    (dedup_is eqb c.sort_unstable.new.self.items c.dedup.new.self.items c.dedup.ensures.filtered)

pub returns-clause-low : goal.returns-clause-low
returns-clause-low c =
    let taken : c.in_ok-phases.phases.items ≡ map (λ t. t % c.args.period) c.args.ticks.now = search rules in
    let are =
    are_phases c.args.period c.args.ticks.now c.in_ok-phases.phases.items c.sort_unstable.new.self.items c.dedup.new.self.items
    c.requires taken c.sort_unstable.ensures.permutation c.sort_unstable.ensures.sorted
    (dedup_is eqb c.sort_unstable.new.self.items c.dedup.new.self.items c.dedup.ensures.filtered) in
    subst (All (λ (x : ℕ). x < c.args.period)) (sym are) (phases_low c.args.period c.args.ticks.now)
