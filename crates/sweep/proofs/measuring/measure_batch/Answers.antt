use Rattle.sweep.proofs.{Words.{rules, IfOk-weaker, sources_of}, Limiting.{numbers_from}}
use Rattle.sweep.proofs.measuring.measure_batch.Goals as goal

pub returns-clause-numbers : goal.returns-clause-numbers
returns-clause-numbers g c =
    IfOk-weaker c.all_of.result _ _
    (λ v is. numbers_from (sources_of c.args.sources.now) c.args.grid.now c.args.groups.now c.args.first c.in_ok-answers.answers.items v.items is
    (λ i d lt. let h = (c.in_ok-answers.ensures.answers.each i d lt).met in search rules))
    c.all_of.ensures
