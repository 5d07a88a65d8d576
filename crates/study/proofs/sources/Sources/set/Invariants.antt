use Rattle.study.proofs.Basics.{◌≡◌, drop, sources_of, assign_all}
use Rattle.study.proofs.sources.Sources.set.Given as goal

abbrev pub invariant-loop-assignment : goal.invariant-loop-assignment
invariant-loop-assignment l =
    assign_all l.assignments (sources_of l.initial.self) ≡ assign_all (drop l.assignment-index l.assignments) (sources_of l.self)
