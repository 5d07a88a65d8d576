use Rattle.{study.specs.Sources.{sources_of}, run_tests.proofs.InTurn.{AreOut}}
use Rattle.run_tests.proofs.sweep_tests.laws.sweep_shards.Given as goal

abbrev pub invariant-loop-before : goal.invariant-loop-before
invariant-loop-before g l = AreOut (sources_of l.sources) l.grid l.layout l.shards l.before l.outlet
