use Rattle.scenario_record.proofs.Stretches.{AreLengthened}
use Rattle.scenario_record.proofs.link_outages.lengthened.Given as goal

abbrev pub invariant-loop-outage : goal.invariant-loop-outage
invariant-loop-outage l = AreLengthened l.sorted l.stretches.items l.outage-index l.greatest
