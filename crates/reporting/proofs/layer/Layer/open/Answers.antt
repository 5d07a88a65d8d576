use Rattle.reporting.proofs.Words.{[], subst, ArePairs, counted}
use Rattle.reporting.proofs.layer.Layer.open.Goals as goal

pub returns : goal.returns
returns c = record {
  metering = subst (λ kept. ArePairs counted c.args.scenario.now c.args.layer kept [] c.in_ok-open.field-0) c.new.ensures c.in_ok-open.ensures;
  lengths = λ on. c.in_ok-open-2.ensures c.args.scenario.now c.args.layer (c.listed_processes.ensures on);
}
