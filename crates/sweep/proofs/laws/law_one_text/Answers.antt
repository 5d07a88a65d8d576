use Rattle.sweep.proofs.{Words.{sources_of}, OneText.{one_text}}
use Rattle.sweep.proofs.laws.law_one_text.Goals as goal

pub returns : goal.returns
returns c = one_text (sources_of c.args.sources.now) c.args.grid.now c.args.layout.now c.args.shard
