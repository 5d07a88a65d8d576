use Rattle.study.proofs.Placing.{on_clone}
use Rattle.study.proofs.sources.copy_of_file.Goals as goal

pub returns : goal.returns
returns c = on_clone c.args.file.now c.clone.result _ c.clone.ensures.cases
