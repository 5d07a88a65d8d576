use Rattle.study.proofs.ReadBack.{are_set}
use Rattle.study.proofs.placed.law_settings.Goals as goal

pub returns : goal.returns
returns c = are_set
