use Rattle.{std.proofs.lemmas.Result.{IfOk-weaker}, drawing.proofs.Stretching.{stretches_are_bars}}
use Rattle.drawing.proofs.bars.bars_of.Goals as goal

pub returns : goal.returns
returns c = IfOk-weaker c.stretches_of.result _ _ (λ v e. rw e (stretches_are_bars _ _ _)) c.stretches_of.ensures
