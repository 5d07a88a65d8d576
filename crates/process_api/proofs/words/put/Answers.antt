use Rattle.{std.proofs.Common.{arith}, process_api.proofs.BitWords.{put_own, put_others}}
use Rattle.process_api.proofs.words.put.Goals as goal

pub returns-clause-own : goal.returns-clause-own
returns-clause-own c = put_own c.args.words.now c.args.place (omega arith)

pub returns-clause-others : goal.returns-clause-others
returns-clause-others c = put_others c.args.words.now c.args.place (omega arith)
