use Rattle.{std.proofs.Common.{arith}, process_api.proofs.BitWords.{clear_own, clear_others}}
use Rattle.process_api.proofs.words.clear.Goals as goal

pub returns-clause-own : goal.returns-clause-own
returns-clause-own c = clear_own c.args.words.now c.args.place (omega arith)

pub returns-clause-others : goal.returns-clause-others
returns-clause-others c = clear_others c.args.words.now c.args.place (omega arith)
