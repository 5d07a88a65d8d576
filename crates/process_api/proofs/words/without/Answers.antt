use Rattle.std.proofs.Common.{◌/◌, arith}
use Rattle.process_api.proofs.BitWords.{is_set-without}
use Rattle.process_api.proofs.words.without.Goals as goal

pub returns : goal.returns
returns c = λ place within. is_set-without c.args.words.now c.args.others.now _ place (c.loop-k.invariant.taken (place / 64) (omega arith))
