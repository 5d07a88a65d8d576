use Rattle.std.proofs.Common.{◌/◌, arith}
use Rattle.process_api.proofs.BitWords.{is_set-either}
use Rattle.process_api.proofs.words.either.Goals as goal

pub returns : goal.returns
returns c = λ place within. is_set-either c.args.a.now c.args.b.now _ place (c.loop-k.invariant.joined (place / 64) (omega arith))
