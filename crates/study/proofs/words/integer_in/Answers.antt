use Rattle.study.proofs.Numerals.{integer_read}
use Rattle.study.proofs.words.integer_in.Goals as goal

pub returns : goal.returns
returns c = rw c.ok.ensures.value (integer_read c.parse.result c.args.word.now c.parse.ensures.value.0 c.requires)
