use Rattle.std.proofs.Common.{◌∷◌, [], refl}
use Rattle.process_api.proofs.OneWord.{is_word}
use Rattle.process_api.proofs.proc_set.ProcSet.of_word.Goals as goal

pub returns : goal.returns
returns c = is_word (c.args.word ∷ 0 ∷ 0 ∷ 0 ∷ []) refl
