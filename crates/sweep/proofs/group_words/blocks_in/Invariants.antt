use Rattle.sweep.proofs.Words.{map, take, SayBlocks}
use Rattle.sweep.proofs.group_words.blocks_in.Given as goal

abbrev pub invariant-loop-word : goal.invariant-loop-word
invariant-loop-word l = SayBlocks (take l.word-index (map (λ x. x.now) l.words)) l.blocks.items
