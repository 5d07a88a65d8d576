-- The words that a generator gives next.
use Rattle.std.specs.Prelude.{◌+◌, ◌%◌, ◌^◌}
use Rattle.{rand_chacha.specs.ChaCha.{ChaCha, word_at}, network.specs.Words.{Words}}

unfoldable pub to_come : ChaCha → Words
to_come g = λ k. word_at 4 g.key g.stream ((g.word_pos + k) % 2 ^ 68)
