use Rattle.reporting.proofs.Words.{◌≡◌, ◌++◌, take, flat_map, IsBetweenRows, row_of, text_of}
use Rattle.reporting.specs.LettersText.{letters_header, fields_of}
use Rattle.reporting.proofs.letter_text.letters_text.Given as goal

-- the rows so far
abbrev pub invariant-loop-letter : goal.invariant-loop-letter
invariant-loop-letter l = record {
  between : IsBetweenRows l.rows;
  text : text_of l.rows ≡ letters_header ++ flat_map (λ m. row_of (fields_of m)) (take l.letter-index l.letters);
}
