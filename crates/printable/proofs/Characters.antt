-- Texts that are written character by character.
use Rattle.std.proofs.{Common.{◌≡◌, ℕ, List, [], ◌++◌, length, IsUtf8, refl, ap, sym, ◌∙◌, append_assoc, append-nil}, Output.{has_written_append, has_written_of_eq, writes_in_calls_nil}, StrCases.{chars_of_empty}}
use Rattle.std.proofs.lemmas.{Str.{chars_past_char}, List.Concat.{flat_map-cons}}
use Rattle.std.specs.{Char.{encode_utf8}, Fmt.{HasWritten, IsPlainFormatter}, List.{flat_map}, Str.{chars}, declared.fmt.Formatter.{Formatter}}

module _ {W : Type 0} (took : W → List ℕ → W → Type 0) (shows : ℕ → List ℕ) where
  -- what was written of a text, and what the rest gives, are what all of it gives
  pub record IsUnderWay (from to : Formatter W) (text rest : List ℕ) : Type 0 where
    pub done : List ℕ
    pub written : HasWritten took from done to
    pub whole : done ++ flat_map shows (chars rest) ≡ flat_map shows (chars text)

  pub begun : (f : Formatter W) (text : List ℕ) → IsPlainFormatter f → IsUnderWay f f text text
  begun f text plain =
      record { done = []; written = record { wrote = writes_in_calls_nil took f.writer; plain = plain }; whole = refl }

  pub one_more : (from mid to : Formatter W) (text rest left : List ℕ) (c : ℕ) → IsUtf8 rest → rest ≡ encode_utf8 c ++ left
      → HasWritten took mid (shows c) to → IsUnderWay from mid text rest → IsUnderWay from to text left
  one_more from mid to text rest left c utf8 is wrote so_far =
      let first : flat_map shows (chars rest) ≡ shows c ++ flat_map shows (chars left) =
      ap (flat_map shows) (chars_past_char rest left c utf8 is) ∙ flat_map-cons shows c (chars left) in
      record {
        done = so_far.done ++ shows c;
        written = has_written_append took _ _ _ _ _ so_far.written wrote;
        whole = append_assoc so_far.done (shows c) (flat_map shows (chars left))
            ∙ (ap (λ l. so_far.done ++ l) (sym first) ∙ so_far.whole);
      }

  pub ended : (from to : Formatter W) (text rest : List ℕ) → length rest ≡ 0 → IsUnderWay from to text rest
      → HasWritten took from (flat_map shows (chars text)) to
  ended from to text rest none so_far =
      let last : flat_map shows (chars rest) ≡ [] = ap (flat_map shows) (chars_of_empty rest none) in
      let all : so_far.done ≡ flat_map shows (chars text) =
      sym (append-nil so_far.done) ∙ (ap (λ l. so_far.done ++ l) (sym last) ∙ so_far.whole) in
      has_written_of_eq took _ _ _ _ all so_far.written
