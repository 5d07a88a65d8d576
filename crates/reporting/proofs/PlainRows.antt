-- Rows that csv writes with no quotes.
use Rattle.reporting.proofs.Words.{◌≡◌, ℕ, ◌≤◌, List, [], ◌∷◌, ◌++◌, length, ap, arith, append-nil, join_with_byte, default_writer, row_text, field_text, fields_text, is_blank, IsPlain, ArePlain, row_of, plain_writer}

fields_text-plain : (x : List ℕ) (xs : List (List ℕ)) → x ++ fields_text plain_writer xs ≡ join_with_byte 44 (x ∷ xs)
unfolding fields_text
fields_text-plain x [] = append-nil x
fields_text-plain x (y ∷ ys) = ap (λ r. x ++ (44 ∷ r)) (fields_text-plain y ys)

-- a row that is never quoted
pub row_text-plain : (fields : List (List ℕ)) → 2 ≤ length fields → row_text plain_writer fields ≡ row_of fields
unfolding row_of is_blank
row_text-plain [] le = absurd (omega arith)
row_text-plain (x ∷ []) le = absurd (omega arith)
row_text-plain (x ∷ y ∷ ys) le = ap (λ r. r ++ (10 ∷ [])) (fields_text-plain x (y ∷ ys))

fields_text-bare : (x : List ℕ) (xs : List (List ℕ)) → IsPlain x → ArePlain xs → field_text default_writer x ++ fields_text default_writer xs ≡ join_with_byte 44 (x ∷ xs)
unfolding fields_text
fields_text-bare x [] plain others = rw plain (append-nil x)
fields_text-bare x (y ∷ ys) plain others = rw plain (ap (λ r. x ++ (44 ∷ r)) (fields_text-bare y ys others.0 others.1))

-- a row in which nothing calls for quotes
pub row_text-bare : (fields : List (List ℕ)) → 2 ≤ length fields → ArePlain fields → row_text default_writer fields ≡ row_of fields
unfolding row_of is_blank
row_text-bare [] le plain = absurd (omega arith)
row_text-bare (x ∷ []) le plain = absurd (omega arith)
row_text-bare (x ∷ y ∷ ys) le plain = ap (λ r. r ++ (10 ∷ [])) (fields_text-bare x (y ∷ ys) plain.0 plain.1)
