-- Lemmas on joined texts.
use Rattle.reporting.proofs.Words.{◌≡◌, ℕ, List, [], ◌∷◌, ◌++◌, length, refl, ap, sym, ◌∙◌, arith, append-nil, map, join_with_byte, flat_map, notes_text, note_text, Note}

joined : (c : ℕ) (x : List ℕ) (xs : List (List ℕ)) → join_with_byte c (x ∷ xs) ≡ x ++ flat_map (λ y. c ∷ y) xs
joined c x [] = sym (append-nil x)
joined c x (y ∷ ys) = ap (λ r. x ++ (c ∷ r)) (joined c y ys)

no_notes : notes_text [] ≡ []
unfolding notes_text
no_notes = refl

after_first : (notes : List Note) → flat_map (λ y. 32 ∷ y) (map note_text notes) ≡ flat_map (λ n. 32 ∷ note_text n) notes
after_first [] = refl
after_first (n ∷ ns) = ap (λ r. (32 ∷ note_text n) ++ r) (after_first ns)

-- the first note, and the others each after a space
pub notes_text_first : (n : Note) (ns : List Note) → notes_text (n ∷ ns) ≡ note_text n ++ flat_map (λ m. 32 ∷ note_text m) ns
unfolding notes_text
notes_text_first n ns = joined 32 (note_text n) (map note_text ns) ∙ ap (λ r. note_text n ++ r) (after_first ns)

pub notes_text_none : (ns : List Note) → length ns ≡ 0 → notes_text ns ≡ []
notes_text_none [] e = no_notes
notes_text_none (n ∷ ns) e = absurd (omega arith)
