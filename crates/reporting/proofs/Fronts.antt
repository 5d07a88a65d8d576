-- Rows of a report that begin with the same fields.
use Rattle.reporting.proofs.Words.{◌≡◌, ℕ, suc, ◌+◌, ◌<◌, List, [], ◌∷◌, ◌++◌, length, take, map, get_or, decimal, refl, ap, ◌∙◌, append-nil, arith, take-suc, flat_map-append, join_with_byte, front_of, rows_about, Text, report_row, report_rows, row_of}
use Rattle.{std.proofs.lemmas.List.{append_assoc, map-append}, reporting.specs.declared.report_rows.About.{About}}

-- the row of a value with its name
abbrev row_about : About → Text × Text → Text
row_about a value = report_row a.section.now a.layer a.observer a.subject value

-- fields that are joined already stand as they would one by one
joined_first : (x : Text) (xs : List Text) (y : Text) (ys : List Text)
    → join_with_byte 44 (join_with_byte 44 (x ∷ xs) ∷ y ∷ ys) ≡ join_with_byte 44 (x ∷ (xs ++ (y ∷ ys)))
joined_first x [] y ys = refl
joined_first x (z ∷ zs) y ys =
    append_assoc x (44 ∷ join_with_byte 44 (z ∷ zs)) (44 ∷ join_with_byte 44 (y ∷ ys))
    ∙ ap (λ r. x ++ (44 ∷ r)) (joined_first z zs y ys)

row_after : (a : About) (name value : Text) → row_of (front_of a ∷ name ∷ value ∷ []) ≡ row_about a (name, value)
unfolding report_row row_of
row_after a name value =
    ap (λ t. t ++ (10 ∷ []))
    (joined_first a.section.now (decimal a.layer ∷ decimal a.observer ∷ decimal a.subject ∷ []) name (value ∷ []))

next_row : {V : Type 0} (a : About) (f : V → Text × Text) (vs : List V) (i : ℕ) (d : V) → i < length vs
    → rows_about a (map f (take (i + 1) vs)) ≡ rows_about a (map f (take i vs)) ++ row_about a (f (get_or vs i d))
unfolding report_rows
next_row a f vs i d there =
    let next : i + 1 ≡ suc i = omega arith in
    ap (λ l. rows_about a (map f l)) (ap (λ n. take n vs) next ∙ take-suc vs i d there)
    ∙ ap (rows_about a) (map-append f (take i vs) (get_or vs i d ∷ []))
    ∙ flat_map-append (row_about a) (map f (take i vs)) (f (get_or vs i d) ∷ [])
    ∙ ap (λ r. rows_about a (map f (take i vs)) ++ r) (append-nil (row_about a (f (get_or vs i d))))

-- the rows of some values, and the next one's after the fields that all begin with
pub one_more : {V : Type 0} (a : About) (f : V → Text × Text) (vs : List V) (i : ℕ) (d : V) (begin : Text)
    {front name value before after : Text} → i < length vs → front ≡ front_of a
    → name ≡ (f (get_or vs i d)).0 → value ≡ (f (get_or vs i d)).1
    → before ≡ begin ++ rows_about a (map f (take i vs)) → after ≡ before ++ row_of (front ∷ name ∷ value ∷ [])
    → after ≡ begin ++ rows_about a (map f (take (i + 1) vs))
one_more a f vs i d begin there is_front is_name is_value so_far told =
    rw (told, so_far, is_front, is_name, is_value, row_after a (f (get_or vs i d)).0 (f (get_or vs i d)).1, next_row a f vs i d there)
    (append_assoc begin (rows_about a (map f (take i vs))) (row_about a (f (get_or vs i d))))
