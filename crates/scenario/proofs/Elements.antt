-- Elements of lists.
use Rattle.scenario.proofs.Words.{Bor, BTreeMap, ◌≡◌, ℕ, ◌<◌, ◌+◌, List, [], ◌∷◌, map, length, get_or, Some, refl, ap, sym, ◌∙◌, add-one, String, Global, string_bytes, Contains, All, length-map, get_or-map, slice_get-get_or, Members, members_view, table_view, tables_in, Value, keys_of, tables_at, numbered}
use Rattle.std.proofs.lemmas.Simd.{map-map}

-- an element's image is among the images
pub contains_image : {A B : Type 0} (f : A → B) (xs : List A) (k : ℕ) (d : A) → k < length xs → Contains (map f xs) (f (get_or xs k d))
contains_image f xs k d lt = (k, simp length-map lt, get_or-map f xs k d (f (get_or xs k d)) lt)

-- a table that the code was lent
abbrev pub Lent : Type 0
Lent = Bor (BTreeMap (String Global) Value)

-- the table of this number, from 0
pub record IsAt (tables : List Lent) (i : ℕ) (m : Lent) : Type 0 where
  pub low : i < length tables
  pub is : m ≡ get_or tables i m

-- a table of an array
pub numbered_table : (tables : List Lent) (file : Members) (key : List ℕ) (i : ℕ) (m : Lent) → tables_in tables ≡ tables_at key file → IsAt tables i m
    → numbered (i + 1) (tables_at key file) ≡ Some (table_view m.now)
numbered_table tables file key i m are spot =
    rw (← are, add-one)
    (slice_get-get_or (tables_in tables) i (table_view m.now) (simp length-map spot.low)
    ∙ ap Some (get_or-map (λ t. table_view t.now) tables i m (table_view m.now) spot.low ∙ ap (λ t. table_view t.now) (sym spot.is)))

keys_view : (es : List (String Global × Value)) → keys_of (members_view es) ≡ map (λ e. string_bytes e.0) es
keys_view [] = refl
keys_view (e ∷ es) = ap (λ ks. string_bytes e.0 ∷ ks) (keys_view es)

-- each key of a map's entries is one of the table's
pub keys_there : (es : List (String Global × Value)) → All (λ k. Contains (keys_of (members_view es)) (string_bytes k)) (map (λ e. e.0) es)
keys_there es i k lt = rw (keys_view es, ← map-map string_bytes (λ (e : String Global × Value). e.0) es) (contains_image string_bytes (map (λ e. e.0) es) i k lt)
