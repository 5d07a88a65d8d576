-- Places of names, the nearest name, and fields by their places.
use Rattle.sweep.proofs.Words.{◌≡◌, ℕ, zero, suc, ◌+◌, ◌<◌, ◌≤◌, Bool, cond, Option, None, Some, is_some, not, List, [], ◌∷◌, ◌++◌, length, map, take, drop, get_or, refl, sym, ap, ◌∙◌, subst, arith, string_bytes, String, Bor, All, position, position_or_len, IsSome, drop_more, get_or_default, length-map, map_more, map_push, take-append-drop, Global, edits, place_of, IsNearest, IsUnknown, TellsOf, IsRefusal, Text, get_or-map, field_at}
use Rattle.{std.proofs.Math.Dec.{ltb}, sweep.specs.declared.error.LayoutError.{LayoutError}}
use Rattle.sweep.specs.declared.error.LayoutError.TheVariants as error

-- ---- fields

pub at_some : (fs : List Text) (i : ℕ) (f : Text) → Some f ≡ field_at fs i → f ≡ get_or fs i []
unfolding field_at
at_some [] i f is = cc
at_some (x ∷ fs) zero f is = cc
at_some (x ∷ fs) (suc i) f is = at_some fs i f is

pub at_none : (fs : List Text) (i : ℕ) → None ≡ field_at fs i → [] ≡ get_or fs i []
unfolding field_at
at_none [] i is = refl
at_none (x ∷ fs) zero is = cc
at_none (x ∷ fs) (suc i) is = at_none fs i is

-- a name by its place
pub named : (names : List (String Global)) (k : ℕ) (name : String Global) → k < length names → name ≡ get_or names k name
    → get_or (map string_bytes names) k [] ≡ string_bytes name
named names k name lt is = get_or-map string_bytes names k name [] lt ∙ ap string_bytes (sym is)

-- the first name that passes, by the names or by their texts
pub position_map : (p : Text → Bool) (names : List (String Global)) → position p (map string_bytes names) ≡ position (λ n. p (string_bytes n)) names
position_map p names = (λ i. cond (ltb (until names i) (length-map names string_bytes i)) (Some (until names i)) None)
  where
    until : (ns : List (String Global)) → position_or_len p (map string_bytes ns) ≡ position_or_len (λ n. p (string_bytes n)) ns
    until [] = refl
    until (n ∷ ns) = ap (λ k. cond (not (p (string_bytes n))) (1 + k) 0) (until ns)

-- ---- the nearest name

pub nearest_is : (names : List Text) (word near : Text) (best least n : ℕ) → best < length names → near ≡ get_or names best []
    → least ≡ edits word (get_or names best []) → length names ≤ n
    → ((k : ℕ) → k < n → least ≤ edits word (get_or names k [])) → IsNearest names word near
nearest_is names word near best least n lt is counted past low = record {
  name = (best, lt, get_or_default names best near [] lt ∙ sym is);
  nearest = λ other at.
      let same : get_or names at.0 [] ≡ other = get_or_default names at.0 [] other at.1 ∙ at.2 in
      let here : edits word near ≡ least = ap (λ t. edits word t) is ∙ sym counted in
      let there : edits word (get_or names at.0 []) ≡ edits word other = ap (λ t. edits word t) same in
      let up : least ≤ edits word (get_or names at.0 []) = low at.0 (omega (arith, at.1, past)) in
      omega (arith, here, there, up);
}

-- ---- words that are names

abbrev pub nothing : Bor Text
nothing = record { ref_ptr = (0, 0); now = [] }

-- a word by its place
pub word_at : (words : List (Bor Text)) (i : ℕ) → i < length words
    → get_or (map (λ w. w.now) words) i [] ≡ (get_or words i nothing).now
word_at words i lt = get_or-map (λ (w : Bor Text). w.now) words i nothing [] lt

-- one more word, which is a name
pub one_more : (f : Text → Option ℕ) (xs : List Text) (i : ℕ) (ys : List ℕ) (y : ℕ) → i < length xs
    → map f (take i xs) ≡ map Some ys → f (get_or xs i []) ≡ Some y → map f (take (i + 1) xs) ≡ map Some (ys ++ y ∷ [])
one_more f xs i ys y lt is at =
    map_more f xs i [] lt ∙ ap (λ l. l ++ f (get_or xs i []) ∷ []) is ∙ ap (λ o. map Some ys ++ o ∷ []) at ∙ sym (map_push Some ys y)

all_known : (f : Text → Option ℕ) (xs : List Text) (ys : List ℕ) → map f xs ≡ map Some ys → All (λ w. IsSome (f w)) xs
all_known f xs ys is k d lt =
    let len : length xs ≡ length ys = sym (length-map xs f) ∙ ap length is ∙ length-map ys Some in
    let there : k < length ys = omega (arith, lt, len) in
    ap is_some (sym (get_or-map f xs k d None lt) ∙ ap (λ l. get_or l k None) is ∙ get_or-map Some ys k 0 None there)

pub refusal_of : (names words : List Text) (i : ℕ) (places : List ℕ) (e : LayoutError) → i < length words
    → map (place_of names) (take i words) ≡ map Some places → place_of names (get_or words i []) ≡ None
    → TellsOf names (get_or words i []) e → IsRefusal names words e
refusal_of names words i places (error.Unknown name near) lt known unknown tells =
    let word : Text = get_or words i [] in
    let split : words ≡ take i words ++ word ∷ drop (i + 1) words = sym (take-append-drop i words) ∙ ap (λ l. take i words ++ l) (drop_more words i [] lt) in
    let P : Text → Type 0 = λ w. IsUnknown names words w (string_bytes near) in
    subst P (sym tells.0) (record {
      before = take i words;
      after = drop (i + 1) words;
      words_are = split;
      known = all_known (place_of names) (take i words) places known;
      unknown = unknown;
      near_is = tells.1;
    })
refusal_of names words i places error.Memory lt known unknown tells = absurd tells
