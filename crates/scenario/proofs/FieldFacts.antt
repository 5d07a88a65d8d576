-- Lemmas on the keys of a table.
use Rattle.std.proofs.Common.{is_some, is_none, option_map, ◌≡◌, ℕ, List, [], ◌∷◌, map, Bool, not, refl, ap, ◌||◌, String, string_bytes, Global, Option, Some, None}
use Rattle.scenario.proofs.Words.{list_any, field_of, fields_of, Members, members_view, Value, Field, same_text, is_listed, has_unlisted, is_lacking, has_lacking, is_mistyped, has_mistyped}
use Rattle.scenario.specs.declared.field.Field as code

pub some_of_map : {A B : Type 0} (f : A → B) (o : Option A) → is_some (option_map f o) ≡ is_some o
some_of_map f None = refl
some_of_map f (Some x) = refl

pub none_of_map : {A B : Type 0} (f : A → B) (o : Option A) → is_none (option_map f o) ≡ is_none o
none_of_map f None = refl
none_of_map f (Some x) = refl

any_map : {A B : Type 0} (p : B → Bool) (f : A → B) (xs : List A) → list_any p (map f xs) ≡ list_any (λ x. p (f x)) xs
any_map p f [] = refl
any_map p f (x ∷ xs) = ap (λ b. p (f x) || b) (any_map p f xs)

-- whether some field is so, of the code's fields
pub any_listed : (fs : List code.Field) (key : List ℕ) → is_listed (fields_of fs) key ≡ list_any (λ f. same_text f.key.now key) fs
unfolding is_listed
any_listed fs key = any_map (λ f. same_text f.key key) field_of fs

pub any_lacking : (fs : List code.Field) (t : Members) → has_lacking (fields_of fs) t ≡ list_any (λ f. is_lacking (field_of f) t) fs
unfolding has_lacking
any_lacking fs t = any_map (λ f. is_lacking f t) field_of fs

pub any_mistyped : (fs : List code.Field) (t : Members) → has_mistyped (fields_of fs) t ≡ list_any (λ f. is_mistyped (field_of f) t) fs
unfolding has_mistyped
any_mistyped fs t = any_map (λ f. is_mistyped f t) field_of fs

-- some of these keys isn't listed
abbrev pub any_unlisted : List Field → List (String Global) → Bool
any_unlisted fields ks = list_any (λ k. not (is_listed fields (string_bytes k))) ks

pub unlisted_view : (fields : List Field) (es : List (String Global × Value))
    → has_unlisted fields (members_view es) ≡ any_unlisted fields (map (λ e. e.0) es)
unfolding has_unlisted
unlisted_view fields [] = refl
unlisted_view fields (e ∷ es) = ap (λ b. not (is_listed fields (string_bytes e.0)) || b) (unlisted_view fields es)

pub unlisted_step : (fields : List Field) (left : List (String Global)) (k : String Global) (ks : List (String Global)) (t : List ℕ) (b : Bool)
    → left ≡ k ∷ ks → t ≡ string_bytes k → b ≡ is_listed fields t → any_unlisted fields left ≡ (not b || any_unlisted fields ks)
unlisted_step fields left k ks t b is text e = rw (is, e, text) refl
