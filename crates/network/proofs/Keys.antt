-- The keys of a table.
use Rattle.network.proofs.Basics.{Bor, ◌≡◌, ℕ, suc, length, List, [], ◌∷◌, map, Bool, not, refl, ap, ◌||◌, String, string_bytes, Global, is_some, list_any, keys_of, same_text, Members, members_view, Value, field_of, fields_of, fault_at, has_fault, has_unlisted, is_listed}
use Rattle.network.specs.declared.field.Field as code

pub any_map : {A B : Type 0} (p : B → Bool) (f : A → B) (xs : List A) → list_any p (map f xs) ≡ list_any (λ x. p (f x)) xs
any_map p f [] = refl
any_map p f (x ∷ xs) = ap (λ b. p (f x) || b) (any_map p f xs)

pub any_listed : (ks : List (Bor (List ℕ))) (key : List ℕ) → is_listed (map (λ k. k.now) ks) key ≡ list_any (λ k. same_text k.now key) ks
unfolding is_listed
any_listed ks key = any_map (λ k. same_text k key) (λ k. k.now) ks

pub any_fault : (fs : List code.Field) (t : Members) → has_fault (fields_of fs) t ≡ list_any (λ f. is_some (fault_at (field_of f) t)) fs
unfolding has_fault
any_fault fs t = any_map (λ f. is_some (fault_at f t)) field_of fs

-- some of these keys isn't listed
abbrev pub any_unlisted : List (List ℕ) → List (String Global) → Bool
any_unlisted keys ks = list_any (λ k. not (is_listed keys (string_bytes k))) ks

pub unlisted_view : (keys : List (List ℕ)) (es : List (String Global × Value))
    → has_unlisted keys (members_view es) ≡ any_unlisted keys (map (λ e. e.0) es)
unfolding has_unlisted
unlisted_view keys [] = refl
unlisted_view keys (e ∷ es) = ap (λ b. not (is_listed keys (string_bytes e.0)) || b) (unlisted_view keys es)

pub unlisted_step : (keys : List (List ℕ)) (left : List (String Global)) (k : String Global) (ks : List (String Global)) (t : List ℕ) (b : Bool)
    → left ≡ k ∷ ks → t ≡ string_bytes k → b ≡ is_listed keys t → any_unlisted keys left ≡ (not b || any_unlisted keys ks)
unlisted_step keys left k ks t b is text e = rw (is, e, text) refl

pub keys_counted : (es : List (String Global × Value)) → length (keys_of (members_view es)) ≡ length es
keys_counted [] = refl
keys_counted (e ∷ es) = ap suc (keys_counted es)
