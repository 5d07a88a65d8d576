-- Numbers as words.
use Rattle.study.proofs.Basics.{◌≡◌, ◌≢◌, ℕ, zero, suc, ◌^◌, ◌≤◌, ◌<◌, List, [], ◌∷◌, length, get_or, drop, Bool, true, false, not, cond, ◌==◌, inl, inr, ℤ, pos, neg_ℤ, Result, Ok, Err, MatchOption, refl, sym, ◌∙◌, ap, subst, rules, arith, cases_Bool, cases_lt, and_parts, eqb-true, lt-ltb, le-ltb, false≢true, is_ascii_digit, list_all, w64, Word, is_natural, is_integer, natural, integer, fits}
use Rattle.std.proofs.lemmas.Str.Parse.{IsNumeralModel, IsDigitsTest, numerals_by_value, parse_digits, parse_signed_digits, parse_signed_minus}
use Rattle.std.specs.{Result.{OkIff, result_ok}, Str.Parse.{digits_value, starts_with_minus, ParsesUnsigned, ParsesSigned}}

abbrev pub Digits : List ℕ → Type 0
Digits ds = list_all is_ascii_digit ds ≡ true

tells : IsDigitsTest Digits
tells = search rules

pub own : IsNumeralModel Digits (digits_value 10)
own = numerals_by_value Digits tells

-- what is read where a fact holds, and what else
read_if : {T E : Type 0} (r : Result T E) (Holds Fails : Type 0) (v : T) (Is : T → Type 0) → OkIff r Holds v
    → ((Holds → ⊥) → Fails) → (Holds → Is v) → MatchOption (result_ok r) Fails Is
read_if (Ok m) Holds Fails v Is h fails is = subst Is (sym h.1) (is h.0)
read_if (Err e) Holds Fails v Is h fails is = fails h

-- ---- natural numbers

pub natural_digits : (w : Word) → is_natural w ≡ true → list_all is_ascii_digit w ≡ true
natural_digits w is = (and_parts (not (length w == 0)) (list_all is_ascii_digit w) is).1

pub natural_some : (w : Word) → is_natural w ≡ true → 0 < length w
natural_some [] is = absurd (false≢true is)
natural_some (c ∷ cs) is = omega arith

pub natural_read : {E : Type 0} (r : Result ℕ E) (w : Word) → ParsesUnsigned 64 10 w r → is_natural w ≡ true
    → MatchOption (result_ok r) (2 ^ 64 ≤ natural w) (λ n. (n ≡ natural w) × (n < 2 ^ 64))
natural_read r w h is =
    read_if r _ _ _ _ (parse_digits own 64 w r h (natural_digits w is))
    (λ none. elim (cases_lt (natural w) (2 ^ 64)) [ inl below ↦ absurd (none (natural_some w is, below)) | inr above ↦ above ])
    (λ holds. (refl, holds.1))

-- ---- integers

pub plain_integer : (w : Word) → ((rest : List ℕ) → w ≢ 45 ∷ rest) → is_integer w ≡ is_natural w
plain_integer [] plain = refl
plain_integer (c ∷ cs) plain = elim (cases_Bool (c == 45)) [
  | inl minus ↦ absurd (plain cs (ap (λ d. d ∷ cs) (eqb-true c 45 minus)))
  | inr other ↦ ap (λ b. is_natural (drop (cond b 1 0) (c ∷ cs))) other
]

fits_minus : (n : ℕ) → n ≤ 2 ^ 63 → fits (neg_ℤ (pos n)) ≡ true
fits_minus zero le = refl
fits_minus (suc n) le = lt-ltb n (2 ^ 63) (omega arith)

fits_below : (n : ℕ) → 2 ^ 63 < n → fits (neg_ℤ (pos n)) ≡ false
fits_below zero lt = absurd (omega arith)
fits_below (suc n) lt = le-ltb n (2 ^ 63) (omega arith)

-- the integer that a word was found to say
abbrev IsRead : {E : Type 0} → Result ℤ E → ℤ → Type 0
IsRead r z = MatchOption (result_ok r) (fits z ≡ false) (λ y. (fits y ≡ true) × (y ≡ z))

plain_read : {E : Type 0} (n : ℕ) (A : Type 0) (r : Result ℤ E) → A → OkIff r (A × (n < 2 ^ 63)) (pos n) → IsRead r (pos n)
plain_read n A r here h =
    read_if r _ _ _ _ h
    (λ none. elim (cases_lt n (2 ^ 63)) [ inl below ↦ absurd (none (here, below)) | inr above ↦ le-ltb n (2 ^ 63) above ])
    (λ holds. (lt-ltb n (2 ^ 63) holds.1, refl))

minus_read : {E : Type 0} (n : ℕ) (A B : Type 0) (r : Result ℤ E) → A → B → OkIff r (A × B × (n ≤ 2 ^ 63)) (neg_ℤ (pos n))
    → IsRead r (neg_ℤ (pos n))
minus_read n A B r a b h =
    read_if r _ _ _ _ h
    (λ none. elim (cases_lt (2 ^ 63) n) [ inl below ↦ fits_below n below | inr above ↦ absurd (none (a, b, above)) ])
    (λ holds. (fits_minus n holds.2, refl))

pub integer_read : {E : Type 0} (r : Result ℤ E) (w : Word) → ParsesSigned w64 10 w r → is_integer w ≡ true
    → MatchOption (result_ok r) (fits (integer w) ≡ false) (λ z. (fits z ≡ true) × (z ≡ integer w))
integer_read {E} r w h is = split (starts_with_minus w) refl
  where
    split : (b : Bool) → starts_with_minus w ≡ b → IsRead r (integer w)
    split true minus =
        let digits : is_natural (drop 1 w) ≡ true = ap (λ b. is_natural (drop (cond b 1 0) w)) (sym minus) ∙ is in
        let number : integer w ≡ neg_ℤ (pos (natural (drop 1 w))) =
        ap (λ b. cond b (neg_ℤ (pos (natural (drop 1 w)))) (pos (natural w))) minus in
        subst (IsRead r) (sym number)
        (minus_read (natural (drop 1 w)) (Digits (drop 1 w)) (0 < length (drop 1 w)) r (natural_digits (drop 1 w) digits)
        (natural_some (drop 1 w) digits) (parse_signed_minus own w64 w r h (eqb-true (get_or w 0 0) 45 minus)))
    split false plain =
        let digits : is_natural w ≡ true = ap (λ b. is_natural (drop (cond b 1 0) w)) (sym plain) ∙ is in
        let number : integer w ≡ pos (natural w) = ap (λ b. cond b (neg_ℤ (pos (natural (drop 1 w)))) (pos (natural w))) plain in
        subst (IsRead r) (sym number) (plain_read (natural w) (0 < length w) r (natural_some w digits)
        (parse_signed_digits own w64 w r h (natural_digits w digits)))
