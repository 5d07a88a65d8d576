-- What holds of all numbers below an end, and of some.
use Rattle.judges.proofs.Words.{◌≡◌, ℕ, zero, suc, ◌<◌, Bool, true, false, cond, ◌||◌, inl, inr, refl, sym, ap, ◌∙◌, arith, cases_eq, cases_lt, and_parts, and_from, or_parts, or_cases, or_left, or_right, true≢false, all_below, any_below}

pub all_below-at : (test : ℕ → Bool) (n : ℕ) → all_below test n ≡ true → (u : ℕ) → u < n → test u ≡ true
all_below-at test zero e u l = absurd (omega arith)
all_below-at test (suc t) e u l =
    let parts = and_parts (test t) (all_below test t) e in
    elim (cases_eq u t) [
      | inl same ↦ ap test same ∙ parts.0
      | inr n ↦ all_below-at test t parts.1 u (omega arith)
    ]

pub all_below-from : (test : ℕ → Bool) (n : ℕ) → ((u : ℕ) → u < n → test u ≡ true) → all_below test n ≡ true
all_below-from test zero h = refl
all_below-from test (suc t) h = and_from (test t) (all_below test t) (h t (omega arith)) (all_below-from test t (λ u l. h u (omega arith)))

pub any_below-from : (test : ℕ → Bool) (n i : ℕ) → i < n → test i ≡ true → any_below test n ≡ true
any_below-from test zero i l e = absurd (omega arith)
any_below-from test (suc n) i l e =
    elim (cases_lt i n) [
      | inl p ↦ or_right (test n) (any_below test n) (any_below-from test n i p e)
      | inr p ↦ or_left (test n) (any_below test n) (ap test (let s : n ≡ i = omega arith in s) ∙ e)
    ]

pub any_below-some : (test : ℕ → Bool) (n : ℕ) → any_below test n ≡ true → (i : ℕ) × (i < n) × (test i ≡ true)
any_below-some test zero e = absurd (true≢false (sym e))
any_below-some test (suc n) e =
    elim (or_cases (test n) (any_below test n) e) [
      | inl p ↦ (n, omega arith, p)
      | inr p ↦ let s = any_below-some test n p in (s.0, omega (arith, s.1), s.2)
    ]

pub any_below-none : (test : ℕ → Bool) (n : ℕ) → ((u : ℕ) → u < n → test u ≡ false) → any_below test n ≡ false
any_below-none test zero h = refl
any_below-none test (suc t) h = ap (λ x. x || any_below test t) (h t (omega arith)) ∙ any_below-none test t (λ u l. h u (omega arith))

pub any_below-at : (test : ℕ → Bool) (n : ℕ) → any_below test n ≡ false → (u : ℕ) → u < n → test u ≡ false
any_below-at test zero e u l = absurd (omega arith)
any_below-at test (suc t) e u l =
    let parts = or_parts (test t) (any_below test t) e in
    elim (cases_eq u t) [ inl same ↦ ap test same ∙ parts.0 | inr n ↦ any_below-at test t parts.1 u (omega arith) ]

pub any_below-same : (f g : ℕ → Bool) (n : ℕ) → ((u : ℕ) → u < n → f u ≡ g u) → any_below f n ≡ any_below g n
any_below-same f g zero h = refl
any_below-same f g (suc t) h = ap (λ x. x || any_below f t) (h t (omega arith)) ∙ ap (λ x. g t || x) (any_below-same f g t (λ u l. h u (omega arith)))

-- what holds where a condition does
pub where_at : (which test : Bool) → cond which test true ≡ true → which ≡ true → test ≡ true
where_at which test e w = grind arith

pub where_from : (which test : Bool) → (which ≡ true → test ≡ true) → cond which test true ≡ true
where_from true test h = h refl
where_from false test h = refl
