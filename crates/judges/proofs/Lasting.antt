-- The least tick from which a test passes to the end.
use Rattle.judges.proofs.Words.{◌≡◌, ℕ, zero, suc, ◌<◌, ◌≤◌, Bool, true, false, cond, ◌&&◌, inl, inr, refl, sym, ap, ◌∙◌, arith, ltb, None, Some, cases_lt, lt-ltb, cond-true, cond-false, or_right, or_left, or_cases, and_parts, and_from, ltb-true, all_from, first_of, least_below, before}
use Rattle.judges.proofs.Below.{all_below-at, all_below-from}

pub least_below-none : (test : ℕ → Bool) (n : ℕ) → ((u : ℕ) → u < n → test u ≡ false) → least_below test n ≡ None
least_below-none test zero h = refl
least_below-none test (suc t) h =
    ap (λ o. first_of o (cond (test t) (Some t) None)) (least_below-none test t (λ u l. h u (omega arith))) ∙ cond-false (test t) (Some t) None (h t (omega arith))

pub least_below-is : (test : ℕ → Bool) (n s : ℕ) → s < n → test s ≡ true → ((u : ℕ) → u < s → test u ≡ false) → least_below test n ≡ Some s
least_below-is test zero s l e h = absurd (omega arith)
least_below-is test (suc t) s l e h =
    elim (cases_lt s t) [
      | inl p ↦ ap (λ o. first_of o (cond (test t) (Some t) None)) (least_below-is test t s p e h)
      | inr p ↦
          let same : s ≡ t = omega arith in
          ap (λ o. first_of o (cond (test t) (Some t) None)) (least_below-none test t (λ u m. h u (omega arith)))
          ∙ cond-true (test t) (Some t) None (ap test (sym same) ∙ e) ∙ ap (λ x. Some x) (sym same)
    ]

-- a stretch of all ticks from u takes in each
pub all_from-at : (f : ℕ → Bool) (u t v : ℕ) → all_from f u t ≡ true → u ≤ v → v < t → f v ≡ true
all_from-at f u t v e x y =
    elim (or_cases (ltb v u) (f v) (all_below-at _ t e v y)) [ inl p ↦ absurd (let q : v < u = ltb-true v u p in omega arith) | inr p ↦ p ]

pub last_before : (f : ℕ → Bool) (s : ℕ) → before f s ≡ false → (u : ℕ) → u < s → (v : ℕ) × (u ≤ v) × (v < s) × (f v ≡ false)
last_before f zero e u l = absurd (omega arith)
last_before f (suc v) e u l = (v, omega arith, omega arith, e)

pub all_from-from : (f : ℕ → Bool) (u t : ℕ) → ((v : ℕ) → u ≤ v → v < t → f v ≡ true) → all_from f u t ≡ true
all_from-from f u t h = all_below-from _ t (λ v l. elim (cases_lt v u) [ inl p ↦ or_left (ltb v u) (f v) (lt-ltb v u p) | inr p ↦ or_right (ltb v u) (f v) (h v p l) ])

-- two tests that imply each other
pub same_tests : (x y : Bool) → (x ≡ true → y ≡ true) → (y ≡ true → x ≡ true) → x ≡ y
same_tests x y h g = grind arith

pub all_from-and : (f g : ℕ → Bool) (u t : ℕ) → all_from (λ v. f v && g v) u t ≡ (all_from f u t && all_from g u t)
all_from-and f g u t =
    same_tests _ _
    (λ e. and_from (all_from f u t) (all_from g u t)
    (all_from-from f u t (λ v x y. (and_parts (f v) (g v) (all_from-at (λ v. f v && g v) u t v e x y)).0))
    (all_from-from g u t (λ v x y. (and_parts (f v) (g v) (all_from-at (λ v. f v && g v) u t v e x y)).1)))
    (λ e. let both = and_parts (all_from f u t) (all_from g u t) e in
    all_from-from (λ v. f v && g v) u t (λ v x y. and_from (f v) (g v) (all_from-at f u t v both.0 x y) (all_from-at g u t v both.1 x y)))
