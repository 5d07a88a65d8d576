-- Each of n processes is among their numbers, and each but one among the others.
use Rattle.detector_bounds.proofs.Words.{◌≢◌, ℕ, zero, suc, ◌≤◌, inl, inr, ap, not, nat_eq, [], ◌∷◌, arith, cases_eq, ne_eqb, numbers_to, others, IsIn, in_left, in_right, in_filter}

pub in_numbers : (n q : ℕ) → 1 ≤ q → q ≤ n → IsIn q (numbers_to n)
in_numbers zero q low high = absurd (omega (arith, low, high))
in_numbers (suc n) q low high = elim (cases_eq q (suc n)) [
  | inl last ↦ in_right q (numbers_to n) (suc n ∷ []) (inl last)
  | inr apart ↦ in_left q (numbers_to n) (suc n ∷ []) (in_numbers n q low (omega (arith, high, apart)))
]

pub in_others : (n p q : ℕ) → 1 ≤ q → q ≤ n → q ≢ p → IsIn q (others n p)
in_others n p q low high apart = in_filter (λ r. not (nat_eq r p)) (numbers_to n) q (in_numbers n q low high) (ap not (ne_eqb q p apart))
