-- The words of a set that one word says, and of one that it doesn't.
use Rattle.std.proofs.Common.{◌≡◌, ℕ, zero, suc, ◌+◌, ◌-◌, ◌*◌, ◌/◌, ◌%◌, ◌^◌, ◌<◌, ◌≤◌, inl, inr, ap, ◌∙◌, Bool, ◌&&◌, nat_eq, nat_lt, List, filter, get_or, bit_or, arith, nat_cmp, w64}
use Rattle.process_api.proofs.{Basics.{bit_at, trailing_zeros, eq-zero-or-pos, cases_lt, nat_tests, le_or_l, le_or_r, bit_at-trailing_zeros, most_processes, numbers_to, HasAbove, insert_all, of_word, is_set, members}, BitWords.{none_set}}
use Rattle.process_api.proofs.{Contains.{contains-insert_all, same_members}, Told.{contains-members, told_in_range}}
use Rattle.std.specs.FinSet as set

-- where a test tells no one above m
told_to : (m n : ℕ) (told own : ℕ → Bool) → m ≤ n → ((i : ℕ) → i < n → told i ≡ (nat_lt i m && own i))
    → members n told ≡ insert_all set.empty (filter (λ q. own (q - 1)) (numbers_to m))
told_to m n told own more low = same_members _ _ (λ q.
    grind (low (q - 1), contains-members told n q, contains-insert_all set.empty (λ p. own (p - 1)) m q, set.contains-empty nat_cmp q, arith, nat_tests))

module _ (words : List ℕ) where
  -- those after the first
  abbrev pub rest : ℕ
  rest = bit_or (bit_or (get_or words 1 0) (get_or words 2 0)) (get_or words 3 0)

  module _ (alone : rest ≡ 0) where
    empty : (k : ℕ) → 1 ≤ k → k < 4 → get_or words k 0 ≡ 0
    empty zero low high = absurd (omega (arith, low))
    empty (suc zero) low high = omega (arith, alone, le_or_l, le_or_r)
    empty (suc (suc zero)) low high = omega (arith, alone, le_or_l, le_or_r)
    empty (suc (suc (suc zero))) low high = omega (arith, alone, le_or_l, le_or_r)
    empty (suc (suc (suc (suc k)))) low high = absurd (omega (arith, high))

    in_the_first : (i : ℕ) → i < most_processes → is_set words i ≡ (nat_lt i 64 && nat_eq (bit_at (get_or words 0 0) i) 1)
    in_the_first i below = elim (cases_lt i 64) [
      | inl low ↦
          let word : i / 64 ≡ 0 = omega arith in
          let bit : i % 64 ≡ i = omega arith in
          (λ j. nat_eq (bit_at (get_or words (word j) 0) (bit j)) 1) ∙ grind (arith, nat_tests)
      | inr high ↦ none_set words i (empty (i / 64) (omega arith) (omega arith)) ∙ grind (arith, nat_tests)
    ]

    pub is_word : members most_processes (is_set words) ≡ of_word (get_or words 0 0)
    unfolding of_word
    is_word = told_to 64 most_processes (is_set words) (λ i. nat_eq (bit_at (get_or words 0 0) i) 1) (omega arith) in_the_first

  has_of : (k : ℕ) → 1 ≤ k → k < 4 → get_or words k 0 < 2 ^ 64 → 0 < get_or words k 0 → HasAbove 64 (members most_processes (is_set words))
  has_of k low high fits some =
      let at = trailing_zeros w64 (get_or words k 0) in
      let found = bit_at-trailing_zeros w64 (get_or words k 0) some fits in
      let within : at < 64 = found.0 in
      let word : (k * 64 + at + 1 - 1) / 64 ≡ k = omega arith in
      let bit : (k * 64 + at + 1 - 1) % 64 ≡ at = omega arith in (
        k * 64 + at + 1,
        omega arith,
        told_in_range (is_set words) most_processes (k * 64 + at + 1) (omega arith) (omega arith)
            ∙ ((λ j. nat_eq (bit_at (get_or words (word j) 0) (bit j)) 1) ∙ ap (λ b. nat_eq b 1) found.1),
      )

  pub has_above : (rest ≡ 0 → ⊥) → ((k : ℕ) → get_or words k 0 < 2 ^ 64) → HasAbove 64 (members most_processes (is_set words))
  has_above more fits = elim (eq-zero-or-pos (get_or words 1 0)) [
    | inr some ↦ has_of 1 (omega arith) (omega arith) (fits 1) some
    | inl second ↦ elim (eq-zero-or-pos (get_or words 2 0)) [
      | inr some ↦ has_of 2 (omega arith) (omega arith) (fits 2) some
      | inl third ↦ elim (eq-zero-or-pos (get_or words 3 0)) [
        | inr some ↦ has_of 3 (omega arith) (omega arith) (fits 3) some
        | inl fourth ↦ absurd (more (λ i. bit_or (bit_or (second i) (third i)) (fourth i)))
      ]
    ]
  ]
