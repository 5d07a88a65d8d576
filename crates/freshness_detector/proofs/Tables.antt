-- A table with one more heartbeat stands for the state that heard it.
use Rattle.freshness_detector.proofs.Words.{◌≡◌, ◌≢◌, ◌⊎◌, inl, inr, ℕ, ◌<◌, sym, ap, ◌∙◌, List, length, Bool, false, cond, ◌||◌, nat_le, Option, None, slice_index_or, slice_set, cases_eq, eq-eqb, ne_eqb, get_or-set_same, get_or-set_other, option_map_or, heard, change, Place, FreshnessNumbers, state_by}

module _ (latest : List (Option ℕ)) (q j : ℕ) (g : Option ℕ) (inside : q < length latest)
    (is : (i : ℕ) → option_map_or (nat_le i) g false ≡ (nat_le i j || option_map_or (nat_le i) (slice_index_or latest q None) false)) where
  abbrev came : ℕ → ℕ → Bool
  came p i = option_map_or (nat_le i) (slice_index_or latest p None) false

  abbrev now : ℕ → ℕ → Bool
  now p i = option_map_or (nat_le i) (slice_index_or (slice_set latest q g) p None) false

  at : (p i : ℕ) → now p i ≡ change came q (λ i. nat_le i j || came q i) p i
  at p i = go (cases_eq p q)
    where
      go : (p ≡ q) ⊎ (p ≢ q) → now p i ≡ change came q (λ i. nat_le i j || came q i) p i
      go (inl e) =
          ap (λ k. now k i) e
          ∙ (ap (λ o. option_map_or (nat_le i) o false) (get_or-set_same latest q g None inside)
          ∙ (is i ∙ sym (ap (λ b. (cond b (λ i. nat_le i j || came q i) (came p)) i) (eq-eqb p q e))))
      go (inr apart) =
          ap (λ o. option_map_or (nat_le i) o false) (get_or-set_other latest q p g None apart)
          ∙ sym (ap (λ b. (cond b (λ i. nat_le i j || came q i) (came p)) i) (ne_eqb p q apart))

  pub heard_tables : (sent reached : ℕ) (place : Place) (numbers : FreshnessNumbers) → state_by sent reached (slice_set latest q g) ≡ heard place numbers (state_by sent reached latest) q j
  heard_tables sent reached place numbers = λ k. record { sent = sent; reached = reached; came = λ p i. at p i k }
