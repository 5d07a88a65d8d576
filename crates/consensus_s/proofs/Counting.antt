-- What holds of 1 to n, looked at one by one.
use Rattle.consensus_s.proofs.Words.{◌≡◌, ◌⊎◌, inl, inr, ℕ, zero, suc, ◌+◌, ◌≤◌, ◌<◌, refl, sym, ap, ◌∙◌, Bool, true, ◌||◌, Option, None, Some, is_some, true≢false, arith, any_to, first_to, or_else}
use Rattle.std.proofs.Math.Bool.{or-true}

at_last : (q n : ℕ) → q ≤ suc n → (q ≡ suc n) ⊎ (q ≤ n)
at_last q n h = grind arith

-- one that is meant is enough
pub any_holds : (n : ℕ) (which : ℕ → Bool) (q : ℕ) → 1 ≤ q → q ≤ n → which q ≡ true → any_to n which ≡ true
any_holds zero which q low high one = absurd (omega arith)
any_holds (suc n) which q low high one = go (at_last q n high) (λ h. any_holds n which q low h one)
  where
    go : (q ≡ suc n) ⊎ (q ≤ n) → (q ≤ n → any_to n which ≡ true) → (any_to n which || which (suc n)) ≡ true
    go (inl e) before = ap (λ b. any_to n which || b) (ap which (sym e) ∙ one) ∙ or-true (any_to n which)
    go (inr h) before = ap (λ b. b || which (suc n)) (before h)

-- the first that has a value gives it
pub first_is : {X : Type 0} (n k : ℕ) (value_of : ℕ → Option X) (found : Option X) → k < n → first_to k value_of ≡ None → value_of (k + 1) ≡ found → is_some found ≡ true → first_to n value_of ≡ found
first_is zero k value_of found less before here some = absurd (omega arith)
first_is {X = X} (suc n) k value_of found less before here some = go (last k n less) (λ h. first_is n k value_of found h before here some)
  where
    last : (k n : ℕ) → k < suc n → (k ≡ n) ⊎ (k < n)
    last k n h = grind arith

    stays : (found other : Option X) → is_some found ≡ true → or_else found other ≡ found
    stays None other e = absurd (true≢false (sym e))
    stays (Some x) other e = refl

    go : (k ≡ n) ⊎ (k < n) → (k < n → first_to n value_of ≡ found) → or_else (first_to n value_of) (value_of (suc n)) ≡ found
    go (inl e) earlier =
        let next : k + 1 ≡ suc n = omega (arith, e) in
        ap (λ o. or_else o (value_of (suc n))) (ap (λ m. first_to m value_of) (sym e) ∙ before) ∙ (ap value_of (sym next) ∙ here)
    go (inr h) earlier = ap (λ o. or_else o (value_of (suc n))) (earlier h) ∙ stays found (value_of (suc n)) some
