-- The first number of a range that passes, and what is said of each item.
use Rattle.network.proofs.Basics.{◌≡◌, ℕ, suc, ◌<◌, ◌+◌, ◌-◌, Bool, true, false, cond, Some, List, [], ◌∷◌, map, refl, ap, ◌∙◌, arith, add-one, find, range_with_len, Data, view, items_view, Value, each}

pub range_next : (i n : ℕ) → i < n → range_with_len (i + 1) (n - i) ≡ (i + 1) ∷ range_with_len (i + 1 + 1) (n - (i + 1))
range_next i n low =
    let more : n - i ≡ suc (n - (i + 1)) = omega (arith, low) in
    rw (more, add-one) refl

module _ (p : ℕ → Bool) (i n : ℕ) (b : Bool) (q : ℕ) (low : i < n) (is : q ≡ i + 1) (test : b ≡ p q) where
  step : find p (range_with_len (i + 1) (n - i)) ≡ cond b (Some q) (find p (range_with_len (i + 1 + 1) (n - (i + 1))))
  step = ap (find p) (range_next i n low) ∙ rw (← is, ← test) refl

  -- the next number passes, or doesn't
  pub found_next : b ≡ true → find p (range_with_len (i + 1) (n - i)) ≡ Some q
  found_next passes = step ∙ rw passes refl

  pub passed_next : b ≡ false → find p (range_with_len (i + 1) (n - i)) ≡ find p (range_with_len (i + 1 + 1) (n - (i + 1)))
  passed_next fails = step ∙ rw fails refl

pub each_view : {T : Type 0} (says : Data → T) (vs : List Value) → each says (items_view vs) ≡ map (λ v. says (view v)) vs
each_view says [] = refl
each_view says (v ∷ vs) = ap (λ ts. says (view v) ∷ ts) (each_view says vs)
