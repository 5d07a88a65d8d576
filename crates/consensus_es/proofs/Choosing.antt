-- The best estimate has the largest stamp, and of those with that stamp the least sender.
use Rattle.consensus_es.proofs.Words.{◌≡◌, ◌⊎◌, ℕ, zero, suc, ◌<◌, ◌≤◌, inl, inr, ⊎_elim, refl, sym, ap, ◌∙◌, subst, arith, Option, None, Some, ltb-true, ltb-false, cond_both, none-some, same_Some, better, best_to, Estimate}
use Rattle.consensus_es.specs.State.{IsBest, IsBehind}

-- the best, or that there is none
abbrev Is : ℕ → (ℕ → Option Estimate) → Option Estimate → Type 0
Is n f None = (p : ℕ) → 1 ≤ p → p ≤ n → f p ≡ None
Is n f (Some e) = IsBest n f e

last_or : (p n : ℕ) → p ≤ suc n → (p ≡ suc n) ⊎ (p ≤ n)
last_or p n h = grind arith

behind : (x y q m : ℕ) → x ≤ y → q ≤ m → (x < y) ⊎ ((x ≡ y) × (q ≤ m))
behind x y q m h k = grind arith

less_by : (x y z q p : ℕ) → (x < y) ⊎ ((x ≡ y) × (q ≤ p)) → y < z → x < z
less_by x y z q p h k = grind arith

module _ (n : ℕ) (f : ℕ → Option Estimate) where
  by_place : (A : ℕ → Type 0) → ((p : ℕ) → p ≤ n → A p) → A (suc n) → (p : ℕ) → p ≤ suc n → A p
  by_place A early last p high = ⊎_elim (λ e. subst A (sym e) last) (early p) (last_or p n high)

  -- the earlier best stays
  stays : (a : Estimate) → ((d : Estimate) → f (suc n) ≡ Some d → d.stamp ≤ a.stamp) → IsBest n f a → IsBest (suc n) f a
  stays a low b = (
    b.0,
    b.1,
    omega (arith, b.2),
    b.3,
    λ p first high. by_place (λ p. 1 ≤ p → (d : Estimate) → f p ≡ Some d → IsBehind a b.0 p d) (λ p h one. b.4 p one h) (λ one d at. behind d.stamp a.stamp b.0 (suc n) (low d at) (omega (arith, b.2))) p high first,
  )

  -- the last is the best
  wins : (b : Estimate) → f (suc n) ≡ Some b → ((p : ℕ) → 1 ≤ p → p ≤ n → (d : Estimate) → f p ≡ Some d → d.stamp < b.stamp) → IsBest (suc n) f b
  wins b y less = (
    suc n,
    omega arith,
    omega arith,
    y,
    λ p first high. by_place (λ p. 1 ≤ p → (d : Estimate) → f p ≡ Some d → IsBehind b (suc n) p d) (λ p h one d at. inl (less p one h d at)) (λ one d at. inr (ap (λ (z : Estimate). z.stamp) (same_Some d b (sym at ∙ y)), omega arith)) p high first,
  )

  next : (a b : Option Estimate) → f (suc n) ≡ b → Is n f a → Is (suc n) f (better a b)
  next None None y none = λ p first high. by_place (λ p. 1 ≤ p → f p ≡ None) (λ p h one. none p one h) (λ one. y) p high first
  next None (Some b) y none = wins b y (λ p first h d at. absurd (none-some d (sym (none p first h) ∙ at)))
  next (Some a) None y best = stays a (λ d at. absurd (none-some d (sym y ∙ at))) best
  next (Some a) (Some b) y best =
      cond_both _ _ _ (Is (suc n) f)
      (λ t. wins b y (λ p first h d at. less_by d.stamp a.stamp b.stamp best.0 p (best.4 p first h d at) (ltb-true _ _ t)))
      (λ t. stays a (λ d at. subst (λ (z : Estimate). z.stamp ≤ a.stamp) (same_Some b d (sym y ∙ at)) (ltb-false _ _ t)) best)

best : (n : ℕ) (f : ℕ → Option Estimate) → Is n f (best_to n f)
best zero f = λ p first high. absurd (omega (arith, first, high))
best (suc n) f = next n f (best_to n f) (f (suc n)) refl (best n f)

pub best_is : (n : ℕ) (f : ℕ → Option Estimate) (e : Estimate) → best_to n f ≡ Some e → IsBest n f e
best_is n f e is = subst (Is n f) is (best n f)
