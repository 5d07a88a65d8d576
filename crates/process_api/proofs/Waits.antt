-- Waits that end one after the other, each as soon as it can, of whichever algorithm.
use Rattle.process_api.proofs.{Basics.{◌≡◌, ℕ, zero, suc, ◌<◌, ◌≤◌, refl, sym, ap, ◌∙◌, subst, arith, Option, None, Some, IfSome, AllByRecursion, Answer, still, after, Action}, Lists.{both}}

module _ {S : Type 0} (end_wait : S → Option (Answer S)) (end_waits : ℕ → S → Answer S) where
  -- nothing, or the end of a wait and what comes after it
  abbrev onward : ℕ → S → Option (Answer S) → Answer S
  onward k s o = elim o [ None ↦ still s | Some a ↦ after a.actions (end_waits k a.state) ]

  module _ (none : (s : S) → end_waits 0 s ≡ still s) (more : (k : ℕ) (s : S) → end_waits (suc k) s ≡ onward k s (end_wait s)) where
    -- what holds where nothing is done, and of each end with what comes after it, holds of all waits
    pub by_ends : (Q : S → Answer S → Type 0) → ((s : S) → Q s (still s)) → ((s : S) (a b : Answer S) → end_wait s ≡ Some a → Q a.state b → Q s (after a.actions b))
        → (k : ℕ) (s : S) → Q s (end_waits k s)
    by_ends Q here on zero s = subst (Q s) (sym (none s)) (here s)
    by_ends Q here on (suc k) s = subst (Q s) (sym (more k s)) (go (end_wait s) refl (by_ends Q here on k))
      where
        go : (o : Option (Answer S)) → end_wait s ≡ o → ((s : S) → Q s (end_waits k s)) → Q s (onward k s o)
        go None is rest = here s
        go (Some a) is rest = on s a (end_waits k a.state) is (rest a.state)

    -- what each end does, all do
    pub all_do : (P : Action → Type 0) → ((s : S) → IfSome (end_wait s) (λ a. AllByRecursion P a.actions)) → (k : ℕ) (s : S) → AllByRecursion P (end_waits k s).actions
    all_do P each = by_ends (λ s b. AllByRecursion P b.actions) (λ s. tt) (λ s a b is rest. both P a.actions b.actions (subst (λ o. IfSome o (λ a. AllByRecursion P a.actions)) is (each s)) rest)

    -- where no wait is over nothing is done
    pub stops : (k : ℕ) (s : S) → end_wait s ≡ None → end_waits k s ≡ still s
    stops zero s is = none s
    stops (suc k) s is = more k s ∙ ap (onward k s) is

    -- after each end fewer waits are left
    module _ (left : S → ℕ) (fewer : (s : S) → IfSome (end_wait s) (λ a. left a.state < left s)) where
      none_left : (s : S) → left s ≤ 0 → end_wait s ≡ None
      none_left s few = go (end_wait s) (fewer s)
        where
          go : (o : Option (Answer S)) → IfSome o (λ a. left a.state < left s) → o ≡ None
          go None less = refl
          go (Some a) less = absurd (omega (arith, few, less))

      -- once so many have ended none is over
      pub over : (k : ℕ) (s : S) → left s ≤ k → end_wait (end_waits k s).state ≡ None
      over zero s few = ap (λ (a : Answer S). end_wait a.state) (none s) ∙ none_left s few
      over (suc k) s few = ap (λ (a : Answer S). end_wait a.state) (more k s) ∙ go (end_wait s) refl (fewer s) (over k)
        where
          go : (o : Option (Answer S)) → end_wait s ≡ o → IfSome o (λ a. left a.state < left s) → ((s : S) → left s ≤ k → end_wait (end_waits k s).state ≡ None)
              → end_wait (onward k s o).state ≡ None
          go None is less rest = is
          go (Some a) is less rest = rest a.state (omega (arith, few, less))

      -- a larger bound changes nothing
      enough : (k m : ℕ) (s : S) → left s ≤ k → left s ≤ m → end_waits k s ≡ end_waits m s
      enough zero m s a b = none s ∙ sym (stops m s (none_left s a))
      enough (suc k) zero s a b = stops (suc k) s (none_left s b) ∙ sym (none s)
      enough (suc k) (suc m) s a b = more k s ∙ (go (end_wait s) (fewer s) (enough k) ∙ sym (more m s))
        where
          go : (o : Option (Answer S)) → IfSome o (λ a. left a.state < left s) → ((m : ℕ) (s : S) → left s ≤ k → left s ≤ m → end_waits k s ≡ end_waits m s) → onward k s o ≡ onward m s o
          go None less rest = refl
          go (Some z) less rest = ap (after z.actions) (rest m z.state (omega (arith, a, less)) (omega (arith, b, less)))

      -- where a wait is over its end comes first, and then the waits of the state after it
      pub settles_on : (s : S) (a : Answer S) → end_wait s ≡ Some a → end_waits (left s) s ≡ after a.actions (end_waits (left a.state) a.state)
      settles_on s a is = go (left s) refl
        where
          less : left a.state < left s
          less = subst (λ o. IfSome o (λ a. left a.state < left s)) is (fewer s)

          go : (k : ℕ) → left s ≡ k → end_waits k s ≡ after a.actions (end_waits (left a.state) a.state)
          go zero e = absurd (omega (arith, e, less))
          go (suc k) e = more k s ∙ (ap (onward k s) is ∙ ap (after a.actions) (enough k (left a.state) a.state (omega (arith, e, less)) (omega arith)))
