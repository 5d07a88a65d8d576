-- What holds of all of a list, and of parts of 1 to n.
use Rattle.process_api.proofs.Basics.{◌≡◌, ℕ, zero, suc, ◌≤◌, refl, Bool, true, false, cond, Option, None, Some, List, [], ◌∷◌, ◌++◌, map, arith, AllByRecursion, filter, numbers_to}

pub both : {X : Type 0} (P : X → Type 0) (xs ys : List X) → AllByRecursion P xs → AllByRecursion P ys → AllByRecursion P (xs ++ ys)
both P [] ys a b = b
both P (x ∷ xs) ys a b = (a.0, both P xs ys a.1 b)

pub images : {X Y : Type 0} (P : Y → Type 0) (f : X → Y) (xs : List X) → AllByRecursion (λ x. P (f x)) xs → AllByRecursion P (map f xs)
images P f [] a = tt
images P f (x ∷ xs) a = (a.0, images P f xs a.1)

pub always : {X : Type 0} (P : X → Type 0) → ((x : X) → P x) → (xs : List X) → AllByRecursion P xs
always P f [] = tt
always P f (x ∷ xs) = (f x, always P f xs)

pub weaker : {X : Type 0} (P Q : X → Type 0) → ((x : X) → P x → Q x) → (xs : List X) → AllByRecursion P xs → AllByRecursion Q xs
weaker P Q f [] a = tt
weaker P Q f (x ∷ xs) a = (f x a.0, weaker P Q f xs a.1)

pub filtered : {X : Type 0} (P : X → Type 0) (p : X → Bool) (xs : List X) → AllByRecursion P xs → AllByRecursion P (filter p xs)
filtered P p [] a = tt
filtered P p (x ∷ xs) a = elim (p x) as (λ b. AllByRecursion P (cond b (x ∷ filter p xs) (filter p xs))) [ true ↦ (a.0, filtered P p xs a.1) | false ↦ filtered P p xs a.1 ]

pub numbers_are : (n : ℕ) → AllByRecursion (λ q. (1 ≤ q) × (q ≤ n)) (numbers_to n)
numbers_are zero = tt
numbers_are (suc n) =
    both _ (numbers_to n) (suc n ∷ []) (weaker (λ q. (1 ≤ q) × (q ≤ n)) (λ q. (1 ≤ q) × (q ≤ suc n)) (λ q h. (h.0, omega (arith, h.1))) (numbers_to n) (numbers_are n))
    ((omega arith, omega arith), tt)

-- what holds of both ends of a choice by a value that may be there
pub option_both : {A X : Type 0} (o : Option A) (z : X) (f : A → X) (P : X → Type 0) → (o ≡ None → P z) → ((a : A) → o ≡ Some a → P (f a)) → P (elim o as (λ q. X) [ None ↦ z | Some a ↦ f a ])
option_both None z f P p q = p refl
option_both (Some a) z f P p q = q a refl
