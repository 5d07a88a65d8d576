-- The members of a list, of its image under a function, and of what a filter lets through.
use Rattle.judges.proofs.Words.{◌≡◌, inl, inr, refl, sym, ap, ◌∙◌, subst, Bool, true, false, cond, List, [], ◌∷◌, map, AllByRecursion, filter, IsIn}

-- what holds of all holds of each
pub each_of : {X : Type 0} (P : X → Type 0) (xs : List X) → AllByRecursion P xs → (x : X) → IsIn x xs → P x
each_of P [] all x none = absurd none
each_of P (y ∷ xs) all x (inl e) = subst P (sym e) all.0
each_of P (y ∷ xs) all x (inr i) = each_of P xs all.1 x i

pub of_image : {X Y : Type 0} (f : X → Y) (xs : List X) (y : Y) → IsIn y (map f xs) → (x : X) × IsIn x xs × (y ≡ f x)
of_image f [] y none = absurd none
of_image f (x ∷ xs) y (inl e) = (x, inl refl, e)
of_image f (x ∷ xs) y (inr i) = let r = of_image f xs y i in (r.0, inr r.1, r.2)

pub in_image : {X Y : Type 0} (f : X → Y) (xs : List X) (x : X) → IsIn x xs → IsIn (f x) (map f xs)
in_image f [] x none = absurd none
in_image f (y ∷ xs) x (inl e) = inl (ap f e)
in_image f (y ∷ xs) x (inr i) = inr (in_image f xs x i)

pub in_filter : {X : Type 0} (f : X → Bool) (xs : List X) (x : X) → IsIn x xs → f x ≡ true → IsIn x (filter f xs)
in_filter f [] x none h = absurd none
in_filter f (y ∷ xs) x (inl e) h = subst (λ b. IsIn x (cond b (y ∷ filter f xs) (filter f xs))) (sym (ap f (sym e) ∙ h)) (inl e)
in_filter f (y ∷ xs) x (inr i) h =
    elim (f y) as (λ b. IsIn x (cond b (y ∷ filter f xs) (filter f xs))) [ true ↦ inr (in_filter f xs x i h) | false ↦ in_filter f xs x i h ]
