-- What is said last of a link.
use Rattle.network.proofs.Basics.{◌≡◌, ℕ, ◌+◌, ◌<◌, Bool, true, false, cond, refl, ap, ◌∙◌, List, [], ◌∷◌, ◌++◌, length, get_or, map, take, Option, Some, None, if◌then◌else◌, append-nil, map-append, filter_more}
use Rattle.std.specs.List.{filter, last_or}

last_or-append : {A : Type 0} (o : Option A) (ys : List A) (y : A) → last_or o (ys ++ y ∷ []) ≡ Some y
last_or-append o [] y = refl
last_or-append o (z ∷ zs) y = last_or-append (Some z) zs y

one_later : {X A : Type 0} (f : X → A) (front : List X) (b : Bool) (x : X)
    → last_or None (map f (front ++ cond b (x ∷ []) [])) ≡ (if b then Some (f x) else last_or None (map f front))
one_later f front true x = ap (last_or None) (map-append f front (x ∷ [])) ∙ last_or-append None (map f front) (f x)
one_later f front false x = ap (λ xs. last_or None (map f xs)) (append-nil front)

-- one more is the last, where it passes
pub later : {X A : Type 0} (f : X → A) (p : X → Bool) (xs : List X) (i : ℕ) (x : X) → i < length xs → get_or xs i x ≡ x
    → last_or None (map f (filter p (take (i + 1) xs)))
    ≡ (if p x then Some (f x) else last_or None (map f (filter p (take i xs))))
later f p xs i x low at =
    let front = filter p (take i xs) in
    ap (λ ys. last_or None (map f ys)) (filter_more p xs i x low ∙ ap (λ y. front ++ cond (p y) (y ∷ []) []) at)
    ∙ one_later f front (p x) x
