-- Frames and heads that grow.
use Rattle.drawing.proofs.Words.{◌≡◌, ℕ, true, inl, inr, refl, List, ◌++◌, map, map-append, Contains-append_left, list_all-append, Tells, are_frame, placeless, without_place}
use Rattle.svg.specs.declared.shape.Shape.{Shape}

pub joined : (xs ys : List Shape) → are_frame xs ≡ true → are_frame ys ≡ true → are_frame (xs ++ ys) ≡ true
joined xs ys e f = rw (list_all-append _ xs ys, e, f) refl

-- a head goes on to tell what it tells
pub tells_on : (count : ℕ) (xs ys : List Shape) → Tells count xs → Tells count (xs ++ ys)
unfolding placeless
tells_on count xs ys (inl none) = inl none
tells_on count xs ys (inr h) = inr (h.0, rw (map-append without_place xs ys) (Contains-append_left (map without_place xs) _ _ h.1))
