-- How a run opens.
use Rattle.steps.proofs.Words.{◌≡◌, ℕ, zero, suc, ◌-◌, ◌<◌, ◌≤◌, sym, ap, ◌∙◌, subst, List, [], ◌∷◌, inl, inr, Some, arith, slice_get, get_or, map, option_map, cases_lt, get_or_append_left, get_or_push, All, AllByRecursion, Mind, Record, opening_mind, IsMindIn}
use Rattle.std.proofs.lemmas.{List.Elements.{All-from_recursion}, Option.{slice_get-get_or, slice_get-map}}
use Rattle.{process_api.specs.Place.{numbers_to}, process_api.proofs.Lists.{images, numbers_are, weaker}}
pub use Rattle.process_api.proofs.Numbering.{length-numbers_to}
use Rattle.{scenario_record.specs.Ranges.{IsInRange}, trace_laws.proofs.Sound.{opens_with_mind}}

number_there : (n k : ℕ) → k < n → get_or (numbers_to n) k 0 ≡ suc k
number_there zero k less = absurd (omega (arith, less))
number_there (suc n) k less = elim (cases_lt k n) [
  | inl before ↦ get_or_append_left (numbers_to n) (suc n ∷ []) 0 k (omega (arith, before, length-numbers_to n)) ∙ number_there n k before
  | inr last ↦ get_or_push (numbers_to n) (suc n) 0 k (omega (arith, less, last, length-numbers_to n)) ∙ omega (arith, less, last)
]

-- what a function of the numbers has at a place
pub number_at : {X : Type 0} (f : ℕ → X) (n p : ℕ) → 1 ≤ p → p ≤ n → slice_get (map f (numbers_to n)) (p - 1) ≡ Some (f p)
number_at f n p low high =
    let is : get_or (numbers_to n) (p - 1) 0 ≡ p = number_there n (p - 1) (omega (arith, low, high)) ∙ omega (arith, low) in
    slice_get-map f (numbers_to n) (p - 1)
    ∙ ap (option_map f) (slice_get-get_or (numbers_to n) (p - 1) 0 (omega (arith, low, high, length-numbers_to n)) ∙ ap Some is)

-- machines that open as the scenario says
module _ (s : Record) (is : IsInRange s) where
  of_images : {X : Type 0} (f : X → Mind) (xs : List X) → AllByRecursion (IsMindIn s) (map f xs) → AllByRecursion (λ x. (IsMindIn s) (f x)) xs
  of_images f [] all = tt
  of_images f (x ∷ xs) all = (all.0, of_images f xs all.1)

  pub machines_open : {X : Type 0} (f : X → Mind) (xs : List X) → map f xs ≡ map (opening_mind s) (numbers_to s.processes) → All (λ x. (IsMindIn s) (f x)) xs
  machines_open f xs is_opening =
      let openings = images (IsMindIn s) (opening_mind s) (numbers_to s.processes) (weaker _ _ (λ q h. (h.0, h.1, opens_with_mind s is q)) (numbers_to s.processes) (numbers_are s.processes)) in
      All-from_recursion (λ x. (IsMindIn s) (f x)) xs (of_images f xs (subst (AllByRecursion (IsMindIn s)) (sym is_opening) openings))
