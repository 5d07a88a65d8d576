-- What is found first.
use Rattle.study_commands.proofs.Words.{◌≡◌, ◌∙◌, ap, sym, ℕ, suc, ◌+◌, ◌<◌, ◌≤◌, Bool, true, cond, List, length, drop, drop-cons, get_or, Option, Some, None, is_some, get_or-range_with_len, drop_all, get_or_default, count_by, position, position_from, range_with_len, option_and_then, option_map, found}
use Rattle.{std.proofs.lemmas.Iterator.Adapters.{position_from-zero}, study_commands.specs.declared.found.Found.{Found}}

module _ {X : Type 0} (p : X → Bool) (xs : List X) where
  pub first_here : (place : ℕ) (d : X) → place < length xs → p (get_or xs place d) ≡ true
      → position_from p 0 xs ≡ position_from p place (drop place xs) → Some place ≡ position p xs
  first_here place d low holds so_far =
      sym (position_from-zero p xs ∙ so_far ∙ ap (position_from p place) (drop-cons xs place d low)
      ∙ ap (λ b. cond b (Some place) (position_from p (place + 1) (drop (suc place) xs))) holds)

  pub none_there : (place : ℕ) → length xs ≤ place
      → position_from p 0 xs ≡ position_from p place (drop place xs) → None ≡ position p xs
  none_there place past so_far =
      sym (position_from-zero p xs ∙ so_far ∙ ap (position_from p place) (drop_all place xs past))

pub found_is : {T : Type 0} (all : List (Option T)) (begin place : ℕ) (what : T) (d : Option T)
    → position is_some all ≡ Some place → get_or all place d ≡ Some what → place < length all
    → Some (record { points = count_by is_some all; first = begin + place; what = what })
    ≡ found (range_with_len begin (length all)) all
found_is {T} all begin place what d at is low =
    let its : ℕ → T → Found T = λ first w. record { points = count_by is_some all; first = first; what = w } in
    let points = range_with_len begin (length all) in
    sym (ap (option_and_then (λ place. option_map (its (get_or points place 0)) (get_or all place None))) at
    ∙ ap (option_map (its (get_or points place 0))) (get_or_default all place None d low ∙ is)
    ∙ ap (λ n. Some (its n what)) (get_or-range_with_len begin (length all) place 0 low))
