-- Proposals that are read from the numbers of an array.
use Rattle.std.specs.{Prelude.{◌≡◌, ℕ, ℤ, List, map, true, false, Option, MatchOption}, List.{list_any}, Global.{Vec}}
use Rattle.scenario.specs.{Text.{natural}, Rules.{is_bad_proposal}}

-- what is read of the numbers is they, where each is in its range
abbrev pub AreReadOf : List ℤ → Option (Vec ℕ) → Type 0
AreReadOf numbers found = MatchOption found (list_any is_bad_proposal numbers ≡ true)
    (λ v. (list_any is_bad_proposal numbers ≡ false) × (v.items ≡ map natural numbers))
