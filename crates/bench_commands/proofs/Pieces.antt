-- The line of a scenario's refusal.
use Rattle.bench_commands.proofs.Words.{◌≡◌, ap, refl, ℕ, List, ◌++◌, codes, decimal, after_name}
use Rattle.scenario.specs.{Refusals.{name_of}, declared.error.ScenarioError.{ScenarioError}}
use Rattle.scenario.specs.declared.error.ScenarioError.TheVariants as error

-- of a link that is below the lookahead the pair is told
pub pair_line : (begin name from to : List ℕ) (e : ScenarioError) (p q : ℕ) → e ≡ error.BelowLookahead p q → name ≡ name_of e → from ≡ decimal p
    → to ≡ decimal q → begin ++ (name ++ (codes " " ++ (from ++ (codes " " ++ (to ++ codes "\n"))))) ≡ begin ++ (name_of e ++ after_name e)
pair_line begin name from to e p q is named first second =
    let after : after_name e ≡ codes " " ++ (decimal p ++ (codes " " ++ (decimal q ++ codes "\n"))) = ap after_name is in cc

-- and of no other refusal
after_other : (e : ScenarioError) → ((p q : ℕ) → e ≡ error.BelowLookahead p q → ⊥) → after_name e ≡ codes "\n"
after_other (error.BelowLookahead p q) other = absurd (other p q refl)
after_other _ other = refl

pub name_line : (begin name : List ℕ) (e : ScenarioError) → ((p q : ℕ) → e ≡ error.BelowLookahead p q → ⊥) → name ≡ name_of e
    → begin ++ (name ++ codes "\n") ≡ begin ++ (name_of e ++ after_name e)
name_line begin name e other named = let after : after_name e ≡ codes "\n" = after_other e other in cc
