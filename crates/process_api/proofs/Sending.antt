-- Letters to all, and to all others.
use Rattle.process_api.proofs.{Basics.{◌≡◌, ℕ, ◌≤◌, ◌∙◌, not, nat_eq, length, arith, length-map, AllByRecursion, to_all, to_others, numbers_to, others, Action, Send, Payload}, Lists.{images, weaker, filtered, numbers_are}}
use Rattle.process_api.proofs.Numbering.{length-numbers_to, length-filter_to}

-- what holds of a letter to each of 1 to n
module _ (P : Action → Type 0) (n : ℕ) (what : Payload) (each : (q : ℕ) → (1 ≤ q) × (q ≤ n) → P (Send q what)) where
  sent : AllByRecursion (λ q. P (Send q what)) (numbers_to n)
  sent = weaker (λ q. (1 ≤ q) × (q ≤ n)) (λ q. P (Send q what)) each (numbers_to n) (numbers_are n)

  pub sent_to_all : AllByRecursion P (to_all n what)
  sent_to_all = images P (λ q. Send q what) (numbers_to n) sent

  pub sent_to_others : (own : ℕ) → AllByRecursion P (to_others n own what)
  sent_to_others own = images P (λ q. Send q what) (others n own) (filtered (λ q. P (Send q what)) (λ q. not (nat_eq q own)) (numbers_to n) sent)

pub length-to_all : (n : ℕ) (what : Payload) → length (to_all n what) ≡ n
length-to_all n what = length-map (numbers_to n) (λ q. Send q what) ∙ length-numbers_to n

pub length-to_others : (n own : ℕ) (what : Payload) → length (to_others n own what) ≤ n
length-to_others n own what = omega (arith, length-map (others n own) (λ q. Send q what), length-filter_to (λ q. not (nat_eq q own)) n)
