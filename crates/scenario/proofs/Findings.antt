-- What is found with a refusal.
use Rattle.scenario.proofs.Words.{◌≡◌, ℕ, ℤ, List, true, Option, Some, None, IfSome, refl, rules, codes, option_or, Data, integer, as_integer, Members, Subject, subject_of, IsFault, IsFoundBy, IsValueFault, has_integer, integer_in, is_of_pair, ScenarioError}
use Rattle.std.proofs.lemmas.Bool.Decides.{Decides-int_eq}
use Rattle.scenario.specs.declared.{fault.Fault.{Fault}, place.Place.{Place}}
use Rattle.scenario.specs.declared.fault.Fault.TheVariants as fault

-- a value's fault is one of its table
pub value_fault : (e : ScenarioError) (file : Members) (at : Place) (table : Members) (f : Fault) → IsValueFault (subject_of e at file) table f → IsFault e file at table f
value_fault e file at table (fault.UnknownKey u) is = absurd is
value_fault e file at table (fault.MissingKey key) is = absurd is
value_fault e file at table (fault.WrongKind w) is = absurd is
value_fault e file at table _ is = is

pub has_it : (key : List ℕ) (z : ℤ) (t : Members) → Some z ≡ integer_in key t → has_integer key z t ≡ true
has_it key z t is = rw (← is) ((Decides-int_eq z z).1 refl)

pub integer_is : (d : Data) (z : ℤ) → Some z ≡ as_integer d → d ≡ integer z
integer_is d z is = elim d as (λ e. Some z ≡ as_integer e → e ≡ integer z) [
  | integer y ↦ λ same. search (rules, same)
  | _ ↦ λ same. search (rules, same)
] is

pub both_it : (from to : ℤ) (t : Members) → Some from ≡ integer_in (codes "from") t → Some to ≡ integer_in (codes "to") t → is_of_pair from to t ≡ true
both_it from to t is also = rw (has_it (codes "from") from t is, has_it (codes "to") to t also) refl

-- what is so of two things, if they are there, is so of the first that is
pub either_found : {X : Type 0} (P : X → Type 0) (a b : Option X) → IfSome a P → IfSome b P → IfSome (option_or a b) P
either_found P None b first second = second
either_found P (Some x) b first second = first

pub either : (s : Subject) (t : Members) (a b : Option Fault) → IsFoundBy s t a → IsFoundBy s t b → IsFoundBy s t (option_or a b)
unfolding IsFoundBy
either s t a b first second = either_found (IsValueFault s t) a b first second
