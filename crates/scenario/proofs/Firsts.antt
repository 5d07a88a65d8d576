-- Lemmas on the first of some refusals that applies.
use Rattle.scenario.proofs.Words.{◌≡◌, ℕ, List, [], ◌∷◌, ◌++◌, Bool, true, false, Option, Some, None, is_some, refl, sym, ap, subst, Result, Ok, Err, OnOk, IsAnswer, Judges, when, when_below, first_of, ScenarioError}
use Rattle.std.specs.Result.{IsErrAnd}

-- none applies
abbrev pub AreNone : List (Option ScenarioError) → Type 0
AreNone [] = Unit {0}
AreNone (o ∷ os) = (o ≡ None) × AreNone os

pub are_none : (os : List (Option ScenarioError)) → first_of os ≡ None → AreNone os
are_none [] e = tt
are_none (None ∷ os) e = (refl, are_none os e)
are_none (Some x ∷ os) e = cc

-- none of the first ones applies
pub joined : (xs ys : List (Option ScenarioError)) → first_of xs ≡ None → first_of (xs ++ ys) ≡ first_of ys
joined [] ys e = refl
joined (None ∷ xs) ys e = joined xs ys e
joined (Some x ∷ xs) ys e = cc

-- what comes after doesn't matter
pub kept : (xs ys : List (Option ScenarioError)) (x : ScenarioError) → first_of xs ≡ Some x → first_of (xs ++ ys) ≡ Some x
kept [] ys x e = cc
kept (None ∷ xs) ys x e = kept xs ys x e
kept (Some y ∷ xs) ys x e = e

pub alone : (o : Option ScenarioError) → first_of (o ∷ []) ≡ o
alone None = refl
alone (Some x) = refl

pub untrue : (b : Bool) (e : ScenarioError) → when b e ≡ None → b ≡ false
untrue true e is = cc
untrue false e is = refl

pub no_pair : (o : Option (ℕ × ℕ)) → when_below o ≡ None → is_some o ≡ false
no_pair None is = refl
no_pair (Some p) is = cc

pub applies : (b : Bool) (e : ScenarioError) → b ≡ true → when b e ≡ Some e
applies b e is = ap (λ c. when c e) is

pub passes : (b : Bool) (e : ScenarioError) → b ≡ false → when b e ≡ None
passes b e is = ap (λ c. when c e) is

-- an error that is answered as it was read
pub answered : {T : Type 0} (o : Option ScenarioError) (e : ScenarioError) (r : Result T ScenarioError) → IsErrAnd r (λ x. x ≡ e) → IsAnswer o e → Judges o r
answered o e (Ok x) is by = absurd is
answered o e (Err x) is by = subst (IsAnswer o) (sym is) by

-- after an error nothing is said of what was read
pub unread : {T E : Type 0} (Q : E → Type 0) (r : Result T E) (P : Type 0) → IsErrAnd r Q → OnOk r P
unread Q (Ok x) P is = absurd is
unread Q (Err e) P is = tt
