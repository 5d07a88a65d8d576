-- The first entry of a table leaves.
use Rattle.process_api.proofs.Basics.{◌≡◌, ◌<◌, ◌≤◌, arith, IsSome, ℕ, refl, sym, ap, ◌∙◌, subst, Bool, true, false, cond, Option, None, Some, List, [], ◌∷◌, length, nat_eq, nat_lt, BTreeMap, slice_get, IfSome, IfNone, true≢false, eqb-true, lt-ltb, ltb-true, Row, by_number, by_row, in_row, since, since_round}
use Rattle.{process_api.proofs.Rows.{same_number}, std.specs.{Ordering.{nat_cmp}, Map.{lookup}}}
use Rattle.std.proofs.lemmas.Map.Keys.{le_from_not_gt}
use Rattle.std.specs.BTreeMap as tree

unsome : {A : Type 0} (d : A) (a b : A) → Some a ≡ Some b → a ≡ b
unsome d a b e = ap (λ o. elim o [ None ↦ d | Some x ↦ x ]) e

pub is_empty : {A : Type 0} (es : List A) → (0 < length es → false ≡ true) → es ≡ []
is_empty [] none = refl
is_empty (e ∷ es) none = absurd (true≢false (sym (none (omega arith))))

either : {A : Type 0} (b : Bool) (o : Option A) → o ≡ None → o ≡ cond b None o
either true o e = e
either false o e = refl

module _ {X : Type 0} where
  pub first_one_left : (t u : BTreeMap ℕ X) (round : ℕ) (first : ℕ) (v : X) → slice_get t.entries 0 ≡ Some (first, v) → first < round
      → (o : Option (ℕ × X)) → IfSome o (λ p. t.entries ≡ p ∷ u.entries) → IfSome o (λ p. tree.Updates nat_cmp t u p.0 None) → IfNone o (tree.IsUnchanged t u)
      → since_round round (by_number u) ≡ since_round round (by_number t)
  first_one_left t u round first v is low None rest h same = ap (λ es. since_round round (λ r. lookup (tree.is_at (nat_cmp r)) es)) same
  first_one_left t u round first v is low (Some p) rest h same = λ i r. at r i
    where
      key : p.0 ≡ first
      key = ap (λ e. e.0) (unsome p p (first, v) (sym (ap (λ es. slice_get es 0) rest) ∙ is))

      early : p.0 < round
      early = subst (λ k. k < round) (sym key) low

      at : (r : ℕ) → since_round round (by_number u) r ≡ since_round round (by_number t) r
      at r = go (nat_lt r round) refl
        where
          hidden : (b : Bool) → nat_eq r p.0 ≡ b → nat_lt r round ≡ false → by_number u r ≡ cond b None (by_number t r) → by_number u r ≡ by_number t r
          hidden true e later same2 = absurd (true≢false (sym (lt-ltb p.0 round early) ∙ (ap (λ z. nat_lt z round) (sym (eqb-true r p.0 e)) ∙ later)))
          hidden false e later same2 = same2

          go : (b : Bool) → nat_lt r round ≡ b → cond b None (by_number u r) ≡ cond b None (by_number t r)
          go true e = refl
          go false e = hidden (nat_eq r p.0) refl e (h.0 r ∙ ap (λ b. cond b None (by_number t r)) (same_number p.0 r))

  -- where the first entry is of the round or a later one, no earlier one is there
  pub all_since_round : (t : BTreeMap ℕ X) (round first : ℕ) → round ≤ first → tree.IsLowerBound nat_cmp t first → by_number t ≡ since_round round (by_number t)
  all_since_round t round first low least = λ i r. at r i
    where
      nothing : (r : ℕ) (o : Option X) → by_number t r ≡ o → r < round → o ≡ None
      nothing r None is early = refl
      nothing r (Some x) is early =
          let h : first ≤ r = le_from_not_gt first r (least r (subst IsSome (sym is) refl)) in
          absurd (omega (arith, h, early, low))

      at : (r : ℕ) → by_number t r ≡ since_round round (by_number t) r
      at r = go (nat_lt r round) refl
        where
          go : (b : Bool) → nat_lt r round ≡ b → by_number t r ≡ cond b None (by_number t r)
          go true e = nothing r (by_number t r) refl (ltb-true r round e)
          go false e = refl

  -- an empty table
  pub none_since_round : (t : BTreeMap ℕ X) (round : ℕ) → tree.IsEmpty t → by_number t ≡ since_round round (by_number t)
  none_since_round t round empty = λ i r. either (nat_lt r round) (by_number t r) (ap (lookup (tree.is_at (nat_cmp r))) empty) i

-- rows of earlier rounds
pub since_rows : {X : Type 0} (round : ℕ) (f : ℕ → Option (Row X)) → by_row (since_round round f) ≡ since round (by_row f)
since_rows {X = X} round f = λ i r q. at (nat_lt r round) (f r) q i
  where
    at : (b : Bool) (o : Option (Row X)) (q : ℕ) → in_row (cond b None o) q ≡ cond b None (in_row o q)
    at true o q = refl
    at false o q = refl
