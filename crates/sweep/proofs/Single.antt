-- What one element of a list adds.
use Rattle.sweep.proofs.Words.{◌≡◌, ℕ, suc, ◌+◌, ◌*◌, ◌^◌, ◌<◌, ◌≤◌, Bool, true, false, cond, not, ◌&&◌, ◌==◌, ◌||◌, Option, None, Some, List, [], ◌∷◌, ◌++◌, length, take, drop, get_or, sum, sym, ap, ◌∙◌, refl, subst, arith, true≢false, cons_option, count_by, filter_map, list_all, list_any, eqb-true, ne_eqb, drop_more, take-append-drop, take_more, filter_map-append, list_any_at, list_any_none, sum_by-cons, count_by-le-length, Outcome, decisions_plus, of_outcome, tick_or_zero, differ, AreDecisionSums, AreDecisionsWithin, decision_tick, do_differ, DecisionSums}
use Rattle.sweep.proofs.{Added.{decisions_added, decisions_within}, Greatest.{greatest_one}}
use Rattle.std.proofs.lemmas.Bool.Decides.{nat_tests}

-- of the first elements, with one more
pub gathered_more : {X Y : Type 0} (h : X → Option Y) (xs : List X) (i : ℕ) (x : X) → i < length xs → x ≡ get_or xs i x → filter_map h (take (i + 1) xs) ≡ filter_map h (take i xs) ++ cons_option (h x) []
gathered_more h xs i x lt is =
    ap (filter_map h) (take_more xs i x lt) ∙ filter_map-append h (take i xs) (get_or xs i x ∷ []) ∙ ap (λ y. filter_map h (take i xs) ++ cons_option (h y) []) (sym is)

one_tick : (o : Option ℕ) → tick_or_zero o ≡ sum (cons_option o [])
one_tick None = refl
one_tick (Some v) = omega arith

one_outcome : (o : Outcome) → AreDecisionSums (o ∷ []) (of_outcome o)
one_outcome o = record {
  to_decide = refl;
  decided = omega arith;
  decision_tick_sum = one_tick (decision_tick o);
  decision_tick_max = sym (greatest_one (decision_tick o));
}

module _ (os : List Outcome) (i : ℕ) (o : Outcome) (s : DecisionSums) (lt : i < length os) (short : length os < 2 ^ 63) (is : o ≡ get_or os i o) (w : AreDecisionsWithin (i * 2 ^ 64) s) (v : AreDecisionsWithin (2 ^ 64) (of_outcome o)) where
  pub outcome_added : AreDecisionSums (take i os) s → AreDecisionSums (take (i + 1) os) (decisions_plus s (of_outcome o))
  outcome_added p =
      subst (λ l. AreDecisionSums l (decisions_plus s (of_outcome o))) (sym (take_more os i o lt ∙ ap (λ x. take i os ++ x ∷ []) (sym is)))
      (decisions_added (take i os) (o ∷ []) s (of_outcome o) (i * 2 ^ 64) (2 ^ 64) (omega arith) w v p (one_outcome o))

  pub outcome_within : AreDecisionsWithin ((i + 1) * 2 ^ 64) (decisions_plus s (of_outcome o))
  outcome_within = subst (λ m. AreDecisionsWithin m (decisions_plus s (of_outcome o))) (omega arith) (decisions_within (take i os) (o ∷ []) s (of_outcome o) (i * 2 ^ 64) (2 ^ 64) (omega arith) w v)

-- each passes just where as many pass as there are
pub all_counted : {X : Type 0} (p : X → Bool) (xs : List X) → (count_by p xs == length xs) ≡ list_all p xs
all_counted p [] = refl
all_counted {X} p (x ∷ xs) = ap (λ n. n == length (x ∷ xs)) (sum_by-cons (λ y. cond (p y) 1 0) x xs) ∙ by (p x) (all_counted p xs)
  where
    next : (m n : ℕ) → (1 + m == suc n) ≡ (m == n)
    next m n = grind (arith, nat_tests)

    by : (b : Bool) → (count_by p xs == length xs) ≡ list_all p xs → (cond b 1 0 + count_by p xs == length (x ∷ xs)) ≡ (b && list_all p xs)
    by true later = next (count_by p xs) (length xs) ∙ later
    by false later =
        let few : count_by p xs ≤ length xs = count_by-le-length p xs in
        ne_eqb (0 + count_by p xs) (length (x ∷ xs)) (λ e. omega (arith, few, e))

-- ---- values that differ

-- where one of them differs from the first, two do
module _ (v : ℕ) (rest : List ℕ) where
  same_head : list_any (λ w. not (v == w)) (v ∷ rest) ≡ false → (k d : ℕ) → k < length (v ∷ rest) → v ≡ get_or (v ∷ rest) k d
  same_head none k d lt = by (v == get_or (v ∷ rest) k d) refl
    where
      by : (b : Bool) → (v == get_or (v ∷ rest) k d) ≡ b → v ≡ get_or (v ∷ rest) k d
      by true p = eqb-true v (get_or (v ∷ rest) k d) p
      by false p = absurd (true≢false (sym (list_any_at (λ w. not (v == w)) (v ∷ rest) k d lt (ap not p)) ∙ none))

  head_tells : (b : Bool) → list_any (λ w. not (v == w)) (v ∷ rest) ≡ b → do_differ (v ∷ rest) ≡ b
  head_tells true p = ap (λ b. b || list_any (λ x. list_any (λ w. not (x == w)) (v ∷ rest)) rest) p
  head_tells false p =
      list_any_none (λ x. list_any (λ w. not (x == w)) (v ∷ rest)) (v ∷ rest)
      (λ k d lt. ap (λ x. list_any (λ w. not (x == w)) (v ∷ rest)) (sym (same_head p k d lt)) ∙ p)

module _ {X : Type 0} (h : X → Option ℕ) where
  -- one of the values that are there differs from this one
  differ_from : (v : ℕ) (xs : List X) → list_any (λ x. differ (Some v) (h x)) xs ≡ list_any (λ w. not (v == w)) (filter_map h xs)
  differ_from v [] = refl
  differ_from v (x ∷ xs) = by (h x) (differ_from v xs)
    where
      by : (o : Option ℕ) → list_any (λ y. differ (Some v) (h y)) xs ≡ list_any (λ w. not (v == w)) (filter_map h xs)
          → (differ (Some v) o || list_any (λ y. differ (Some v) (h y)) xs) ≡ list_any (λ w. not (v == w)) (cons_option o (filter_map h xs))
      by None later = later
      by (Some w) later = ap (λ b. not (v == w) || b) later

  pub first_differs : (xs : List X) (i : ℕ) (x : X) (v : ℕ) → i < length xs → x ≡ get_or xs i x → h x ≡ Some v → filter_map h (take i xs) ≡ []
      → list_any (λ y. differ (Some v) (h y)) xs ≡ do_differ (filter_map h xs)
  first_differs xs i x v lt is at none =
      let rest = filter_map h (drop (i + 1) xs) in
      let split : xs ≡ take i xs ++ x ∷ drop (i + 1) xs = sym (take-append-drop i xs) ∙ ap (λ l. take i xs ++ l) (drop_more xs i x lt ∙ ap (λ y. y ∷ drop (i + 1) xs) (sym is)) in
      let values : filter_map h xs ≡ v ∷ rest =
      ap (filter_map h) split ∙ filter_map-append h (take i xs) (x ∷ drop (i + 1) xs) ∙ ap (λ l. l ++ cons_option (h x) rest) none ∙ ap (λ o. cons_option o rest) at in
      differ_from v xs ∙ ap (list_any (λ w. not (v == w))) values ∙ sym (head_tells v rest (list_any (λ w. not (v == w)) (v ∷ rest)) refl) ∙ sym (ap do_differ values)
