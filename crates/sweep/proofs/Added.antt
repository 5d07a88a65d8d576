-- Sums over two lists, one after the other.
use Rattle.sweep.proofs.Words.{◌≡◌, ℕ, ◌+◌, ◌^◌, ◌<◌, ◌≤◌, Bool, cond, ◌||◌, list_any-append, Option, List, ◌++◌, length, length-append, sum, sym, ap, ◌∙◌, arith, count_by, filter_map, sum_by, filter_map-append, sum_by-append, count_by-le-length, Outcome, PairMeasures, plus, plus_few, pairs_plus, decisions_plus, traces_plus, ArePairSums, AreDecisionSums, AreTraceSums, ArePairsWithin, AreDecisionsWithin, AreTracesWithin, Finished, has_decided, decision_tick, greater, greatest, DecisionSums, PairSums, TraceSums, is_none, AreBounds, bounds_plus, DetectionBounds}
use Rattle.sweep.proofs.Greatest.{greatest_both}

pub added : {X : Type 0} (f : X → ℕ) (xs ys : List X) (a b A B : ℕ) → A + B < 2 ^ 128 → a ≡ sum_by f xs → b ≡ sum_by f ys → a ≤ A → b ≤ B → plus a b ≡ sum_by f (xs ++ ys)
added f xs ys a b A B room p q low high = omega (arith, sum_by-append f xs ys)

pub within : (a b A B : ℕ) → a ≤ A → b ≤ B → plus a b ≤ A + B
within a b A B low high = omega arith

-- counts of runs
pub counted : {X : Type 0} (p : X → Bool) (xs ys : List X) (a b : ℕ) → length xs + length ys < 2 ^ 64 → a ≡ count_by p xs → b ≡ count_by p ys → plus_few a b ≡ count_by p (xs ++ ys)
counted p xs ys a b room e f = omega (arith, sum_by-append (λ x. cond (p x) 1 0) xs ys, count_by-le-length p xs, count_by-le-length p ys)

module _ (xs ys : List Finished) (a b : TraceSums) (A B : ℕ) (room : A + B < 2 ^ 128) (p : AreTracesWithin A a) (q : AreTracesWithin B b) where
  pub traces_within : AreTracesWithin (A + B) (traces_plus a b)
  traces_within = search arith

  pub traces_added : AreTraceSums xs a → AreTraceSums ys b → AreTraceSums (xs ++ ys) (traces_plus a b)
  traces_added s t = search (arith, sum_by-append)

module _ (xs ys : List PairMeasures) (a b : PairSums) (A B : ℕ) (room : A + B < 2 ^ 128) (p : ArePairsWithin A a) (q : ArePairsWithin B b) where
  pub pairs_within : ArePairsWithin (A + B) (pairs_plus a b)
  pairs_within = search arith

  pub pairs_added : ArePairSums xs a → ArePairSums ys b → ArePairSums (xs ++ ys) (pairs_plus a b)
  pairs_added s t = search (arith, sum_by-append)

module _ (xs ys : List Outcome) (a b : DecisionSums) (A B : ℕ) (room : A + B < 2 ^ 128) (p : AreDecisionsWithin A a) (q : AreDecisionsWithin B b) where
  pub decisions_within : AreDecisionsWithin (A + B) (decisions_plus a b)
  decisions_within = search arith

  pub decisions_added : AreDecisionSums xs a → AreDecisionSums ys b → AreDecisionSums (xs ++ ys) (decisions_plus a b)
  decisions_added s t = record {
    to_decide = omega (arith, length-append xs ys);
    decided = omega (arith, sum_by-append (λ o. cond (has_decided o) 1 0) xs ys);
    decision_tick_sum = added (λ n. n) (filter_map decision_tick xs) (filter_map decision_tick ys) a.decision_tick_sum b.decision_tick_sum A B room s.decision_tick_sum t.decision_tick_sum p.decision_tick_sum q.decision_tick_sum
        ∙ ap sum (sym (filter_map-append decision_tick xs ys));
    decision_tick_max = (λ i. greater (s.decision_tick_max i) (t.decision_tick_max i))
        ∙ sym (greatest_both (filter_map decision_tick xs) (filter_map decision_tick ys))
        ∙ ap greatest (sym (filter_map-append decision_tick xs ys));
  }

pub bounds_added : (xs ys : List (Option ℕ)) (a b : DetectionBounds) → AreBounds xs a → AreBounds ys b → AreBounds (xs ++ ys) (bounds_plus a b)
bounds_added xs ys a b s t =
    let own : Option ℕ → Option ℕ = λ bound. bound in
    record {
      highest = (λ i. greater (s.highest i) (t.highest i)) ∙ sym (greatest_both (filter_map own xs) (filter_map own ys)) ∙ ap greatest (sym (filter_map-append own xs ys));
      late = (λ i. s.late i || t.late i) ∙ sym (list_any-append is_none xs ys);
    }
