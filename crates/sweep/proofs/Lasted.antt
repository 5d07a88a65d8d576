-- How long the mistakes of the pairs that count were.
use Rattle.sweep.proofs.Words.{◌≡◌, ◌≢◌, ◌==◌, ℕ, zero, suc, ◌+◌, ◌-◌, ◌*◌, ◌≤◌, Bool, true, false, not, cond, true≢false, List, [], ◌∷◌, ◌++◌, map, filter, get_or, ap, sym, ◌∙◌, refl, arith, All, AllByRecursion, flat_map, All-filter, All-from_recursion, EntryRecord, numbers_to, others, AreDurations, lengths_of, lists_in, PairMeasures, Record, counts_on, counted_of, Group, eq-eqb, layer_measures, pair_measures, pair_durations}
use Rattle.process_api.proofs.Lists.{both, images, weaker, numbers_are}
use Rattle.reporting.specs.declared.durations.Durations.{Durations}

flat_same : {X A : Type 0} (f g : X → List A) (xs : List X) → All (λ x. f x ≡ g x) xs → flat_map f xs ≡ flat_map g xs
flat_same f g [] each = refl
flat_same f g (x ∷ xs) each = (λ i. each 0 x (omega arith) i ++ flat_same f g xs (λ k d lt. each (suc k) d (omega (arith, lt))) i)

-- what holds of all holds of those that pass a test, and they pass it
passing : {X : Type 0} (P : X → Type 0) (test : X → Bool) (xs : List X) → AllByRecursion P xs → AllByRecursion (λ x. P x × (test x ≡ true)) (filter test xs)
passing P test [] a = tt
passing {X} P test (x ∷ xs) a = by (test x) refl (passing P test xs a.1)
  where
    by : (b : Bool) → test x ≡ b → AllByRecursion (λ y. P y × (test y ≡ true)) (filter test xs)
        → AllByRecursion (λ y. P y × (test y ≡ true)) (cond b (x ∷ filter test xs) (filter test xs))
    by true is rest = ((a.0, is), rest)
    by false is rest = rest

-- what is so of the measures of each two processes is so of all measures of a layer
pub each_measure : (S : Record) (trace : List EntryRecord) (layer : ℕ) (P : PairMeasures → Type 0)
    → ((q p : ℕ) → 1 ≤ q → q ≤ S.processes → 1 ≤ p → p ≤ S.processes → q ≢ p → P (pair_measures S trace layer q p)) → All P (layer_measures S trace layer)
unfolding layer_measures
each_measure S trace layer P each = All-from_recursion P _ (go (numbers_to S.processes) (numbers_are S.processes))
  where
    other : (q p : ℕ) → not (p == q) ≡ true → q ≢ p
    other q p isnt same = true≢false (sym isnt ∙ ap not (eq-eqb p q (sym same)))

    go : (qs : List ℕ) → AllByRecursion (λ q. (1 ≤ q) × (q ≤ S.processes)) qs
        → AllByRecursion P (flat_map (λ q. map (pair_measures S trace layer q) (others S.processes q)) qs)
    go [] a = tt
    go (q ∷ qs) a =
        both P (map (pair_measures S trace layer q) (others S.processes q)) _
        (images P (pair_measures S trace layer q) (others S.processes q)
        (weaker (λ p. ((1 ≤ p) × (p ≤ S.processes)) × (not (p == q) ≡ true)) (λ p. P (pair_measures S trace layer q p)) (λ p h. each q p a.0.0 a.0.1 h.0.0 h.0.1 (other q p h.1)) (others S.processes q)
        (passing (λ p. (1 ≤ p) × (p ≤ S.processes)) (λ p. not (p == q)) (numbers_to S.processes) (numbers_are S.processes)))) (go qs a.1)

module _ (group : Group) (S : Record) (trace : List EntryRecord) (layer : ℕ) (d : Durations) (are : AreDurations S layer trace d) where
  abbrev IsLasted : PairMeasures → Type 0
  IsLasted m = lengths_of d m.observer m.subject ≡ pair_durations S trace layer m.observer m.subject

  lasted_measures : (q p : ℕ) → 1 ≤ q → q ≤ S.processes → 1 ≤ p → p ≤ S.processes → q ≢ p → IsLasted (pair_measures S trace layer q p)
  unfolding pair_measures
  lasted_measures zero p some l one m other = absurd (omega (arith, some))
  lasted_measures (suc i) zero some l one m other = absurd (omega (arith, one))
  lasted_measures (suc i) (suc j) some l one m other =
      let row : suc i - 1 ≡ i = omega arith in
      let column : suc j - 1 ≡ j = omega arith in
      (λ z. get_or (lists_in d.pairs.items) (row z * are.processes z + column z) []) ∙ are.each i j (omega (arith, l)) (omega (arith, m))

  pub lasted_of : flat_map (λ m. lengths_of d m.observer m.subject) (counted_of group layer S (layer_measures S trace layer))
      ≡ flat_map (λ m. pair_durations S trace layer m.observer m.subject) (counted_of group layer S (layer_measures S trace layer))
  lasted_of =
      flat_same (λ m. lengths_of d m.observer m.subject) (λ m. pair_durations S trace layer m.observer m.subject) (counted_of group layer S (layer_measures S trace layer))
      (All-filter (λ m. counts_on group layer S m.observer m.subject) IsLasted (layer_measures S trace layer) (each_measure S trace layer IsLasted lasted_measures))
