-- The verdicts are what the tracks tell.
use Rattle.judges.proofs.Words.{◌≡◌, ℕ, zero, suc, ◌<◌, Bool, true, false, cond, ◌&&◌, ◌||◌, refl, sym, ◌∙◌, arith, Option, None, Some, ◌≤◌, min, not, ap, List, subst, if◌then◌else◌, le-leb, lt-leb, lt-ltb, ltb-true, ltb-false, not-true, not_from_false, cond_both, nat_tests, all_below, any_below, all_from, least_below, IsReached, reached, latest, earliest, latest_below, earliest_below, Knows, suspected_from, trusted_from, EntryRecord, Track, Record, is_crashed, is_correct, end_of, crash_tick, is_up, suspects, strong_accuracy, weak_accuracy, strong_completeness, weak_completeness, eventual_strong_accuracy, eventual_weak_accuracy, verdicts}
use Rattle.judges.proofs.{Lasting.{all_from-and, all_from-from, least_below-is, least_below-none, same_tests}, Below.{all_below-at, all_below-from, any_below-none, any_below-at, any_below-same, where_at, where_from}}
use Rattle.judges.proofs.Tracks.{suspected_reached, trusted_reached}
use Rattle.judges.specs.declared.verdicts.Verdicts.{Verdicts}

-- ---- tests that pass just from one tick on: all of several, and some of several

reached-latest : (a b : Option ℕ) (t : ℕ) → reached (latest a b) t ≡ (reached b t && reached a t)
reached-latest a b t = grind (arith, nat_tests)

reached-earliest : (a b : Option ℕ) (t : ℕ) → reached (earliest a b) t ≡ (reached b t || reached a t)
reached-earliest a b t = grind (arith, nat_tests)

module _ (end : ℕ) where
  pub reached_all : (A : ℕ → ℕ → Bool) (o : ℕ → Option ℕ) (n : ℕ) → ((i : ℕ) → i < n → IsReached (A i) end (o i)) → IsReached (λ t. all_below (λ i. A i t) n) end (latest_below o n)
  reached_all A o zero h t l = sym (le-leb 0 t (omega arith))
  reached_all A o (suc n) h t l = (λ i. h n (omega arith) t l i && reached_all A o n (λ k m. h k (omega arith)) t l i) ∙ sym (reached-latest (latest_below o n) (o n) t)

  pub reached_any : (A : ℕ → ℕ → Bool) (o : ℕ → Option ℕ) (n : ℕ) → ((i : ℕ) → i < n → IsReached (A i) end (o i)) → IsReached (λ t. any_below (λ i. A i t) n) end (earliest_below o n)
  reached_any A o zero h t l = refl
  reached_any A o (suc n) h t l = (λ i. h n (omega arith) t l i || reached_any A o n (λ k m. h k (omega arith)) t l i) ∙ sym (reached-earliest (earliest_below o n) (o n) t)

  -- the same of all ticks from one on
  pub from_all : (A : ℕ → ℕ → Bool) (o : ℕ → Option ℕ) (n : ℕ) → ((i : ℕ) → i < n → IsReached (λ t. all_from (A i) t end) end (o i))
      → IsReached (λ t. all_from (λ u. all_below (λ i. A i u) n) t end) end (latest_below o n)
  from_all A o zero h t l = all_from-from (λ u. true) t end (λ v x y. refl) ∙ sym (le-leb 0 t (omega arith))
  from_all A o (suc n) h t l =
      all_from-and (A n) (λ u. all_below (λ i. A i u) n) t end
      ∙ (λ i. h n (omega arith) t l i && from_all A o n (λ k m. h k (omega arith)) t l i) ∙ sym (reached-latest (latest_below o n) (o n) t)

  pub from_where : (which : Bool) (f : ℕ → Bool) (o : Option ℕ) → IsReached (λ t. all_from f t end) end o → IsReached (λ t. all_from (λ u. cond which (f u) true) t end) end (cond which o (Some 0))
  from_where true f o h = h
  from_where false f o h = λ t l. all_from-from (λ u. true) t end (λ v x y. refl) ∙ sym (le-leb 0 t (omega arith))

  pub reached_where : (which : Bool) (f : ℕ → Bool) (o : Option ℕ) → IsReached f end o → IsReached (λ t. cond which (f t) true) end (cond which o (Some 0))
  reached_where true f o h = h
  reached_where false f o h = λ t l. sym (le-leb 0 t (omega arith))

  pub reached_both : (which : Bool) (f : ℕ → Bool) (o : Option ℕ) → IsReached f end o → IsReached (λ t. which && f t) end (cond which o None)
  reached_both true f o h = h
  reached_both false f o h = λ t l. refl

  abbrev pub IsBelow : Option ℕ → Type 0
  IsBelow None = Unit {0}
  IsBelow (Some s) = s < end

  pub least_reached : (A : ℕ → Bool) (o : Option ℕ) → IsReached A end o → IsBelow o → least_below A end ≡ o
  least_reached A None h b = least_below-none A end h
  least_reached A (Some s) h b = least_below-is A end s b (h s b ∙ le-leb s s (omega arith)) (λ u l. h u (omega arith) ∙ lt-leb s u l)

  below-latest : (a b : Option ℕ) → IsBelow a → IsBelow b → IsBelow (latest a b)
  below-latest (Some x) (Some y) h g = omega arith
  below-latest a b h g = tt

  below-earliest : (a b : Option ℕ) → IsBelow a → IsBelow b → IsBelow (earliest a b)
  below-earliest None b h g = g
  below-earliest (Some x) None h g = h
  below-earliest (Some x) (Some y) h g = omega arith

  module _ (some : 0 < end) where
    pub below_all : (o : ℕ → Option ℕ) (n : ℕ) → ((i : ℕ) → i < n → IsBelow (o i)) → IsBelow (latest_below o n)
    below_all o zero h = some
    below_all o (suc n) h = below-latest (latest_below o n) (o n) (below_all o n (λ i l. h i (omega arith))) (h n (omega arith))

    pub below_any : (o : ℕ → Option ℕ) (n : ℕ) → ((i : ℕ) → i < n → IsBelow (o i)) → IsBelow (earliest_below o n)
    below_any o zero h = tt
    below_any o (suc n) h = below-earliest (earliest_below o n) (o n) (below_any o n (λ i l. h i (omega arith))) (h n (omega arith))

    pub below_where : (which : Bool) (o : Option ℕ) → IsBelow o → IsBelow (cond which o (Some 0))
    below_where true o h = h
    below_where false o h = some

    pub below_both : (which : Bool) (o : Option ℕ) → IsBelow o → IsBelow (cond which o None)
    below_both true o h = h
    below_both false o h = tt

-- ---- the verdicts, from what is known of each pair at the horizon

-- at place i and j is the track of observer i + 1 and subject j + 1, at the horizon
abbrev pub AreTracks : Record → (trace : List EntryRecord) → (layer : ℕ) → (ℕ → ℕ → Track) → Type 0
AreTracks S trace layer track = (i j : ℕ) → i < S.processes → j < S.processes
    → Knows (suspects layer trace (suc i) (suc j)) (end_of S (suc i) (suc j)) (track i j) × ((track i j).tick ≡ S.horizon)

module _ (S : Record) (track : ℕ → ℕ → Track) where
  abbrev pub judged_strong_completeness : Option ℕ
  judged_strong_completeness =
      latest_below (λ i. if is_correct S (suc i) then latest_below (λ j. if is_crashed S (suc j) then suspected_from (track i j) else Some 0) S.processes else Some 0) S.processes

  abbrev pub judged_weak_completeness : Option ℕ
  judged_weak_completeness =
      latest_below (λ j. if is_crashed S (suc j) then earliest_below (λ i. if is_correct S (suc i) then suspected_from (track i j) else None) S.processes else Some 0) S.processes

  abbrev pub judged_strong_accuracy : Bool
  judged_strong_accuracy = all_below (λ i. all_below (λ j. not (track i j).mistaken) S.processes) S.processes

  abbrev pub judged_weak_accuracy : Bool
  judged_weak_accuracy = any_below (λ j. is_correct S (suc j) && all_below (λ i. not (track i j).mistaken) S.processes) S.processes

  abbrev pub judged_eventual_strong_accuracy : Option ℕ
  judged_eventual_strong_accuracy =
      latest_below (λ i. if is_correct S (suc i) then latest_below (λ j. if is_correct S (suc j) then trusted_from (track i j) else Some 0) S.processes else Some 0) S.processes

  abbrev pub judged_eventual_weak_accuracy : Option ℕ
  judged_eventual_weak_accuracy =
      earliest_below (λ j. if is_correct S (suc j) then latest_below (λ i. if is_correct S (suc i) then trusted_from (track i j) else Some 0) S.processes else None) S.processes

  abbrev pub judged : Verdicts
  judged = record {
    strong_completeness = judged_strong_completeness;
    weak_completeness = judged_weak_completeness;
    strong_accuracy = judged_strong_accuracy;
    weak_accuracy = judged_weak_accuracy;
    eventual_strong_accuracy = judged_eventual_strong_accuracy;
    eventual_weak_accuracy = judged_eventual_weak_accuracy;
  }

-- ---- the accuracies that are a yes or a no: no pair is mistaken

module _ (S : Record) (trace : List EntryRecord) (layer : ℕ) (track : ℕ → ℕ → Track) (known : AreTracks S trace layer track) where
  module _ (i j : ℕ) (l : i < S.processes) (m : j < S.processes) where
    mistaken_is : (track i j).mistaken ≡ any_below (suspects layer trace (suc i) (suc j)) (end_of S (suc i) (suc j))
    mistaken_is =
        let k = known i j l m in
        k.0.mistaken ∙ ap (any_below (suspects layer trace (suc i) (suc j))) (let e : min (track i j).tick (end_of S (suc i) (suc j)) ≡ end_of S (suc i) (suc j) = omega (arith, k.1) in e)

    unmistaken_at : not (track i j).mistaken ≡ true → (t : ℕ) → t < end_of S (suc i) (suc j) → suspects layer trace (suc i) (suc j) t ≡ false
    unmistaken_at e t x = any_below-at (suspects layer trace (suc i) (suc j)) (end_of S (suc i) (suc j)) (sym mistaken_is ∙ not-true (track i j).mistaken e) t x

    unmistaken_from : ((t : ℕ) → t < end_of S (suc i) (suc j) → suspects layer trace (suc i) (suc j) t ≡ false) → not (track i j).mistaken ≡ true
    unmistaken_from h = not_from_false (track i j).mistaken (mistaken_is ∙ any_below-none (suspects layer trace (suc i) (suc j)) (end_of S (suc i) (suc j)) h)

  pub strong_accuracy_is : strong_accuracy S trace layer ≡ judged_strong_accuracy S track
  strong_accuracy_is =
      same_tests _ _
      (λ e. all_below-from _ S.processes (λ i l. all_below-from _ S.processes (λ j m. unmistaken_from i j l m (λ t x.
      let at_tick = all_below-at _ S.horizon e t (omega arith) in
      let observer = where_at (is_up S (suc i) t) _ (all_below-at _ S.processes at_tick i l) (lt-ltb t (crash_tick S (suc i)) (omega arith)) in
      let subject = where_at (is_up S (suc j) t) _ (all_below-at _ S.processes observer j m) (lt-ltb t (crash_tick S (suc j)) (omega arith)) in
      not-true (suspects layer trace (suc i) (suc j) t) subject))))
      (λ e. all_below-from _ S.horizon (λ t x. all_below-from _ S.processes (λ i l. where_from (is_up S (suc i) t) _ (λ q_up.
      all_below-from _ S.processes (λ j m. where_from (is_up S (suc j) t) _ (λ p_up.
      let q : t < crash_tick S (suc i) = ltb-true t (crash_tick S (suc i)) q_up in
      let p : t < crash_tick S (suc j) = ltb-true t (crash_tick S (suc j)) p_up in
      not_from_false (suspects layer trace (suc i) (suc j) t)
      (unmistaken_at i j l m (all_below-at _ S.processes (all_below-at _ S.processes e i l) j m) t (omega arith))))))))

  pub weak_accuracy_is : weak_accuracy S trace layer ≡ judged_weak_accuracy S track
  weak_accuracy_is = any_below-same _ _ S.processes (λ j m. go j m (is_correct S (suc j)) refl)
    where
      go : (j : ℕ) → j < S.processes → (b : Bool) → is_correct S (suc j) ≡ b
          → (b && all_below (λ t. all_below (λ i. cond (is_up S (suc i) t) (not (suspects layer trace (suc i) (suc j) t)) true) S.processes) S.horizon)
          ≡ (b && all_below (λ i. not (track i j).mistaken) S.processes)
      go j m false e = refl
      go j m true e =
          let correct : S.horizon ≤ crash_tick S (suc j) = ltb-false (crash_tick S (suc j)) S.horizon (not-true (is_crashed S (suc j)) e) in
          same_tests _ _
          (λ h. all_below-from _ S.processes (λ i l. unmistaken_from i j l m (λ t x.
          not-true (suspects layer trace (suc i) (suc j) t)
          (where_at (is_up S (suc i) t) _ (all_below-at _ S.processes (all_below-at _ S.horizon h t (omega arith)) i l) (lt-ltb t (crash_tick S (suc i)) (omega arith))))))
          (λ h. all_below-from _ S.horizon (λ t x. all_below-from _ S.processes (λ i l. where_from (is_up S (suc i) t) _ (λ q_up.
          let q : t < crash_tick S (suc i) = ltb-true t (crash_tick S (suc i)) q_up in
          not_from_false (suspects layer trace (suc i) (suc j) t) (unmistaken_at i j l m (all_below-at _ S.processes h i l) t (omega arith))))))

-- ---- all verdicts

module _ (S : Record) (trace : List EntryRecord) (layer : ℕ) (track : ℕ → ℕ → Track) (known : AreTracks S trace layer track) (some : 0 < S.horizon) where
  module _ (i j : ℕ) (l : i < S.processes) (m : j < S.processes) where
    suspected : IsReached (λ t. all_from (suspects layer trace (suc i) (suc j)) t S.horizon) S.horizon (suspected_from (track i j))
    suspected =
        let k = known i j l m in
        subst (λ n. IsReached (λ t. all_from (suspects layer trace (suc i) (suc j)) t n) n (suspected_from (track i j))) k.1 (suspected_reached (suspects layer trace (suc i) (suc j)) (end_of S (suc i) (suc j)) (track i j) k.0)

    trusted : IsReached (λ t. all_from (λ u. not (suspects layer trace (suc i) (suc j) u)) t S.horizon) S.horizon (trusted_from (track i j))
    trusted =
        let k = known i j l m in
        subst (λ n. IsReached (λ t. all_from (λ u. not (suspects layer trace (suc i) (suc j) u)) t n) n (trusted_from (track i j))) k.1
        (trusted_reached (suspects layer trace (suc i) (suc j)) (end_of S (suc i) (suc j)) (track i j) (omega (arith, k.1)) k.0)

    since_below : (track i j).since < S.horizon
    since_below = let k = known i j l m in omega (arith, k.0.steady.below, k.1)

    suspected_below : IsBelow S.horizon (suspected_from (track i j))
    suspected_below = cond_both (track i j).was (Some (track i j).since) None (IsBelow S.horizon) (λ _. since_below) (λ _. tt)

    trusted_below : IsBelow S.horizon (trusted_from (track i j))
    trusted_below = cond_both (track i j).was None (Some (track i j).since) (IsBelow S.horizon) (λ _. tt) (λ _. since_below)

  pub strong_completeness_is : strong_completeness S trace layer ≡ judged_strong_completeness S track
  strong_completeness_is =
      least_reached S.horizon _ _
      (from_all S.horizon _ _ S.processes (λ i l.
      from_where S.horizon (is_correct S (suc i)) (λ u. all_below (λ j. cond (is_crashed S (suc j)) (suspects layer trace (suc i) (suc j) u) true) S.processes) _
      (from_all S.horizon _ _ S.processes (λ j m.
      from_where S.horizon (is_crashed S (suc j)) (suspects layer trace (suc i) (suc j)) _ (suspected i j l m)))))
      (below_all S.horizon some _ S.processes (λ i l. below_where S.horizon some (is_correct S (suc i)) _
      (below_all S.horizon some _ S.processes (λ j m. below_where S.horizon some (is_crashed S (suc j)) _ (suspected_below i j l m)))))

  pub weak_completeness_is : weak_completeness S trace layer ≡ judged_weak_completeness S track
  weak_completeness_is =
      least_reached S.horizon _ _
      (reached_all S.horizon _ _ S.processes (λ j m.
      reached_where S.horizon (is_crashed S (suc j)) (λ t. any_below (λ i. is_correct S (suc i) && all_from (suspects layer trace (suc i) (suc j)) t S.horizon) S.processes) _
      (reached_any S.horizon _ _ S.processes (λ i l.
      reached_both S.horizon (is_correct S (suc i)) (λ t. all_from (suspects layer trace (suc i) (suc j)) t S.horizon) _ (suspected i j l m)))))
      (below_all S.horizon some _ S.processes (λ j m. below_where S.horizon some (is_crashed S (suc j)) _
      (below_any S.horizon some _ S.processes (λ i l. below_both S.horizon some (is_correct S (suc i)) _ (suspected_below i j l m)))))

  pub eventual_strong_accuracy_is : eventual_strong_accuracy S trace layer ≡ judged_eventual_strong_accuracy S track
  eventual_strong_accuracy_is =
      least_reached S.horizon _ _
      (from_all S.horizon _ _ S.processes (λ i l.
      from_where S.horizon (is_correct S (suc i)) (λ u. all_below (λ j. cond (is_correct S (suc j)) (not (suspects layer trace (suc i) (suc j) u)) true) S.processes) _
      (from_all S.horizon _ _ S.processes (λ j m.
      from_where S.horizon (is_correct S (suc j)) (λ u. not (suspects layer trace (suc i) (suc j) u)) _ (trusted i j l m)))))
      (below_all S.horizon some _ S.processes (λ i l. below_where S.horizon some (is_correct S (suc i)) _
      (below_all S.horizon some _ S.processes (λ j m. below_where S.horizon some (is_correct S (suc j)) _ (trusted_below i j l m)))))

  pub eventual_weak_accuracy_is : eventual_weak_accuracy S trace layer ≡ judged_eventual_weak_accuracy S track
  eventual_weak_accuracy_is =
      least_reached S.horizon _ _
      (reached_any S.horizon _ _ S.processes (λ j m.
      reached_both S.horizon (is_correct S (suc j)) (λ t. all_from (λ u. all_below (λ i. cond (is_correct S (suc i)) (not (suspects layer trace (suc i) (suc j) u)) true) S.processes) t S.horizon) _
      (from_all S.horizon _ _ S.processes (λ i l.
      from_where S.horizon (is_correct S (suc i)) (λ u. not (suspects layer trace (suc i) (suc j) u)) _ (trusted i j l m)))))
      (below_any S.horizon some _ S.processes (λ j m. below_both S.horizon some (is_correct S (suc j)) _
      (below_all S.horizon some _ S.processes (λ i l. below_where S.horizon some (is_correct S (suc i)) _ (trusted_below i j l m)))))

  pub verdicts_are : verdicts S trace layer ≡ judged S track
  verdicts_are = λ i. record {
    strong_completeness = strong_completeness_is i;
    weak_completeness = weak_completeness_is i;
    strong_accuracy = strong_accuracy_is S trace layer track known i;
    weak_accuracy = weak_accuracy_is S trace layer track known i;
    eventual_strong_accuracy = eventual_strong_accuracy_is i;
    eventual_weak_accuracy = eventual_weak_accuracy_is i;
  }
