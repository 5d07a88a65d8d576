-- All pairs, as they open and as they are fed with one more entry.
use Rattle.judges.proofs.Words.{◌≡◌, ◌≢◌, ℕ, suc, ◌+◌, ◌-◌, ◌*◌, ◌/◌, ◌%◌, ◌<◌, ◌≤◌, min, Bool, cond, ◌&&◌, inl, inr, refl, sym, ap, ◌∙◌, subst, arith, eqb, List, [], ◌∷◌, ◌++◌, set, length, get_or, and-true, cases_eq, cond-true, cond-false, cond_both, lt-ltb, eq-eqb, eqb-true, ne_eqb, with_items_is, get_or_default, get_or-set_same, get_or-set_other, length-set, fold-append, mul-add-lt, div-mul-add, mod-mul-add, EntryRecord, Record, end_of, AreEnds, end_tick, opened_at, opened, turned, all_turned, AreTurned, Turn, noted_turns, entry_turns, turns, Pairs}
use Rattle.judges.proofs.Turns.{turns_more, turns_late, turns_quiet, in_order_more}
use Rattle.{std.specs.Vec.{with_items, vec_len}, process_api.specs.Place.{most_processes}}
use Rattle.judges.specs.{Pairs.{AreUntil, ArePairs, fed}, declared.pair.Pair.{Pair}}

module _ {K : Type 0} (passed : ℕ → Bool → ℕ → K → K) where
  -- ---- turns of the pairs of n processes

  module _ (n : ℕ) where
    pub none_turned : (xs : List (Pair K)) (f : (q p : ℕ) → List Turn) → ((i j : ℕ) → i < n → j < n → f (suc i) (suc j) ≡ []) → AreTurned passed n xs xs f
    none_turned xs f none = record { count = refl; each = λ i j d l m. ap (all_turned passed (get_or xs (i * n + j) d)) (sym (none i j l m)) }

    pub same_turned : (xs ys : List (Pair K)) (f g : (q p : ℕ) → List Turn) → AreTurned passed n xs ys f → ((q p : ℕ) → f q p ≡ g q p) → AreTurned passed n xs ys g
    same_turned xs ys f g h same = record {
      count = h.count;
      each = λ i j d l m. h.each i j d l m ∙ ap (all_turned passed (get_or xs (i * n + j) d)) (same (suc i) (suc j));
    }

    pub more_turned : (xs ys zs : List (Pair K)) (f g : (q p : ℕ) → List Turn) → AreTurned passed n xs ys f → AreTurned passed n ys zs g → AreTurned passed n xs zs (λ q p. f q p ++ g q p)
    more_turned xs ys zs f g first rest = record {
      count = rest.count ∙ first.count;
      each = λ i j d l m.
          rest.each i j d l m
          ∙ ap (λ x. all_turned passed x (g (suc i) (suc j))) (first.each i j d l m)
          ∙ sym (fold-append (λ q t. turned passed t.tick t.suspected q) (get_or xs (i * n + j) d) (f (suc i) (suc j)) (g (suc i) (suc j)));
    }

    -- two places are one only where both numbers are
    other_place : (i j o w : ℕ) → j < n → w < n → (i ≡ o → j ≡ w → ⊥) → i * n + j ≢ o * n + w
    other_place i j o w l m other e =
        other
        (sym (div-mul-add i n j l) ∙ ap (λ x. x / n) e ∙ div-mul-add o n w m)
        (sym (mod-mul-add i n j l) ∙ ap (λ x. x % n) e ∙ mod-mul-add o n w m)

    -- observer o and subject w turn
    module _ (o w tick : ℕ) (suspected : Bool) where
      abbrev pub its_turns : (q p : ℕ) → List Turn
      its_turns q p = cond (eqb o q) (cond (eqb w p) (record { tick = tick; suspected = suspected } ∷ []) []) []

      not_its : (q p : ℕ) → (o ≡ q → w ≡ p → ⊥) → its_turns q p ≡ []
      not_its q p other = cond_both (eqb o q) (cond (eqb w p) (record { tick = tick; suspected = suspected } ∷ []) []) [] (λ ts. ts ≡ [])
          (λ e. cond-false (eqb w p) _ [] (ne_eqb w p (other (eqb-true o q e)))) (λ _. refl)

      -- numbers above n have no pair
      pub outside_turned : (xs : List (Pair K)) → (o ≤ n → w ≤ n → ⊥) → AreTurned passed n xs xs its_turns
      outside_turned xs out = none_turned xs its_turns (λ i j l m. not_its (suc i) (suc j) (λ e d. out (omega (arith, e)) (omega (arith, d))))

      pub one_turned : (xs : List (Pair K)) (k : ℕ) (x y : Pair K) → length xs ≡ n * n → 1 ≤ o → o ≤ n → 1 ≤ w → w ≤ n → k ≡ (o - 1) * n + (w - 1) → x ≡ get_or xs k x → y ≡ turned passed tick suspected x → AreTurned passed n xs (set xs k y) its_turns
      one_turned xs k x y square o_low o_high w_low w_high at is new = record {
        count = length-set xs k y;
        each = λ i j d l m. elim (cases_eq i (o - 1)) [
          | inl e ↦ elim (cases_eq j (w - 1)) [ inl f ↦ own i j d e f | inr f ↦ other i j d m (λ _ z. f z) ]
          | inr e ↦ other i j d m (λ z _. e z)
        ];
      }
        where
          inside : k < length xs
          inside = let l = mul-add-lt (o - 1) n (w - 1) n (omega arith) (omega arith) in omega (arith, l, square, at)

          own : (i j : ℕ) (d : Pair K) → i ≡ o - 1 → j ≡ w - 1 → get_or (set xs k y) (i * n + j) d ≡ all_turned passed (get_or xs (i * n + j) d) (its_turns (suc i) (suc j))
          own i j d e f =
              let place : i * n + j ≡ k = ap (λ a. a * n + j) e ∙ ap (λ b. (o - 1) * n + b) f ∙ sym at in
              ap (λ a. get_or (set xs k y) a d) place
              ∙ get_or-set_same xs k y d inside
              ∙ new
              ∙ ap (turned passed tick suspected) (is ∙ get_or_default xs k x d inside ∙ ap (λ a. get_or xs a d) (sym place))
              ∙ ap (all_turned passed (get_or xs (i * n + j) d)) (sym (cond-true (eqb o (suc i)) _ [] (eq-eqb o (suc i) (omega (arith, e))) ∙ cond-true (eqb w (suc j)) _ [] (eq-eqb w (suc j) (omega (arith, f)))))

          other : (i j : ℕ) (d : Pair K) → j < n → (i ≡ o - 1 → j ≡ w - 1 → ⊥) → get_or (set xs k y) (i * n + j) d ≡ all_turned passed (get_or xs (i * n + j) d) (its_turns (suc i) (suc j))
          other i j d m out =
              get_or-set_other xs k (i * n + j) y d (λ e. other_place i j (o - 1) (w - 1) m (omega arith) out (e ∙ at))
              ∙ ap (all_turned passed (get_or xs (i * n + j) d)) (sym (not_its (suc i) (suc j) (λ e f. out (omega (arith, e)) (omega (arith, f)))))

  -- ---- as they open

  pub pairs_opened : (S : Record) (layer : ℕ) (kept : K) (ends : List ℕ) → AreEnds S ends → (m : Pairs K) → m.layer ≡ layer → m.processes ≡ length ends → m.horizon ≡ S.horizon → 0 < S.horizon
      → ((k : ℕ) (d : Pair K) → k < length ends * length ends → get_or m.pairs.items k d ≡ opened_at ends kept k) → ArePairs passed S layer kept [] m
  pairs_opened S layer kept ends are m same_layer processes horizon lasts each = record {
    same_layer = same_layer;
    processes = processes ∙ are.count;
    horizon = horizon;
    lasts = lasts;
    in_order = tt;
    each = λ i j d l m.
        each (i * S.processes + j) d (subst (λ n. i * S.processes + j < n * n) (sym are.count) (mul-add-lt i S.processes j S.processes l m))
        ∙ ap (λ e. opened e kept) (ends_at i j l m);
  }
    where
      ends_at : (i j : ℕ) → i < S.processes → j < S.processes
          → min (get_or ends ((i * S.processes + j) / length ends) 0) (get_or ends ((i * S.processes + j) % length ends) 0) ≡ end_of S (suc i) (suc j)
      ends_at i j l m =
          let q : get_or ends ((i * S.processes + j) / length ends) 0 ≡ end_tick S (suc i)
          = ap (λ k. get_or ends k 0) (ap (λ n. (i * S.processes + j) / n) are.count ∙ div-mul-add i S.processes j m) ∙ are.ticks i l in
          let p : get_or ends ((i * S.processes + j) % length ends) 0 ≡ end_tick S (suc j)
          = ap (λ k. get_or ends k 0) (ap (λ n. (i * S.processes + j) % n) are.count ∙ mod-mul-add i S.processes j m) ∙ are.ticks j m in
          omega arith

  -- ---- one more entry

  pub fed_more : (S : Record) (layer q p : ℕ) (kept : K) (trace : List EntryRecord) (entry : EntryRecord)
      → all_turned passed (fed passed S layer q p kept trace) (entry_turns layer q p S.horizon entry) ≡ fed passed S layer q p kept (trace ++ entry ∷ [])
  fed_more S layer q p kept trace entry =
      sym (fold-append (λ x t. turned passed t.tick t.suspected x) (opened (end_of S q p) kept) (turns layer q p S.horizon trace) (entry_turns layer q p S.horizon entry))
      ∙ ap (all_turned passed (opened (end_of S q p) kept)) (sym (turns_more layer q p S.horizon trace entry))

  module _ (S : Record) (layer : ℕ) (kept : K) (trace : List EntryRecord) (entry : EntryRecord) (m : Pairs K) (h : ArePairs passed S layer kept trace m) (until : AreUntil trace entry.key.tick) where
    -- an entry that turns nothing
    pairs_same : ((i j : ℕ) → entry_turns layer (suc i) (suc j) S.horizon entry ≡ []) → ArePairs passed S layer kept (trace ++ entry ∷ []) m
    pairs_same none = record {
      same_layer = h.same_layer;
      processes = h.processes;
      horizon = h.horizon;
      lasts = h.lasts;
      in_order = in_order_more trace 0 entry h.in_order until (omega arith);
      each = λ i j d x y.
          h.each i j d x y
          ∙ ap (all_turned passed (fed passed S layer (suc i) (suc j) kept trace)) (sym (none i j))
          ∙ fed_more S layer (suc i) (suc j) kept trace entry;
    }

    pub pairs_late : m.horizon ≤ entry.key.tick → ArePairs passed S layer kept (trace ++ entry ∷ []) m
    pairs_late late = pairs_same (λ i j. turns_late layer (suc i) (suc j) S.horizon entry (omega (arith, h.horizon)))

    pub pairs_quiet : entry.notes ≡ [] → ArePairs passed S layer kept (trace ++ entry ∷ []) m
    pairs_quiet none = pairs_same (λ i j. turns_quiet layer (suc i) (suc j) S.horizon entry none)

    pub pairs_fed : entry.key.tick < m.horizon → (xs : List (Pair K))
        → AreTurned passed m.processes m.pairs.items xs (λ q p. cond (eqb entry.key.receiver q) (noted_turns m.layer p entry.key.tick entry.notes) [])
        → (square : vec_len (with_items m.pairs xs) ≡ m.processes * m.processes) → (few : m.processes ≤ most_processes) → ArePairs passed S layer kept (trace ++ entry ∷ []) (record m { pairs = with_items m.pairs xs; square = square; few = few })
    pairs_fed below xs after square few = record {
      same_layer = h.same_layer;
      processes = h.processes;
      horizon = h.horizon;
      lasts = h.lasts;
      in_order = in_order_more trace 0 entry h.in_order until (omega arith);
      each = λ i j d x y.
          let here = subst (λ n. AreTurned passed n m.pairs.items xs (λ q p. cond (eqb entry.key.receiver q) (noted_turns m.layer p entry.key.tick entry.notes) [])) h.processes after in
          ap (λ ys. get_or ys (i * S.processes + j) d) (with_items_is m.pairs xs (after.count ∙ sym m.pairs.ok.0))
          ∙ here.each i j d x y
          ∙ ap (all_turned passed (get_or m.pairs.items (i * S.processes + j) d)) (same i j)
          ∙ ap (λ p. all_turned passed p (entry_turns layer (suc i) (suc j) S.horizon entry)) (h.each i j d x y)
          ∙ fed_more S layer (suc i) (suc j) kept trace entry;
    }
      where
        same : (i j : ℕ) → cond (eqb entry.key.receiver (suc i)) (noted_turns m.layer (suc j) entry.key.tick entry.notes) [] ≡ entry_turns layer (suc i) (suc j) S.horizon entry
        same i j =
            ap (λ l. cond (eqb entry.key.receiver (suc i)) (noted_turns l (suc j) entry.key.tick entry.notes) []) h.same_layer
            ∙ ap (λ b. cond b (noted_turns layer (suc j) entry.key.tick entry.notes) []) (sym (ap (λ c. eqb entry.key.receiver (suc i) && c) (lt-ltb entry.key.tick S.horizon (omega (arith, h.horizon))) ∙ and-true (eqb entry.key.receiver (suc i))))
