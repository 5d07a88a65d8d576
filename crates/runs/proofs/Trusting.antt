-- Counts of trusts, with more.
use Rattle.runs.proofs.Words.{◌≡◌, ◌≢◌, ℕ, suc, ◌+◌, ◌-◌, ◌*◌, ◌/◌, ◌%◌, ◌<◌, ◌≤◌, min, Bool, true, false, cond, inl, inr, refl, sym, ap, ◌∙◌, arith, eqb, List, [], ◌∷◌, ◌++◌, append-nil, set, length, take, get_or, filter, count_by, length-append, cases_eq, cond-true, cond-false, cond_both, eq-eqb, eqb-true, ne_eqb, get_or-set_same, get_or-set_other, length-set, take_more, filter-append, sum_by-append, sum_by-cons, EntryRecord, is_trust, trusts, AreCounts, most_trusts}
use Rattle.{std.proofs.lemmas.Nat.{mul-add-lt, div-mul-add, mod-mul-add}, process_api.specs.declared.action.Note.{Note}}
use Rattle.judges.specs.Outcomes.{timed, notes_of}

-- ---- of an observer and a subject

module _ (n : ℕ) where
  pub same_counts : (f g : (q p : ℕ) → ℕ) (counts : List ℕ) → ((q p : ℕ) → f q p ≡ g q p) → AreCounts n f counts → AreCounts n g counts
  same_counts f g counts same are = record {
    square = are.square;
    each = λ i j l m. are.each i j l m ∙ ap (λ k. min k most_trusts) (same (suc i) (suc j));
  }

  -- two places are one only where both numbers are
  other_place : (i j o w : ℕ) → j < n → w < n → (i ≡ o → j ≡ w → ⊥) → i * n + j ≢ o * n + w
  other_place i j o w l m other e =
      other
      (sym (div-mul-add i n j l) ∙ ap (λ x. x / n) e ∙ div-mul-add o n w m)
      (sym (mod-mul-add i n j l) ∙ ap (λ x. x % n) e ∙ mod-mul-add o n w m)

  -- observer o trusts subject w once more
  module _ (o w : ℕ) (of : (q p : ℕ) → ℕ) (counts : List ℕ) (are : AreCounts n of counts) where
    abbrev pub once : (q p : ℕ) → ℕ
    once q p = cond (eqb o q) (cond (eqb w p) 1 0) 0

    abbrev pub grown : (q p : ℕ) → ℕ
    grown q p = of q p + once q p

    not_its : (q p : ℕ) → (o ≡ q → w ≡ p → ⊥) → once q p ≡ 0
    not_its q p other = cond_both (eqb o q) (cond (eqb w p) 1 0) 0 (λ k. k ≡ 0)
        (λ e. cond-false (eqb w p) 1 0 (ne_eqb w p (other (eqb-true o q e)))) (λ _. refl)

    is_its : (q p : ℕ) → o ≡ q → w ≡ p → once q p ≡ 1
    is_its q p e f = cond-true (eqb o q) _ 0 (eq-eqb o q e) ∙ cond-true (eqb w p) 1 0 (eq-eqb w p f)

    -- numbers above n have no count
    pub outside_counted : (o ≤ n → w ≤ n → ⊥) → AreCounts n grown counts
    outside_counted out = record {
      square = are.square;
      each = λ i j l m. omega (arith, are.each i j l m, not_its (suc i) (suc j) (λ e d. out (omega (arith, e, l)) (omega (arith, d, m))));
    }

    pub one_counted : (k x y : ℕ) → 1 ≤ o → o ≤ n → 1 ≤ w → w ≤ n → k ≡ (o - 1) * n + (w - 1) → x ≡ get_or counts k 0 → y ≡ min (x + 1) most_trusts → AreCounts n grown (set counts k y)
    one_counted k x y o_low o_high w_low w_high at is new = record {
      square = length-set counts k y ∙ are.square;
      each = λ i j l m. elim (cases_eq i (o - 1)) [
        | inl e ↦ elim (cases_eq j (w - 1)) [ inl f ↦ own i j l m e f | inr f ↦ other i j l m (λ _ z. f z) ]
        | inr e ↦ other i j l m (λ z _. e z)
      ];
    }
      where
        inside : k < length counts
        inside = let l = mul-add-lt (o - 1) n (w - 1) n (omega arith) (omega arith) in omega (arith, l, are.square, at)

        own : (i j : ℕ) → i < n → j < n → i ≡ o - 1 → j ≡ w - 1 → get_or (set counts k y) (i * n + j) 0 ≡ min (grown (suc i) (suc j)) most_trusts
        own i j l m e f =
            let place : i * n + j ≡ k = ap (λ a. a * n + j) e ∙ ap (λ b. (o - 1) * n + b) f ∙ sym at in
            let there : get_or (set counts k y) (i * n + j) 0 ≡ y = ap (λ a. get_or (set counts k y) a 0) place ∙ get_or-set_same counts k y 0 inside in
            let was : x ≡ min (of (suc i) (suc j)) most_trusts = is ∙ ap (λ a. get_or counts a 0) (sym place) ∙ are.each i j l m in
            let more : once (suc i) (suc j) ≡ 1 = is_its (suc i) (suc j) (omega (arith, e)) (omega (arith, f)) in
            omega (arith, there, new, was, more)

        other : (i j : ℕ) → i < n → j < n → (i ≡ o - 1 → j ≡ w - 1 → ⊥) → get_or (set counts k y) (i * n + j) 0 ≡ min (grown (suc i) (suc j)) most_trusts
        other i j l m out =
            let same : get_or (set counts k y) (i * n + j) 0 ≡ get_or counts (i * n + j) 0
            = get_or-set_other counts k (i * n + j) y 0 (λ e. other_place i j (o - 1) (w - 1) m (omega arith) out (e ∙ at)) in
            let none : once (suc i) (suc j) ≡ 0 = not_its (suc i) (suc j) (λ e f. out (omega (arith, e)) (omega (arith, f))) in
            omega (arith, same, none, are.each i j l m)

-- the first notes of an observer with one more
pub counted_next : {X : Type 0} (o q : ℕ) (is : X → Bool) (of : ℕ) (xs : List X) (i : ℕ) (x : X) → i < length xs → x ≡ get_or xs i x
    → of + cond (eqb o q) (count_by is (take i xs)) 0 + cond (eqb o q) (cond (is x) 1 0) 0 ≡ of + cond (eqb o q) (count_by is (take (i + 1) xs)) 0
counted_next {X} o q is of xs i x lt at = elim (eqb o q) as (λ b. of + cond b (count_by is (take i xs)) 0 + cond b (cond (is x) 1 0) 0 ≡ of + cond b (count_by is (take (i + 1) xs)) 0) [
  | true ↦
      let one : X → ℕ = λ y. cond (is y) 1 0 in
      let next : take (i + 1) xs ≡ take i xs ++ x ∷ [] = take_more xs i x lt ∙ ap (λ y. take i xs ++ y ∷ []) (sym at) in
      omega (arith, ap (count_by is) next, sum_by-append one (take i xs) (x ∷ []), sum_by-cons one x [])
  | false ↦ omega arith
]

-- ---- of a trace

counted_notes : (tick p : ℕ) (notes : List Note) → length (filter (λ (n : ℕ × Note). is_trust p n.1) (timed tick notes)) ≡ count_by (is_trust p) notes
counted_notes tick p [] = refl
counted_notes tick p (n ∷ notes) = by (is_trust p n) (counted_notes tick p notes) ∙ sym (sum_by-cons (λ m. cond (is_trust p m) 1 0) n notes)
  where
    rest : List (ℕ × Note)
    rest = filter (λ (n : ℕ × Note). is_trust p n.1) (timed tick notes)

    by : (b : Bool) → length rest ≡ count_by (is_trust p) notes → length (cond b ((tick, n) ∷ rest) rest) ≡ cond b 1 0 + count_by (is_trust p) notes
    by true later = omega (arith, later)
    by false later = omega (arith, later)

-- one more entry
pub trusts_more : (trace : List EntryRecord) (entry : EntryRecord) (q p : ℕ) → trusts (trace ++ entry ∷ []) q p ≡ trusts trace q p + cond (eqb entry.key.receiver q) (count_by (is_trust p) entry.notes) 0
trusts_more [] entry q p =
    let is : ℕ × Note → Bool = λ n. is_trust p n.1 in
    elim (eqb entry.key.receiver q) as (λ b. length (filter is (cond b (timed entry.key.tick entry.notes ++ []) [])) ≡ 0 + cond b (count_by (is_trust p) entry.notes) 0) [
      | true ↦ omega (arith, ap (λ ns. length (filter is ns)) (append-nil (timed entry.key.tick entry.notes)), counted_notes entry.key.tick p entry.notes)
      | false ↦ refl
    ]
trusts_more (first ∷ trace) entry q p =
    let is : ℕ × Note → Bool = λ n. is_trust p n.1 in
    let its = timed first.key.tick first.notes in
    let count : List (ℕ × Note) → ℕ = λ ns. length (filter is ns) in
    let both : (ns : List (ℕ × Note)) → count (its ++ ns) ≡ count its + count ns = λ ns. ap length (filter-append is its ns) ∙ length-append (filter is its) (filter is ns) in
    let more = cond (eqb entry.key.receiver q) (count_by (is_trust p) entry.notes) 0 in
    elim (eqb first.key.receiver q) as (λ b. count (cond b (its ++ notes_of (trace ++ entry ∷ []) q) (notes_of (trace ++ entry ∷ []) q)) ≡ count (cond b (its ++ notes_of trace q) (notes_of trace q)) + more) [
      | true ↦ omega (arith, both (notes_of (trace ++ entry ∷ []) q), both (notes_of trace q), trusts_more trace entry q p)
      | false ↦ trusts_more trace entry q p
    ]

module _ (n : ℕ) (trace : List EntryRecord) (entry : EntryRecord) (counts : List ℕ) where
  abbrev pub noted : (q p : ℕ) → ℕ
  noted q p = trusts trace q p + cond (eqb entry.key.receiver q) (count_by (is_trust p) entry.notes) 0

  pub entry_counted : AreCounts n noted counts → AreCounts n (trusts (trace ++ entry ∷ [])) counts
  entry_counted are = same_counts n noted (trusts (trace ++ entry ∷ [])) counts (λ q p. sym (trusts_more trace entry q p)) are

  -- an entry without notes counts nothing
  pub quiet_counted : entry.notes ≡ [] → AreCounts n (trusts trace) counts → AreCounts n (trusts (trace ++ entry ∷ [])) counts
  quiet_counted none are = entry_counted (same_counts n (trusts trace) noted counts (λ q p. omega (arith, nothing q p)) are)
    where
      nothing : (q p : ℕ) → cond (eqb entry.key.receiver q) (count_by (is_trust p) entry.notes) 0 ≡ 0
      nothing q p = cond_both (eqb entry.key.receiver q) (count_by (is_trust p) entry.notes) 0 (λ k. k ≡ 0) (λ _. ap (count_by (is_trust p)) none) (λ _. refl)
