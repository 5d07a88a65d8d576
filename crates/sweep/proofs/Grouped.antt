-- Groups of pairs, one after the other: their numbers, their sums and their rows.
use Rattle.sweep.proofs.Words.{◌≡◌, ℕ, zero, suc, ◌+◌, ◌<◌, ◌≤◌, ⊎_elim, List, [], ◌∷◌, ◌++◌, length, min, set, take, get_or, get_or_default, get_or-set_other, get_or-set_same, length-set, cases_lt, refl, sym, ap, ◌∙◌, subst, arith, append-nil, append_assoc, AllZip, flat_map, take-length, take_more, flat_map-append, GridRecord, LayoutRecord, Trial, Text, lead_of, AddsOneMore, AreGroupNumbers, AreSums, AreRowsOfGroup, most_runs, Group, GroupNumbers, UnitSums, AllZip-long, AddsRowsOfGroup, AddsRowsOfSums, text_of, PointSums}
use Rattle.{sweep.proofs.Zipped.{zip_push}, sweep.specs.declared.table.Table.{Table}}

-- ---- two lists in step

module _ {A B : Type 0} (R : A → B → Type 0) where
  -- what stands at a place of both
  pub zip_at : (xs : List A) (ys : List B) (i : ℕ) (d : A) (e : B) → AllZip R xs ys → i < length xs → R (get_or xs i d) (get_or ys i e)
  zip_at [] ys i d e zip lt = absurd (omega (arith, lt))
  zip_at (x ∷ xs) [] i d e zip lt = absurd zip
  zip_at (x ∷ xs) (y ∷ ys) zero d e zip lt = zip.0
  zip_at (x ∷ xs) (y ∷ ys) (suc i) d e zip lt = zip_at xs ys i d e zip.1 (omega (arith, lt))

  -- one more of the first list, with what stands in step with it
  pub zip_more : (xs : List A) (ys : List B) (i : ℕ) (x : A) (y : B) → i < length xs → x ≡ get_or xs i x → AllZip R (take i xs) ys
      → R x y → AllZip R (take (i + 1) xs) (ys ++ y ∷ [])
  zip_more xs ys i x y lt is zip r =
      let P : List A → Type 0 = λ l. AllZip R l (ys ++ y ∷ []) in
      let Q : A → Type 0 = λ z. R z y in
      subst P (sym (take_more xs i x lt)) (zip_push R (take i xs) ys (get_or xs i x) y zip (subst Q is r))

  -- of all of it
  pub zip_all : (xs : List A) (ys : List B) (i : ℕ) → i ≤ length xs → length xs ≤ i → AllZip R (take i xs) ys → AllZip R xs ys
  zip_all xs ys i low high zip =
      let P : List A → Type 0 = λ l. AllZip R l ys in
      let whole : i ≡ length xs = omega (arith, low, high) in
      subst P (ap (λ n. take n xs) whole ∙ take-length xs) zip

-- ---- one more run

-- with a run the sums of each group below a place are added up, and the others are as they were
pub record AreAddedBelow (place : ℕ) (numbers : List GroupNumbers) (old new : List PointSums) : Type 0 where
  pub long : length new ≡ length old
  pub below : (k : ℕ) (n : GroupNumbers) (s t : PointSums) → k < place → AddsOneMore (get_or numbers k n) (get_or old k s) (get_or new k t)
  pub above : (k : ℕ) (s : PointSums) → place ≤ k → get_or new k s ≡ get_or old k s

-- one group more
pub added_more : (place : ℕ) (numbers : List GroupNumbers) (old now : List PointSums) (n : GroupNumbers) (s t : PointSums)
    → place < length numbers → place < length old → n ≡ get_or numbers place n → s ≡ get_or now place s → AddsOneMore n s t
    → AreAddedBelow place numbers old now → AreAddedBelow (place + 1) numbers old (set now place t)
added_more place numbers old now n s t in_numbers in_old n_is s_is adds was =
    let in_now : place < length now = omega (arith, in_old, was.long) in
    let Q : ℕ → Type 0 = λ k. (m : GroupNumbers) (u v : PointSums) → AddsOneMore (get_or numbers k m) (get_or old k u) (get_or (set now place t) k v) in
    let here : Q place =
    λ m u v.
    let new : get_or (set now place t) place v ≡ t = get_or-set_same now place t v in_now in
    let its : get_or old place u ≡ s = get_or_default old place u s in_old ∙ sym (s_is ∙ was.above place s (omega arith)) in
    let is : get_or numbers place m ≡ n = get_or_default numbers place m n in_numbers ∙ sym n_is in
    rw (new, its, is) adds in
    record {
      long = length-set now place t ∙ was.long;
      below = λ k m u v lt.
          ⊎_elim
          (λ (low : k < place).
          let other : get_or (set now place t) k v ≡ get_or now k v = get_or-set_other now place k t v (λ e. omega (arith, e, low)) in
          rw other (was.below k m u v low))
          (λ (high : place ≤ k).
          let same : place ≡ k = omega (arith, high, lt) in
          subst Q same here m u v)
          (cases_lt k place);
      above = λ k u le. get_or-set_other now place k t u (λ e. omega (arith, e, le)) ∙ was.above k u (omega (arith, le));
    }

module _ (first : ℕ) (trials : List Trial) (trial : Trial) (few : length trials < most_runs) where
  pub all_added : (groups : List Group) (old new : List PointSums) (numbers : List GroupNumbers)
      → AllZip (λ group s. AreSums group first trials s) groups old → AllZip (λ group n. AreGroupNumbers group trial n) groups numbers
      → length new ≡ length old
      → ((k : ℕ) (n : GroupNumbers) (s t : PointSums) → k < length groups → AddsOneMore (get_or numbers k n) (get_or old k s) (get_or new k t))
      → AllZip (λ group s. AreSums group first (trials ++ trial ∷ []) s) groups new
  all_added [] [] [] numbers sums are long each = tt
  all_added [] [] (t ∷ new) numbers sums are long each = absurd (omega (arith, long))
  all_added [] (s ∷ old) new numbers sums are long each = absurd sums
  all_added (group ∷ groups) [] new numbers sums are long each = absurd sums
  all_added (group ∷ groups) (s ∷ old) [] numbers sums are long each = absurd (omega (arith, long))
  all_added (group ∷ groups) (s ∷ old) (t ∷ new) [] sums are long each = absurd are
  all_added (group ∷ groups) (s ∷ old) (t ∷ new) (n ∷ numbers) sums are long each = (
    each 0 n s t (omega arith) group first trials trial few sums.0 are.0,
    all_added groups old new numbers sums.1 are.1 (omega (arith, long)) (λ k m u v lt. each (suc k) m u v (omega (arith, lt))),
  )

-- ---- rows

module _ (layout : LayoutRecord) (g : GridRecord) (unit : ℕ) (sums : UnitSums) where
  abbrev lead : List Text
  lead = lead_of layout.rows g unit

  pub rows_none : (t : Table) → AddsRowsOfSums layout g unit [] sums t t
  rows_none t first trials are = ([], record { parts = []; each = tt; text_is = refl }, sym (append-nil (text_of t)))

  pub rows_more : (i : ℕ) (group : Group) (s : PointSums) (old now new : Table) → i < length layout.groups → group ≡ get_or layout.groups i group
      → s ≡ get_or sums.groups.items i s → AddsRowsOfSums layout g unit (take i layout.groups) sums old now
      → AddsRowsOfGroup layout g unit group s now new → AddsRowsOfSums layout g unit (take (i + 1) layout.groups) sums old new
  rows_more i group s old now new lt is same was more first trials are =
      let R : Group → PointSums → Type 0 = λ h u. AreSums h first trials u in
      let T : Group → Text → Type 0 = AreRowsOfGroup layout.picks lead first trials in
      let there : R (get_or layout.groups i group) (get_or sums.groups.items i s) = zip_at R layout.groups sums.groups.items i group s are lt in
      let here : R group s = subst (λ h. R h s) (sym is) (subst (R (get_or layout.groups i group)) (sym same) there) in
      let (rows, told, text) = was first trials are in
      let (its, its_told, its_text) = more first trials here in (
        rows ++ its,
        record {
          parts = told.parts ++ its ∷ [];
          each = zip_more T layout.groups told.parts i group its lt is told.each its_told;
          text_is = ap (λ t. t ++ its) told.text_is
              ∙ ap (λ t. flat_map (λ part. part) told.parts ++ t) (sym (append-nil its))
              ∙ sym (flat_map-append (λ part. part) told.parts (its ∷ []));
        },
        its_text ∙ ap (λ t. t ++ its) text ∙ append_assoc (text_of old) rows its,
      )

  -- those of all groups, whose sums are as many
  pub rows_all : (i : ℕ) (old new : Table) → i ≤ length layout.groups → min (length layout.groups) (length sums.groups.items) ≤ i
      → AddsRowsOfSums layout g unit (take i layout.groups) sums old new → AddsRowsOfSums layout g unit layout.groups sums old new
  rows_all i old new low high was first trials are =
      let P : List Group → Type 0 = λ l. AddsRowsOfSums layout g unit l sums old new in
      let R : Group → PointSums → Type 0 = λ h u. AreSums h first trials u in
      let len : length sums.groups.items ≡ length layout.groups = AllZip-long R layout.groups sums.groups.items are in
      let whole : i ≡ length layout.groups = omega (arith, low, high, len) in
      subst P (ap (λ n. take n layout.groups) whole ∙ take-length layout.groups) was first trials are
