-- Places: what answers that are put into them change, and that what is there was given for its number.
use Rattle.sweep.proofs.Words.{◌≡◌, ◌≢◌, ◌⊎◌, inl, inr, ℕ, zero, suc, ◌+◌, ◌<◌, List, [], ◌∷◌, ◌++◌, length, refl, set, map, Option, Some, None, Result, Ok, IfOk, sym, ap, subst, ◌∙◌, arith, slice_index_or, All, FnReturns, Vec, get_or-append_seam, cases_eq, length-set, get_or-set_same, get_or-set_other, get_or_append_left, All-head, All-rest, IsPlaced, ArePlaces, with_answers, with_columns}
use denote.Param.Members.{Shared}
use Rattle.std.proofs.Math.ListN.{get_or-map}

module _ {T : Type 0} where
  pub length_answers : (places : List (Option T)) (answers : List (ℕ × T))
      → length (with_answers places answers) ≡ length places
  length_answers places [] = refl
  length_answers places (a ∷ rest) =
      length_answers (set places a.0 (Some a.1)) rest ∙ length-set places a.0 (Some a.1)

  -- empty places hold nothing
  pub nothing_at : (places : List (Option T)) (i : ℕ) (answer : T) → All (λ place. place ≡ None) places
      → slice_index_or places i None ≡ Some answer → ⊥
  nothing_at [] i answer all is = cc
  nothing_at (p ∷ rest) zero answer all is =
      let none : p ≡ None = All-head (λ place. place ≡ None) p rest all in
      let bad : None ≡ Some answer = sym none ∙ is in cc
  nothing_at (p ∷ rest) (suc i) answer all is =
      nothing_at rest i answer (All-rest (λ place. place ≡ None) p rest (p ∷ rest) refl all) is

some_same : {T : Type 0} (x y : T) → Some x ≡ Some y → x ≡ y
some_same x y is = cc

module _ {F T : Type 0} (g : Shared F (ℕ × Unit {0}) T) (job : F) (first : ℕ) where
  one_put : (places : List (Option T)) (a : ℕ × T) → a.0 < length places → FnReturns g job (first + a.0, tt) a.1
      → ArePlaces g job first places → ArePlaces g job first (set places a.0 (Some a.1))
  one_put places a within gives all i answer is = go (cases_eq i a.0)
    where
      go : (i ≡ a.0) ⊎ (i ≢ a.0) → FnReturns g job (first + i, tt) answer
      go (inl e) =
          let P : ℕ → Type 0 = λ k. slice_index_or (set places a.0 (Some a.1)) k None ≡ Some answer in
          let here : slice_index_or (set places a.0 (Some a.1)) a.0 None ≡ Some a.1 =
          get_or-set_same places a.0 (Some a.1) None within in
          let same : a.1 ≡ answer = some_same a.1 answer (sym here ∙ subst P e is) in
          let Q : T → Type 0 = λ x. FnReturns g job (first + a.0, tt) x in
          let R : ℕ → Type 0 = λ k. FnReturns g job (first + k, tt) answer in
          subst R (sym e) (subst Q same gives)
      go (inr apart) =
          all i answer (sym (get_or-set_other places a.0 i (Some a.1) None apart) ∙ is)

  -- one more answer after those that there are
  pub one_more : (n : ℕ) (answers now : List T) (a : T) → n ≡ length answers → now ≡ answers ++ a ∷ []
      → FnReturns g job (first + n, tt) a
      → ((i : ℕ) (d : T) → i < n → FnReturns g job (first + i, tt) (slice_index_or answers i d))
      → (i : ℕ) (d : T) → i < n + 1 → FnReturns g job (first + i, tt) (slice_index_or now i d)
  one_more n answers now a long is gives each i d lt =
      subst (λ l. FnReturns g job (first + i, tt) (slice_index_or l i d)) (sym is) (go (cases_eq i n))
    where
      go : (i ≡ n) ⊎ (i ≢ n) → FnReturns g job (first + i, tt) (slice_index_or (answers ++ a ∷ []) i d)
      go (inl e) =
          let at : slice_index_or (answers ++ a ∷ []) i d ≡ a =
          ap (λ k. slice_index_or (answers ++ a ∷ []) k d) (e ∙ long) ∙ get_or-append_seam answers a [] d in
          subst (λ x. FnReturns g job (first + i, tt) x) (sym at) (subst (λ k. FnReturns g job (first + k, tt) a) (sym e) gives)
      go (inr apart) =
          let below : i < n = omega (arith, lt, apart) in
          subst (λ x. FnReturns g job (first + i, tt) x)
          (sym (get_or_append_left answers (a ∷ []) d i (omega (arith, below, long)))) (each i d below)

  -- answers for their numbers, put into their places
  pub answers_put : (count : ℕ) (places : List (Option T)) (answers : List (ℕ × T)) → length places ≡ count
      → All (IsPlaced g job first count) answers → ArePlaces g job first places
      → ArePlaces g job first (with_answers places answers)
  answers_put count places [] long each all = all
  answers_put count places (a ∷ rest) long each all =
      let head = All-head (IsPlaced g job first count) a rest each in
      let more = All-rest (IsPlaced g job first count) a rest (a ∷ rest) refl each in
      let within : a.0 < length places = omega (arith, head.within, long) in
      answers_put count (set places a.0 (Some a.1)) rest (length-set places a.0 (Some a.1) ∙ long) more
      (one_put places a within head.gives all)

  pub columns_put : (count : ℕ) (places : List (Option T)) (columns : List (Vec (ℕ × T))) → length places ≡ count
      → All (λ column. All (IsPlaced g job first count) column.items) columns → ArePlaces g job first places
      → ArePlaces g job first (with_columns places columns)
  columns_put count places [] long each all = all
  columns_put count places (c ∷ rest) long each all =
      let P : Vec (ℕ × T) → Type 0 = λ column. All (IsPlaced g job first count) column.items in
      columns_put count (with_answers places c.items) rest (length_answers places c.items ∙ long)
      (All-rest P c rest (c ∷ rest) refl each)
      (answers_put count places c.items long (All-head P c rest each) all)

-- columns that are all there keep what each of them was answered with
pub all_columns : {X E : Type 0} (P : Vec X → Type 0) (columns : List (Vec X)) (answered : List (Result (Vec X) E))
    → map Ok columns ≡ answered
    → ((i : ℕ) (d : Result (Vec X) E) → i < length columns → IfOk (slice_index_or answered i d) P) → All P columns
all_columns P columns answered all each i d lt =
    let Q : List (Result _ _) → Type 0 = λ rs. IfOk (slice_index_or rs i (Ok d)) P in
    let R : Result _ _ → Type 0 = λ r. IfOk r P in
    subst R (get_or-map (λ v. Ok v) columns i d) (subst Q (sym all) (each i (Ok d) lt))

pub length_columns : {T : Type 0} (places : List (Option T)) (columns : List (Vec (ℕ × T)))
    → length (with_columns places columns) ≡ length places
length_columns places [] = refl
length_columns places (c ∷ rest) =
    length_columns (with_answers places c.items) rest ∙ length_answers places c.items
