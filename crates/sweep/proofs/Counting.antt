-- Values that a map counts, and their percentiles.
use Rattle.sweep.proofs.Words.{◌≡◌, ℕ, ◌+◌, ◌*◌, ◌<◌, ◌≤◌, Bool, true, false, cond, Some, None, List, [], ◌∷◌, ◌++◌, length, sym, ap, ◌∙◌, refl, subst, arith, suc, min, ◌-◌, ◌^◌, unwrap_or, nat_le, le-leb, ◌==◌, insert_entry, is_at, count_by, sum_by, AllByRecursion, Contains, keys_of, lookup, nat_cmp, match_ordering, is_eq, lt-leb, leb-true, leb-false, eqb-true, sum_by-cons, sum_by-append, count_by-le-length, passing, most_values, IsRanked, IsPercentile, at_most, eq-eqb}
use Rattle.std.specs.{List.Sorted.{IsStrictlySortedBy}, declared.cmp.Ordering.{Ordering, TheVariants.{Less, Equal, Greater}}}
use Rattle.std.proofs.lemmas.{Cmp.{nat_cmp_total, ranked}, Map.{lookup-none, Entries.{none_below_head}, Keys.{sorted_head, sorted_tail}}}

-- ---- one more of a value

module _ (test : ℕ → Bool) where
  abbrev weight : ℕ × ℕ → ℕ
  weight e = cond (test e.0) e.1 0

  passing-cons : (e : ℕ × ℕ) (es : List (ℕ × ℕ)) → passing test (e ∷ es) ≡ weight e + passing test es
  passing-cons e es = sum_by-cons weight e es

  both : (b : Bool) (m n : ℕ) → cond b (m + n) 0 ≡ cond b m 0 + cond b n 0
  both true m n = refl
  both false m n = refl

  pub passing_more : (es : List (ℕ × ℕ)) (k v n : ℕ) → IsStrictlySortedBy nat_cmp (keys_of es) → v ≡ unwrap_or (lookup (is_at (nat_cmp k)) es) 0 + n
      → passing test (insert_entry nat_cmp es k v) ≡ passing test es + cond (test k) n 0
  passing_more [] k v n s e = passing-cons (k, v) [] ∙ omega (arith, ap (λ x. cond (test k) x 0) e, both (test k) 0 n, both (test k) 0 0)
  passing_more (e ∷ es) k v n s is = by (nat_cmp k e.0) refl (passing_more es k v n (sorted_tail nat_cmp e.0 (keys_of es) s)) is
    where
      by : (r : Ordering) → nat_cmp k e.0 ≡ r
          → (v ≡ unwrap_or (lookup (is_at (nat_cmp k)) es) 0 + n → passing test (insert_entry nat_cmp es k v) ≡ passing test es + cond (test k) n 0)
          → v ≡ unwrap_or (cond (is_eq r) (Some e.1) (lookup (is_at (nat_cmp k)) es)) 0 + n
          → passing test (match_ordering r ((k, v) ∷ e ∷ es) ((e.0, v) ∷ es) (e ∷ insert_entry nat_cmp es k v)) ≡ passing test (e ∷ es) + cond (test k) n 0
      by Less p later g =
          let none : unwrap_or (lookup (is_at (nat_cmp k)) es) 0 ≡ 0 = ap (λ o. unwrap_or o 0) (lookup-none (is_at (nat_cmp k)) es (none_below_head nat_cmp_total k e es s p).1) in
          let v_is : v ≡ n = omega arith in
          omega (arith, passing-cons (k, v) (e ∷ es), ap (λ x. cond (test k) x 0) v_is)
      by Equal p later g =
          let same : k ≡ e.0 = ranked k e.0 Equal (sym p) in
          omega (arith, passing-cons (e.0, v) es, passing-cons e es, ap (λ x. cond (test e.0) x 0) g, both (test e.0) e.1 n, ap (λ x. cond (test x) n 0) same)
      by Greater p later g = omega (arith, passing-cons e es, passing-cons e (insert_entry nat_cmp es k v), later g)

-- ---- percentiles

-- how often all of them came
abbrev pub counted : List (ℕ × ℕ) → ℕ
counted es = sum_by (λ e. e.1) es

counted-cons : (e : ℕ × ℕ) (es : List (ℕ × ℕ)) → counted (e ∷ es) ≡ e.1 + counted es
counted-cons e es = sum_by-cons (λ x. x.1) e es

abbrev Above : ℕ → List (ℕ × ℕ) → Type 0
Above k es = AllByRecursion (λ y. nat_cmp k y ≡ Less) (keys_of es)

-- of what comes after a value nothing is at most that value
none_above : (k w : ℕ) (es : List (ℕ × ℕ)) → w ≤ k → Above k es → passing (λ x. nat_le x w) es ≡ 0
none_above k w [] le h = refl
none_above k w (e ∷ es) le h =
    let over : k < e.0 = ranked k e.0 Less (sym h.0) in
    passing-cons (λ x. nat_le x w) e es ∙ omega (arith, ap (λ b. cond b e.1 0) (lt-leb e.0 w (omega arith)), none_above k w es le h.1)

head_above : (k : ℕ) (front : List (ℕ × ℕ)) (e : ℕ × ℕ) (back : List (ℕ × ℕ)) → Above k (front ++ e ∷ back) → k < e.0
head_above k [] e back h = ranked k e.0 Less (sym h.0)
head_above k (f ∷ front) e back h = head_above k front e back h.1

at_most_one : (b : Bool) (n : ℕ) → cond b n 0 ≤ n
at_most_one true n = omega arith
at_most_one false n = omega arith

module _ (e : ℕ × ℕ) (back : List (ℕ × ℕ)) where
  up_to : (front : List (ℕ × ℕ)) → IsStrictlySortedBy nat_cmp (keys_of (front ++ e ∷ back)) → passing (λ x. nat_le x e.0) (front ++ e ∷ back) ≡ counted front + e.1
  up_to [] s =
      passing-cons (λ x. nat_le x e.0) e back
      ∙ omega (arith, ap (λ b. cond b e.1 0) (le-leb e.0 e.0 (omega arith)), none_above e.0 e.0 back (omega arith) (sorted_head nat_cmp e.0 (keys_of back) s))
  up_to (f ∷ front) s =
      let under : f.0 < e.0 = head_above f.0 front e back (sorted_head nat_cmp f.0 (keys_of (front ++ e ∷ back)) s) in
      passing-cons (λ x. nat_le x e.0) f (front ++ e ∷ back)
      ∙ omega (arith, ap (λ b. cond b f.1 0) (le-leb f.0 e.0 (omega arith)), up_to front (sorted_tail nat_cmp f.0 (keys_of (front ++ e ∷ back)) s), counted-cons f front)

  below : (w : ℕ) → w < e.0 → (front : List (ℕ × ℕ)) → IsStrictlySortedBy nat_cmp (keys_of (front ++ e ∷ back)) → passing (λ x. nat_le x w) (front ++ e ∷ back) ≤ counted front
  below w lt [] s =
      let rest = none_above e.0 w back (omega arith) (sorted_head nat_cmp e.0 (keys_of back) s) in
      omega (arith, passing-cons (λ x. nat_le x w) e back, ap (λ b. cond b e.1 0) (lt-leb e.0 w lt), rest)
  below w lt (f ∷ front) s =
      omega (arith, passing-cons (λ x. nat_le x w) f (front ++ e ∷ back), at_most_one (nat_le f.0 w) f.1, below w lt front (sorted_tail nat_cmp f.0 (keys_of (front ++ e ∷ back)) s), counted-cons f front)

  here : (front : List (ℕ × ℕ)) → e.1 ≤ passing (λ x. x == e.0) (front ++ e ∷ back)
  here [] = omega (arith, passing-cons (λ x. x == e.0) e back, ap (λ b. cond b e.1 0) (eq-eqb e.0 e.0 refl))
  here (f ∷ front) = omega (arith, passing-cons (λ x. x == e.0) f (front ++ e ∷ back), here front)

-- what is counted is there
there : (v : ℕ) (values : List ℕ) → 1 ≤ count_by (λ x. x == v) values → Contains values v
there v [] h = absurd (omega (arith, h))
there v (x ∷ xs) h = by (x == v) refl (there v xs)
  where
    by : (b : Bool) → (x == v) ≡ b → (1 ≤ count_by (λ y. y == v) xs → Contains xs v) → Contains (x ∷ xs) v
    by true p later = (0, omega arith, eqb-true x v p)
    by false p later =
        let zero_here : cond (x == v) 1 0 ≡ 0 = ap {B = ℕ} (λ b. cond b 1 0) p in
        let rest : 1 ≤ count_by (λ y. y == v) xs = omega (arith, h, sum_by-cons (λ y. cond (y == v) 1 0) x xs, zero_here) in
        let found = later rest in (suc found.0, omega (arith, found.1), found.2)

-- an entry's count is no more than all
pub lookup_le : (test : ℕ → Bool) (es : List (ℕ × ℕ)) → unwrap_or (lookup test es) 0 ≤ counted es
lookup_le test [] = omega arith
lookup_le test (e ∷ es) = by (test e.0) (lookup_le test es)
  where
    by : (b : Bool) → unwrap_or (lookup test es) 0 ≤ counted es → unwrap_or (cond b (Some e.1) (lookup test es)) 0 ≤ counted (e ∷ es)
    by true later = omega (arith, counted-cons e es)
    by false later = omega (arith, later, counted-cons e es)

every : (values : List ℕ) → count_by (λ _. true) values ≡ length values
every [] = refl
every (x ∷ xs) = omega (arith, sum_by-cons (λ (_ : ℕ). 1) x xs, every xs)

-- the counts of all values
pub total_of : (values : List ℕ) (es : List (ℕ × ℕ)) → ((test : ℕ → Bool) → count_by test values ≡ passing test es) → counted es ≡ length values
total_of values es is = sym (is (λ _. true)) ∙ every values

-- the first value with which enough were counted is the percentile
pub ranked_first : (p : ℕ) (values : List ℕ) (infinite : ℕ) (front : List (ℕ × ℕ)) (e : ℕ × ℕ) (back : List (ℕ × ℕ))
    → IsStrictlySortedBy nat_cmp (keys_of (front ++ e ∷ back)) → ((test : ℕ → Bool) → count_by test values ≡ passing test (front ++ e ∷ back))
    → 100 * counted front < p * (length values + infinite) → p * (length values + infinite) ≤ 100 * (counted front + e.1) → IsRanked p values infinite e.0
ranked_first p values infinite front e back s is short enough = record {
  value = there e.0 values (omega (arith, short, enough, is (λ x. x == e.0), here e back front));
  covers = omega (arith, enough, is (λ x. nat_le x e.0), up_to e back front s);
  least = λ w in_list covers. not_below w covers;
}
  where
    not_below : (w : ℕ) → p * (length values + infinite) ≤ 100 * at_most w values → e.0 ≤ w
    not_below w covers = by (nat_le e.0 w) refl
      where
        by : (b : Bool) → nat_le e.0 w ≡ b → e.0 ≤ w
        by true q = leb-true e.0 w q
        by false q = absurd (omega (arith, short, covers, is (λ x. nat_le x w), below e back w (leb-false e.0 w q) front s))

module _ (p seen wanted : ℕ) (values : List ℕ) (infinite : ℕ) (es front rest : List (ℕ × ℕ))
    (split : es ≡ front ++ rest) (is : (test : ℕ → Bool) → count_by test values ≡ passing test es)
    (high : length values < most_values) (wants : wanted ≡ p * (length values + infinite))
    (so_far : seen ≡ min (counted front) (2 ^ 128 - 1)) (short : 100 * seen < wanted) where
  counted_front : counted front + counted rest ≡ length values
  counted_front = omega (arith, sum_by-append (λ (x : ℕ × ℕ). x.1) front rest, ap counted split, total_of values es is)

  pub percentile_found : (e : ℕ × ℕ) (back : List (ℕ × ℕ)) (now : ℕ) → rest ≡ e ∷ back → IsStrictlySortedBy nat_cmp (keys_of es)
      → now ≡ min (seen + e.1) (2 ^ 128 - 1) → wanted ≤ 100 * now → IsRanked p values infinite e.0
  percentile_found e back now next s goes enough =
      let parts : es ≡ front ++ e ∷ back = split ∙ ap (λ r. front ++ r) next in
      let more : counted rest ≡ e.1 + counted back = ap counted next ∙ counted-cons e back in
      ranked_first p values infinite front e back (subst (λ x. IsStrictlySortedBy nat_cmp (keys_of x)) parts s) (λ test. is test ∙ ap (passing test) parts)
      (omega (arith, counted_front, short, so_far, wants, high))
      (omega (arith, counted_front, more, enough, goes, so_far, wants, high))

  -- all were counted, and they are too few: the rank falls on an infinite one
  pub none_found : rest ≡ [] → IsPercentile p values infinite None
  none_found none w in_list covers =
      let no_more : counted rest ≡ 0 = ap counted none in
      let few : at_most w values ≤ length values = count_by-le-length (λ x. nat_le x w) values in
      absurd (omega (arith, counted_front, no_more, covers, few, short, so_far, wants, high))
