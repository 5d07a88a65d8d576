-- The phases of ticks, as a sort finds them, and their gaps.
use Rattle.study_commands.proofs.Words.{◌≡◌, ◌⊎◌, inl, inr, ◌∙◌, ap, sym, refl, subst, ℕ, zero, suc, ◌+◌, ◌-◌, ◌<◌, ◌≤◌, ◌==◌, ◌||◌, ◌%◌, Bool, true, false, cond, List, [], ◌∷◌, ◌++◌, map, max, fold, take, get_or, length, length-append, add-one, arith, eqb, All, zip, eq-eqb, ne_eqb, All-filter, get_or-range_with_len, length-range_with_len, get_or-zip, length-zip, get_or-append-add, get_or-map, get_or_append_left, length-map, take_all, gaps, next_phases, phases}
use Rattle.std.proofs.{Math.Bool.{or-true}, lemmas.{List.{Kept.{IsStrictlySortedBy-dedup}, Sorted.{list_any-IsPermutation}, Sums.{fold_more}}, Nat.{mod_below}}}
use Rattle.std.specs.{Cmp.{nat_cmp_total, ranks, unsigned_ties}, List.{dedup, dedup_from, filter, list_any, range_with_len, Sorted.{IsPermutation, IsSorted, IsStrictlySortedBy}}, Ordering.{MatchOrdering, nat_cmp}}

-- numbers that rise, from the first one on, and stay below a bound
Rise : (low bound : ℕ) → List ℕ → Type 0
Rise low bound [] = Unit {0}
Rise low bound (x ∷ xs) = (low ≤ x) × (x < bound) × Rise (x + 1) bound xs

abbrev has : (v : ℕ) → List ℕ → Bool
has v xs = list_any (λ y. y == v) xs

none_below : (low bound v : ℕ) (xs : List ℕ) → Rise low bound xs → v < low → has v xs ≡ false
unfolding Rise
none_below low bound v [] up lt = refl
none_below low bound v (x ∷ xs) up lt =
    ap (λ b. b || has v xs) (ne_eqb x v (λ e. omega (arith, e, up.0, lt)))
    ∙ none_below (x + 1) bound v xs up.2 (omega (arith, up.0, lt))

which : (a b : ℕ) → a ≤ b → (a ≡ b) ⊎ (a < b)
which a b le = grind arith

-- they are what a range has of them
range_filter : (test : ℕ → Bool) (n lo bound : ℕ) (xs : List ℕ) → lo + n ≡ bound → Rise lo bound xs
    → ((v : ℕ) → lo ≤ v → test v ≡ has v xs) → filter test (range_with_len lo n) ≡ xs
unfolding Rise
range_filter test zero lo bound [] end up is = refl
range_filter test zero lo bound (x ∷ xs) end up is = absurd (omega (arith, end, up.0, up.1))
range_filter test (suc n) lo bound [] end up is =
    ap (λ b. cond b (lo ∷ filter test (range_with_len (lo + 1) n)) (filter test (range_with_len (lo + 1) n)))
    (is lo (omega arith))
    ∙ range_filter test n (lo + 1) bound [] (omega (arith, end)) tt (λ v le. is v (omega (arith, le)))
range_filter test (suc n) lo bound (x ∷ xs) end up is =
    by (which lo x up.0) (range_filter test n (lo + 1) bound xs (omega (arith, end)))
    (range_filter test n (lo + 1) bound (x ∷ xs) (omega (arith, end)))
  where
    rest : List ℕ
    rest = filter test (range_with_len (lo + 1) n)

    Are : List ℕ → Type 0
    Are ys = Rise (lo + 1) bound ys → ((v : ℕ) → lo + 1 ≤ v → test v ≡ has v ys) → rest ≡ ys

    by : (lo ≡ x) ⊎ (lo < x) → Are xs → Are (x ∷ xs) → filter test (range_with_len lo (suc n)) ≡ x ∷ xs
    by (inl same) shorter longer =
        let here : test lo ≡ true = is lo (omega arith) ∙ ap (λ b. b || has lo xs) (eq-eqb x lo (sym same)) in
        let later : (v : ℕ) → lo + 1 ≤ v → test v ≡ has v xs =
        λ v le. is v (omega (arith, le)) ∙ ap (λ b. b || has v xs) (ne_eqb x v (λ e. omega (arith, e, same, le))) in
        let R : ℕ → Type 0 = λ m. Rise (m + 1) bound xs in
        let all : rest ≡ xs = shorter (subst R (sym same) up.2) later in
        ap (λ b. cond b (lo ∷ rest) rest) here ∙ ap (λ l. lo ∷ l) all ∙ ap (λ m. m ∷ xs) same
    by (inr lt) shorter longer =
        let here : test lo ≡ false = is lo (omega arith) ∙ none_below x bound lo (x ∷ xs) (omega arith, up.1, up.2) lt in
        ap (λ b. cond b (lo ∷ rest) rest) here
        ∙ longer (omega (arith, lt), up.1, up.2) (λ v le. is v (omega (arith, le)))

-- ---- what a sort and a `dedup` leave

has_from : (v k : ℕ) (xs : List ℕ) → has v (dedup_from eqb k xs) ≡ has v (k ∷ xs)
has_from v k [] = refl
has_from v k (x ∷ xs) = by (eqb x k) refl (has_from v k xs) (has_from v x xs)
  where
    or_same : (a b : Bool) → a || b ≡ a || (a || b)
    or_same true b = refl
    or_same false b = refl

    by : (same : Bool) → eqb x k ≡ same → has v (dedup_from eqb k xs) ≡ has v (k ∷ xs)
        → has v (dedup_from eqb x xs) ≡ has v (x ∷ xs)
        → has v (cond same (dedup_from eqb k xs) (k ∷ dedup_from eqb x xs)) ≡ has v (k ∷ (x ∷ xs))
    by true is without from =
        let equal : x ≡ k = grind arith in
        without ∙ or_same (k == v) (has v xs) ∙ ap (λ m. (k == v) || ((m == v) || has v xs)) (sym equal)
    by false is without from = ap (λ b. (k == v) || b) from

has_dedup : (v : ℕ) (xs : List ℕ) → has v (dedup eqb xs) ≡ has v xs
has_dedup v [] = refl
has_dedup v (x ∷ xs) = has_from v x xs

has_phase : (period v : ℕ) (ticks : List ℕ) → has v (map (λ t. t % period) ticks) ≡ list_any (λ t. t % period == v) ticks
has_phase period v [] = refl
has_phase period v (t ∷ ts) = ap (λ b. (t % period == v) || b) (has_phase period v ts)

-- all of them below a bound
Below : ℕ → List ℕ → Type 0
Below bound [] = Unit {0}
Below bound (x ∷ xs) = (x < bound) × Below bound xs

rise_of : (low bound : ℕ) (xs : List ℕ) → IsStrictlySortedBy nat_cmp xs → Below bound xs
    → ((x : ℕ) (others : List ℕ) → xs ≡ x ∷ others → low ≤ x) → Rise low bound xs
unfolding IsStrictlySortedBy Rise Below
rise_of low bound [] sorted below first = tt
rise_of low bound (x ∷ []) sorted below first = (first x [] refl, below.0, tt)
rise_of low bound (x ∷ (y ∷ ys)) sorted below first =
    let lt : x < y = subst (λ r. MatchOrdering r (x < y) (x ≡ y) (y < x)) sorted.0.0 (ranks x y) in (
      first x (y ∷ ys) refl,
      below.0,
      rise_of (x + 1) bound (y ∷ ys) sorted.1 below.1
          (λ z zs is. let same : y ≡ z = cc in omega (arith, lt, same)),
    )

below_of : (bound : ℕ) (xs : List ℕ) → ((v : ℕ) → has v xs ≡ true → v < bound) → Below bound xs
unfolding Below
below_of bound [] all = tt
below_of bound (x ∷ xs) all = (
  all x (ap (λ b. b || has x xs) (eq-eqb x x refl)),
  below_of bound xs (λ v is. all v (ap (λ b. (x == v) || b) is ∙ or-true (x == v))),
)

phase_low : (period v : ℕ) (ticks : List ℕ) → 1 ≤ period → list_any (λ t. t % period == v) ticks ≡ true → v < period
phase_low period v [] some is = cc
phase_low period v (t ∷ ts) some is = by (t % period == v) refl is (phase_low period v ts some)
  where
    by : (here : Bool) → (t % period == v) ≡ here → here || list_any (λ u. u % period == v) ts ≡ true
        → (list_any (λ u. u % period == v) ts ≡ true → v < period) → v < period
    by true same is later =
        let equal : t % period ≡ v = grind arith in
        let low : t % period < period = mod_below t period some in
        omega (arith, equal, low)
    by false same is later = later is

-- the phases are below the period
pub phases_low : (period : ℕ) (ticks : List ℕ) → All (λ x. x < period) (phases period ticks)
phases_low period ticks =
    let low : All (λ x. x < period) (range_with_len 0 period) = λ k d within.
    let at : k < period = omega (arith, within, length-range_with_len 0 period) in
    omega (arith, get_or-range_with_len 0 period k d at, at) in
    All-filter (λ phase. list_any (λ t. t % period == phase) ticks) (λ x. x < period) (range_with_len 0 period) low

pub are_phases : (period : ℕ) (ticks taken sorted left : List ℕ) → 1 ≤ period
    → taken ≡ map (λ t. t % period) ticks → IsPermutation taken sorted → IsSorted nat_cmp sorted
    → left ≡ dedup eqb sorted → left ≡ phases period ticks
are_phases period ticks taken sorted left some is permuted in_order kept =
    let strict : IsStrictlySortedBy nat_cmp left =
    subst (IsStrictlySortedBy nat_cmp) (sym kept) (IsStrictlySortedBy-dedup nat_cmp_total unsigned_ties sorted in_order) in
    let test : (v : ℕ) → list_any (λ t. t % period == v) ticks ≡ has v left =
    λ v. sym (has_phase period v ticks) ∙ ap (has v) (sym is) ∙ list_any-IsPermutation (λ y. y == v) taken sorted permuted
    ∙ sym (has_dedup v sorted) ∙ ap (has v) (sym kept) in
    let below : Below period left = below_of period left (λ v h. phase_low period v ticks some (test v ∙ h)) in
    sym (range_filter (λ v. list_any (λ t. t % period == v) ticks) period 0 period left (omega arith)
    (rise_of 0 period left strict below (λ x others e. omega arith)) (λ v le. test v))

-- ---- gaps

module _ (period : ℕ) where
  length-next : (all : List ℕ) → length (next_phases period all) ≡ length all
  length-next [] = refl
  length-next (x ∷ xs) = length-append xs ((x + period) ∷ []) ∙ omega arith

  pub length-gaps : (all : List ℕ) → length (gaps period all) ≡ length all
  length-gaps all =
      length-map (zip all (next_phases period all)) (λ pair. pair.1 - pair.0) ∙ length-zip all (next_phases period all)
      ∙ omega (arith, length-next all)

  pub next_inside : (all : List ℕ) (place d : ℕ) → place + 1 < length all
      → get_or (next_phases period all) place d ≡ get_or all (place + 1) d
  next_inside [] place d low = absurd (omega (arith, low))
  next_inside (x ∷ xs) place d low =
      get_or_append_left xs ((x + period) ∷ []) d place (omega (arith, low))
      ∙ ap (λ k. get_or (x ∷ xs) k d) (sym (add-one place))

  pub next_last : (all : List ℕ) (place d : ℕ) → place + 1 ≡ length all
      → get_or (next_phases period all) place d ≡ get_or all 0 d + period
  next_last [] place d last = absurd (omega (arith, last))
  next_last (x ∷ xs) place d last =
      ap (λ k. get_or (xs ++ (x + period) ∷ []) k d) (omega (arith, last))
      ∙ get_or-append-add xs ((x + period) ∷ []) 0 d

  gap_at : (all : List ℕ) (place d : ℕ) → place < length all
      → get_or (gaps period all) place d ≡ get_or (next_phases period all) place d - get_or all place d
  gap_at all place d low =
      let low_next : place < length (next_phases period all) = omega (arith, low, length-next all) in
      let low_zip : place < length (zip all (next_phases period all)) =
      omega (arith, low, low_next, length-zip all (next_phases period all)) in
      get_or-map (λ pair. pair.1 - pair.0) (zip all (next_phases period all)) place (d, d) d low_zip
      ∙ ap (λ pair. pair.1 - pair.0) (get_or-zip all (next_phases period all) place (d, d) low low_next)

  -- one gap more
  pub gap_more : (all : List ℕ) (place d next greatest : ℕ) → place < length all
      → get_or (next_phases period all) place d ≡ next → greatest ≡ fold max 0 (take place (gaps period all))
      → max greatest (next - get_or all place d) ≡ fold max 0 (take (place + 1) (gaps period all))
  gap_more all place d next greatest low is so_far =
      let within : place < length (gaps period all) = omega (arith, low, length-gaps all) in
      sym (fold_more max 0 (gaps period all) place d within
      ∙ ap (λ m. max m (get_or (gaps period all) place d)) (sym so_far)
      ∙ ap (λ m. max greatest m) (gap_at all place d low ∙ ap (λ m. m - get_or all place d) is))

  pub all_gaps : (all : List ℕ) (place : ℕ) → length all ≤ place → take place (gaps period all) ≡ gaps period all
  all_gaps all place past = take_all place (gaps period all) (omega (arith, past, length-gaps all))
