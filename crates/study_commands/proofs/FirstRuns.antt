-- What the first runs of points have, one after the other.
use Rattle.study_commands.proofs.Words.{◌≡◌, ◌⊎◌, ◌∙◌, ap, sym, refl, subst, inl, inr, ℕ, suc, ◌+◌, ◌-◌, ◌<◌, ◌≤◌, List, [], ◌∷◌, ◌++◌, length, map, Option, Result, Ok, IfOk, slice_index_or, length-append, arith, get_or-append-add, get_or-map, get_or_append_left, length-map, AllZip, range_with_len, AllocError, record_of, GridRecord, SourcesRecord, AreFirst, IsFirstOf, IsRunOf, IsFirst, found, late, late_with, period_of, uneven, uneven_in, unlinked, unlinked_where, uses_link, FirstRun, Members}

module _ (sources : SourcesRecord) (g : GridRecord) where
  which : (a b : ℕ) → (a < b) ⊎ (b ≤ a)
  which a b = grind arith

  -- those of a batch after those before
  pub runs_more : (begin next : ℕ) (old new : List FirstRun) (answers : List (Result FirstRun AllocError))
      → begin + length old ≡ next → map Ok new ≡ answers
      → ((i : ℕ) (d : Result FirstRun AllocError) → i < length answers
      → IfOk (slice_index_or answers i d) (IsFirstOf sources g (next + i)))
      → AreFirst sources g begin old → AreFirst sources g begin (old ++ new)
  runs_more begin next old new answers at are each before i d low = by (which i (length old))
    where
      by : (i < length old) ⊎ (length old ≤ i) → IsFirstOf sources g (begin + i) (slice_index_or (old ++ new) i d)
      by (inl first) =
          subst (IsFirstOf sources g (begin + i)) (sym (get_or_append_left old new d i first)) (before i d first)
      by (inr later) =
          let j : ℕ = i - length old in
          let long : length (old ++ new) ≡ length old + length new = length-append old new in
          let within : j < length new = omega (arith, low, later, long) in
          let counted : length {A = Result FirstRun AllocError} (map Ok new) ≡ length new = length-map new Ok in
          let many : j < length answers = subst (λ (l : List (Result FirstRun AllocError)). j < length l) are (omega (arith, within, counted)) in
          let here : slice_index_or answers j (Ok d) ≡ Ok (slice_index_or new j d) =
          ap (λ l. slice_index_or l j (Ok d)) (sym are) ∙ get_or-map Ok new j d (Ok d) within in
          let timed : IsFirstOf sources g (next + j) (slice_index_or new j d) =
          subst (λ (r : Result FirstRun AllocError). IfOk r (IsFirstOf sources g (next + j))) here (each j (Ok d) many) in
          let place : next + j ≡ begin + i = omega (arith, at, later) in
          let behind : slice_index_or (old ++ new) i d ≡ slice_index_or new j d =
          ap (λ k. slice_index_or (old ++ new) k d) (omega (arith, later)) ∙ get_or-append-add old new j d in
          subst (IsFirstOf sources g (begin + i)) (sym behind)
          (subst (λ (k : ℕ). IsFirstOf sources g k (slice_index_or new j d)) place timed)

  -- the tables of which they are
  pub tables_of : (begin : ℕ) (runs : List FirstRun) → AreFirst sources g begin runs
      → (tables : List Members) × AllZip (IsFirst sources g) (range_with_len begin (length runs)) tables
      × AllZip IsRunOf tables runs
  tables_of begin [] are = ([], tt, tt)
  tables_of begin (t ∷ ts) are =
      let here = are 0 t (omega arith) in
      let at : begin + 0 ≡ begin = omega arith in
      let first : IsFirst sources g begin here.0 = subst (λ (k : ℕ). IsFirst sources g k here.0) at here.1 in
      let later : AreFirst sources g (begin + 1) ts =
      λ i d low. subst (λ (k : ℕ). IsFirstOf sources g k (slice_index_or ts i d)) (omega arith) (are (suc i) d (omega (arith, low))) in
      let rest = tables_of (begin + 1) ts later in
      (here.0 ∷ rest.0, (first, rest.1), (here.2, rest.2))

-- and what is found of them
pub same_lates : (tables : List Members) (runs : List FirstRun) → AllZip IsRunOf tables runs
    → map (λ r. late_with r.detector r.horizon) runs ≡ map (λ t. late (record_of t)) tables
same_lates [] [] are = refl
same_lates (t ∷ ts) (r ∷ rs) are =
    ap (λ d. late_with d r.horizon ∷ map (λ u. late_with u.detector u.horizon) rs) are.0.detector
    ∙ ap (λ h. late_with (record_of t).detector h ∷ map (λ u. late_with u.detector u.horizon) rs) are.0.horizon
    ∙ ap (λ l. late (record_of t) ∷ l) (same_lates ts rs are.1)
same_lates _ _ are = absurd are

pub same_unevens : (ticks : List ℕ) (tables : List Members) (runs : List FirstRun) → AllZip IsRunOf tables runs
    → map (λ r. uneven_in (period_of r.detector) ticks) runs ≡ map (λ t. uneven ticks (record_of t)) tables
same_unevens ticks [] [] are = refl
same_unevens ticks (t ∷ ts) (r ∷ rs) are =
    ap (λ d. uneven_in (period_of d) ticks ∷ map (λ u. uneven_in (period_of u.detector) ticks) rs) are.0.detector
    ∙ ap (λ l. uneven ticks (record_of t) ∷ l) (same_unevens ticks ts rs are.1)
same_unevens ticks _ _ are = absurd are

pub same_unlinked : (tables : List Members) (runs : List FirstRun) → AllZip IsRunOf tables runs
    → map (λ r. unlinked_where r.uses_link r.processes) runs ≡ map unlinked tables
same_unlinked [] [] are = refl
same_unlinked (t ∷ ts) (r ∷ rs) are =
    ap (λ b. unlinked_where b r.processes ∷ map (λ u. unlinked_where u.uses_link u.processes) rs) are.0.link
    ∙ ap (λ n. unlinked_where (uses_link t) n ∷ map (λ u. unlinked_where u.uses_link u.processes) rs) are.0.processes
    ∙ ap (λ l. unlinked t ∷ l) (same_unlinked ts rs are.1)
same_unlinked _ _ are = absurd are

-- what is found of the points from a number on
pub found_at : {T : Type 0} (begin n : ℕ) (all others : List (Option T)) → all ≡ others → length all ≡ n
    → found (range_with_len begin (length all)) all ≡ found (range_with_len begin n) others
found_at begin n all others is long =
    ap (λ m. found (range_with_len begin m) all) long ∙ ap (found (range_with_len begin n)) is

pub same_length : (tables : List Members) (runs : List FirstRun) → AllZip IsRunOf tables runs
    → length tables ≡ length runs
same_length [] [] are = refl
same_length (t ∷ ts) (r ∷ rs) are = ap suc (same_length ts rs are.1)
same_length _ _ are = absurd are
