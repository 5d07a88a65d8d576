-- The outage tables, taken one after the other.
use Rattle.scenario.proofs.Words.{◌≡◌, ℕ, ◌*◌, ◌≤◌, ◌++◌, List, [], ◌∷◌, map, filter, length, set, get_or, replicate, true, false, cond, refl, ap, sym, ◌∙◌, subst, arith, AllByRecursion, leb-false, map-append, length-replicate, get_or-replicate, Members, pair_of, same_pair, outage_of, pair_outages, each_pairs_outages, outages_among, IsOutage, is_bad_outage, are_bad_outages, AreProcesses, Outage}
use Rattle.scenario.proofs.{KeyFacts.{pair_place, pair_within, pair_keys}, Grid.{grid_at, grid_length, grid_whole}, Slots.{of, AreHeld, put}, Within.{neither, first_inside}}

-- ---- the lists of the pairs

module _ (n : ℕ) where
  held_of : (lists : List (List Outage)) (tables : List Members) → lists ≡ each_pairs_outages tables n → AreHeld (pair_keys n) (map outage_of) lists tables
  unfolding pair_outages
  held_of lists tables are = record {
    full = ap length are ∙ grid_length (pair_outages tables) n;
    held = λ pair good. ap (λ cells. get_or cells (pair_place n pair) []) are ∙ grid_at (pair_outages tables) n pair [] good;
  }

  -- no list has an outage yet
  pub none_yet : replicate (n * n) [] ≡ each_pairs_outages [] n
  unfolding pair_outages
  none_yet =
      grid_whole (pair_outages []) n [] (replicate (n * n) []) (length-replicate (n * n) [])
      (λ pair good. get_or-replicate (n * n) (pair_place n pair) [] [] (pair_within n pair good))

  pub pairs_length : (lists : List (List Outage)) (tables : List Members) → lists ≡ each_pairs_outages tables n → length lists ≡ n * n
  pairs_length lists tables are = (held_of lists tables are).full

  -- one more table, of this pair
  pub one_added : (lists : List (List Outage)) (tables : List Members) (t : Members) (pair : ℕ × ℕ) (outage : Outage) → lists ≡ each_pairs_outages tables n
      → pair ≡ pair_of t → outage ≡ outage_of t → AreProcesses n pair
      → set lists (pair_place n pair) (get_or lists (pair_place n pair) [] ++ outage ∷ []) ≡ each_pairs_outages (tables ++ t ∷ []) n
  unfolding pair_outages
  one_added lists tables t pair outage are e f good =
      let its : AreProcesses n (pair_of t) = subst (AreProcesses n) e good in
      let hold : AreHeld (pair_keys n) (map outage_of) lists tables = held_of lists tables are in
      let more = put (pair_keys n) (map outage_of) lists tables t (get_or lists (pair_place n (pair_of t)) [] ++ outage_of t ∷ []) hold its
      (ap (λ os. os ++ outage_of t ∷ []) (hold.held (pair_of t) its) ∙ sym (map-append outage_of (of (pair_keys n) (pair_of t) tables) (t ∷ []))) in
      rw (e, f) (grid_whole (pair_outages (tables ++ t ∷ [])) n [] _ more.full more.held)

  pub pairs_all : (tables : List Members) → 1 ≤ length tables → each_pairs_outages tables n ≡ outages_among tables n
  unfolding outages_among
  pairs_all [] some = absurd (omega arith)
  pairs_all (t ∷ ts) some = refl

-- ---- the outages of the links

good_outage : (n : ℕ) (o : Members) → is_bad_outage n o ≡ false → IsOutage (outage_of o)
unfolding is_bad_outage
good_outage n o e =
    let from = first_inside _ _ _ _ _ _ e in
    let to = first_inside _ _ _ _ _ _ from.2 in
    let begin = first_inside _ _ _ _ _ _ (neither _ _ to.2).1 in
    let until = first_inside _ _ _ _ _ _ begin.2 in
    record { begin_low = leb-false _ _ until.2; until_high = until.1 }

each_in_range : (n : ℕ) (tables : List Members) (pair : ℕ × ℕ) → are_bad_outages n tables ≡ false → AllByRecursion IsOutage (pair_outages tables pair)
unfolding pair_outages
each_in_range n [] pair clean = tt
each_in_range n (t ∷ ts) pair clean =
    let parts = neither (is_bad_outage n t) (are_bad_outages n ts) clean in
    let rest = each_in_range n ts pair parts.1 in
    elim (same_pair (pair_of t) pair) as (λ b. AllByRecursion IsOutage (map outage_of (cond b (t ∷ filter (λ o. same_pair (pair_of o) pair) ts) (filter (λ o. same_pair (pair_of o) pair) ts))))
    [ true ↦ (good_outage n t parts.0, rest) | false ↦ rest ]

pub outages_in_range : (n : ℕ) (tables : List Members) (pair : ℕ × ℕ) → AreProcesses n pair → are_bad_outages n tables ≡ false
    → AllByRecursion IsOutage (get_or (outages_among tables n) (pair_place n pair) [])
unfolding outages_among
outages_in_range n [] pair good clean = tt
outages_in_range n (t ∷ ts) pair good clean =
    subst (AllByRecursion IsOutage) (sym (grid_at (pair_outages (t ∷ ts)) n pair [] good)) (each_in_range n (t ∷ ts) pair clean)
