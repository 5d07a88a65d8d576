-- Lemmas on the proposals of a table.
use Rattle.scenario.proofs.Words.{◌≡◌, ℕ, zero, suc, ◌≤◌, ◌==◌, List, [], length, map, true, false, not, ◌||◌, Some, None, option_and_then, is_some, refl, ap, ◌∙◌, arith, or-true, list_any, option_map_or, length-map, Members, Items, as_array, get_member, array_in, the_integers, integers_at, has_key, natural, is_bad_proposal, are_other_than}
use Rattle.std.proofs.Math.Dec.{eqb-zero-suc}

none_of_some : (n : ℕ) → 1 ≤ n → (0 == n) ≡ false
none_of_some zero low = absurd (omega arith)
none_of_some (suc n) low = eqb-zero-suc n

-- where there is no array there aren't n numbers
pub no_array : (n : ℕ) (key : List ℕ) (t : Members) → 1 ≤ n → None ≡ array_in key t
    → are_other_than n (has_key key t) (integers_at key t) ≡ true
unfolding are_other_than integers_at
no_array n key t low e = rw (← e, none_of_some n low) (or-true (not (has_key key t)))

there : (key : List ℕ) (t : Members) (ds : Items) → Some ds ≡ array_in key t → has_key key t ≡ true
unfolding has_key
there key t ds e = elim (get_member key t) as (λ o. Some ds ≡ option_and_then as_array o → is_some o ≡ true) [ None ↦ λ f. cc | Some d ↦ λ f. refl ] e

pub integers_of_array : (key : List ℕ) (t : Members) (ds : Items) → Some ds ≡ array_in key t
    → integers_at key t ≡ the_integers ds
unfolding integers_at
integers_of_array key t ds e = rw (← e) refl

-- of an array: whether its numbers are n in their range
pub of_array : (n : ℕ) (key : List ℕ) (t : Members) (ds : Items) → Some ds ≡ array_in key t
    → are_other_than n (has_key key t) (integers_at key t) ≡ (not (length (the_integers ds) == n) || list_any is_bad_proposal (the_integers ds))
unfolding are_other_than
of_array n key t ds e = rw (there key t ds e, integers_of_array key t ds e) refl

pub bad_number : (n : ℕ) (key : List ℕ) (t : Members) (ds : Items) → Some ds ≡ array_in key t
    → list_any is_bad_proposal (the_integers ds) ≡ true → are_other_than n (has_key key t) (integers_at key t) ≡ true
bad_number n key t ds e bad = of_array n key t ds e ∙ rw bad (or-true (not (length (the_integers ds) == n)))

-- another count of numbers, or the right one
pub other_count : (n : ℕ) (key : List ℕ) (t : Members) (ds : Items) (found : List ℕ) → Some ds ≡ array_in key t
    → found ≡ map natural (the_integers ds) → (length found == n) ≡ false → are_other_than n (has_key key t) (integers_at key t) ≡ true
other_count n key t ds found e made other =
    let count : length found ≡ length (the_integers ds) = ap length made ∙ length-map (the_integers ds) natural in
    of_array n key t ds e ∙ rw (← count, other) refl

pub right_count : (n : ℕ) (key : List ℕ) (t : Members) (ds : Items) (found : List ℕ) → Some ds ≡ array_in key t
    → found ≡ map natural (the_integers ds) → list_any is_bad_proposal (the_integers ds) ≡ false → (length found == n) ≡ true
    → are_other_than n (has_key key t) (integers_at key t) ≡ false
right_count n key t ds found e made good here =
    let count : length found ≡ length (the_integers ds) = ap length made ∙ length-map (the_integers ds) natural in
    of_array n key t ds e ∙ rw (← count, here, good) refl

pub no_key : (key : List ℕ) (t : Members) → has_key key t ≡ false → integers_at key t ≡ []
unfolding has_key integers_at
no_key key t e = elim (get_member key t) as (λ o. is_some o ≡ false → option_map_or the_integers (option_and_then as_array o) [] ≡ []) [ None ↦ λ f. refl | Some d ↦ λ f. cc ] e
