-- Entries whose keys differ, and that are put in order.
use Rattle.trace_merge.proofs.Words.{◌≡◌, ◌<◌, ◌∙◌, ℕ, suc, refl, sym, ap, Bool, true, false, IsTrue, List, [], ◌∷◌, ◌++◌, map, length, get_or, arith, is_eq, Ordering, IsPermutation, All, IsPermutation-trans, ordering_reverse, All-from_recursion, list_all-from_AllPass, key_cmp, is_less, is_before, is_rising, EntryRecord, keys_total, weaker, and_true, all_of, AreDisjoint, ◌≢◌, ◌≤◌, is_lt, Equal, IsDistinct, false_from_ne_true, eq_by_cmp_equiv, All-append, All-head, All-tail, All-weaker, recursion_from_All, All-permutation, IsPermutation-append, IsPermutation-append_comm, ranks_by, sorted_far, AllPass-from_list_all, IsDistinct-IsPermutation, before_by_tick, exact_keys, both, both_true, AllDiffer, AreApart, IsInOrder, IsMergeOf, same}

tie : (r : Ordering) → is_eq r ≡ true → r ≡ Equal
tie r h = grind arith

before_other : (r : Ordering) → is_less r ≡ true → is_eq r ≡ false
before_other r h = grind arith

not_after : (r : Ordering) → is_lt (ordering_reverse r) ≡ false → is_eq r ≡ false → is_less r ≡ true
not_after r h n = grind arith

abbrev less : EntryRecord → EntryRecord → Bool
less a b = is_lt (key_cmp a.key b.key)

other_key : (a b : EntryRecord) → a.key ≢ b.key → same a b ≡ false
other_key a b n = false_from_ne_true _ (λ h. n (exact_keys a.key b.key (tie _ h)))

differ_joined : (xs ys : List EntryRecord) → IsTrue (is_rising xs) → IsDistinct same ys → AreApart xs ys → IsDistinct same (xs ++ ys)
unfolding IsDistinct
differ_joined [] ys r e a = e
differ_joined (x ∷ xs) ys r e a =
    let rises = both_true _ _ r in
    let after = recursion_from_All _ xs (AllPass-from_list_all (λ f. is_before x.key f.key) xs rises.0) in
    (both (λ f. same x f ≡ false) xs ys (weaker _ _ (λ f b. before_other _ b) xs after) (weaker _ _ (other_key x) ys a.0), differ_joined xs ys rises.1 e a.1)

kept_apart : (xs ys : List EntryRecord) → IsPermutation xs ys → AllDiffer xs → AllDiffer ys
kept_apart xs ys perm d = IsDistinct-IsPermutation same (λ a b. (eq_by_cmp_equiv keys_total).symm a.key b.key) xs ys perm d

-- of parts that rise and share no key
module _ {X : Type 0} (f : X → List EntryRecord) where
  pub all_differ : (ps : List X) → All (λ p. IsTrue (is_rising (f p))) ps → AreDisjoint (map f ps) → IsDistinct same (all_of (map f ps))
  unfolding IsDistinct
  all_differ [] rising apart = tt
  all_differ (p ∷ ps) rising apart =
      differ_joined (f p) (all_of (map f ps)) (rising 0 p (omega arith)) (all_differ ps (λ k d l. rising (suc k) d (omega (arith, l))) apart.1) apart.0

-- an entry that is before all of a list that rises
pub rising_more : (e : EntryRecord) (es : List EntryRecord) → All (λ f. is_before e.key f.key ≡ true) es → IsTrue (is_rising es) → IsTrue (is_rising (e ∷ es))
rising_more e es first rising = and_true _ _ (list_all-from_AllPass (λ f. is_before e.key f.key) es first) rising

-- entries in order rise where no two have one key
rising_sorted : (es : List EntryRecord) → ((i j : ℕ) (d : EntryRecord) → i ≤ j → j < length es → less (get_or es j d) (get_or es i d) ≡ false) → IsDistinct same es → IsTrue (is_rising es)
unfolding IsDistinct
rising_sorted [] far d = refl
rising_sorted (e ∷ es) far d =
    rising_more e es
    (λ k f low. not_after _ (sym (ap is_lt (keys_total.antisymm (get_or es k f).key e.key)) ∙ far 0 (suc k) f (omega arith) (omega (arith, low))) (All-from_recursion (λ f. same e f ≡ false) es d.0 k f low))
    (rising_sorted es (λ i j f low high. far (suc i) (suc j) f (omega (arith, low)) (omega (arith, high))) d.1)

pub order_rising : (es : List EntryRecord) → IsInOrder es → AllDiffer es → IsTrue (is_rising es)
order_rising es s d = rising_sorted es (sorted_far less (ranks_by keys_total (λ (e : EntryRecord). e.key)) es s) d

differ_rest : (xs ys : List EntryRecord) → AllDiffer (xs ++ ys) → AllDiffer ys
unfolding IsDistinct
differ_rest [] ys d = d
differ_rest (x ∷ xs) ys d = differ_rest xs ys d.1

-- each of the one list is earlier than each of the other
abbrev pub Ahead : List EntryRecord → List EntryRecord → Type 0
Ahead xs ys = All (λ x. All (λ y. x.key.tick < y.key.tick) ys) xs

joined_rising : (xs ys : List EntryRecord) → IsTrue (is_rising xs) → IsTrue (is_rising ys) → Ahead xs ys → IsTrue (is_rising (xs ++ ys))
joined_rising [] ys r h ahead = h
joined_rising (x ∷ xs) ys r h ahead =
    let p : EntryRecord → Bool = λ f. is_before x.key f.key in
    let Q : EntryRecord → Type 0 = λ e. All (λ y. e.key.tick < y.key.tick) ys in
    let rises = both_true _ _ r in
    let later : All (λ f. p f ≡ true) ys = λ k f low. ap is_less (before_by_tick x.key _ (All-head Q x xs ahead k f low)) in
    rising_more x (xs ++ ys) (All-append (λ f. p f ≡ true) xs ys (AllPass-from_list_all p xs rises.0) later) (joined_rising xs ys rises.1 h (All-tail Q x xs ahead))

-- Of parts these entries were taken; each of them is earlier than what is left
module _ (parts left : List (List EntryRecord)) (taken : List EntryRecord) (differ : AllDiffer (all_of parts)) (all_es : IsPermutation (all_of parts) (taken ++ all_of left)) where
  pub rest_differ : AllDiffer (all_of left)
  rest_differ = differ_rest taken (all_of left) (kept_apart _ _ all_es differ)

  -- put in order they are a piece
  pub goes_on : (piece : List EntryRecord) → IsPermutation taken piece → IsInOrder piece → Ahead taken (all_of left) → (rest : List EntryRecord) → IsMergeOf left rest → IsMergeOf parts (piece ++ rest)
  goes_on piece perm order ahead rest is =
      let all_same = IsPermutation-trans _ _ _ all_es (IsPermutation-append taken piece (all_of left) rest perm is.same) in
      let piece_differ = differ_rest rest piece (kept_apart _ _ (IsPermutation-trans _ _ _ all_same (IsPermutation-append_comm piece rest)) differ) in
      record {
        rising = joined_rising piece rest (order_rising piece order piece_differ) is.rising
            (All-permutation (λ x. All (λ y. x.key.tick < y.key.tick) rest) taken piece perm
            (All-weaker (λ x. All (λ y. x.key.tick < y.key.tick) (all_of left)) (λ x. All (λ y. x.key.tick < y.key.tick) rest) (λ x h. All-permutation (λ y. x.key.tick < y.key.tick) (all_of left) rest is.same h) taken ahead));
        same = all_same;
      }
