-- The bits of words in a row.
use Rattle.process_api.proofs.Basics.{◌≡◌, ◌≢◌, ℕ, zero, suc, ◌+◌, ◌-◌, ◌*◌, ◌/◌, ◌%◌, ◌^◌, ◌<◌, ◌≤◌, inl, inr, refl, sym, ap, ◌∙◌, true, false, cond, not, ◌&&◌, ◌||◌, nat_eq, nat_lt, List, get_or, set, length, max, min, bit_and, bit_or, bit_xor, arith, nat_cmp, w64, bit_at, bit_not, trailing_zeros, count_ones, mod-one, mod-eq_of_lt, cases_eq, cases_lt, nat_tests, get_or-set_same, get_or-set_other, pow_pos, mod-pow-add, mod_below, ones_cat, bit_at-zero, bit_at-lt, bit_at_or, bit_at_and, bit_at_xor, bit_at_ones, bit_at_ones_above, bit_at_set_same, bit_at_set_other, bit_at_clear_same, bit_at_clear_other, bit_at-trailing_zeros, is_set, members}
use Rattle.process_api.proofs.Told.{len-more}
use Rattle.std.specs.FinSet as finite
use lib.Count.{ones}

-- the place of a bit in its word
split : (i k : ℕ) → i / 64 ≡ k → k * 64 + i % 64 ≡ i
split i k e = omega (arith, e)

-- one word is changed
module _ (words : List ℕ) (k v : ℕ) (within : k < length words) where
  pub changed_here : (i : ℕ) → i / 64 ≡ k → is_set (set words k v) i ≡ nat_eq (bit_at v (i % 64)) 1
  changed_here i e = ap (λ j. nat_eq (bit_at (get_or (set words k v) j 0) (i % 64)) 1) e ∙ ap (λ w. nat_eq (bit_at w (i % 64)) 1) (get_or-set_same words k v 0 within)

  pub changed_there : (i : ℕ) → i / 64 ≢ k → is_set (set words k v) i ≡ is_set words i
  changed_there i e = ap (λ w. nat_eq (bit_at w (i % 64)) 1) (get_or-set_other words k (i / 64) v 0 e)

-- one bit is changed
module _ (words : List ℕ) (place v : ℕ) (within : place / 64 < length words) where
  pub bit_changed : (others : (j : ℕ) → j < 64 → j ≢ place % 64 → bit_at v j ≡ bit_at (get_or words (place / 64) 0) j)
      → (i : ℕ) → i ≢ place → is_set (set words (place / 64) v) i ≡ is_set words i
  bit_changed others i apart = elim (cases_eq (i / 64) (place / 64)) [
    | inl e ↦
        changed_here words (place / 64) v within i e
        ∙ (ap (λ b. nat_eq b 1) (others (i % 64) (omega arith) (λ same. apart (sym (split i (place / 64) e) ∙ (ap (λ j. place / 64 * 64 + j) same ∙ split place (place / 64) refl))))
        ∙ ap (λ j. nat_eq (bit_at (get_or words j 0) (i % 64)) 1) (sym e))
    | inr e ↦ changed_there words (place / 64) v within i e
  ]

  pub bit_is : is_set (set words (place / 64) v) place ≡ nat_eq (bit_at v (place % 64)) 1
  bit_is = changed_here words (place / 64) v within place refl

module _ (words : List ℕ) (place : ℕ) (within : place / 64 < length words) where
  small : place % 64 < 64
  small = omega arith

  pub put_own : is_set (set words (place / 64) (bit_or (get_or words (place / 64) 0) (1 * 2 ^ (place % 64) % 2 ^ 64))) place ≡ true
  put_own = bit_is words place _ within ∙ ap (λ b. nat_eq b 1) (bit_at_set_same w64 (get_or words (place / 64) 0) (place % 64) small)

  pub put_others : (i : ℕ) → i ≢ place → is_set (set words (place / 64) (bit_or (get_or words (place / 64) 0) (1 * 2 ^ (place % 64) % 2 ^ 64))) i ≡ is_set words i
  put_others i apart = bit_changed words place _ within (λ j low other. bit_at_set_other w64 (get_or words (place / 64) 0) (place % 64) small j other) i apart

  pub clear_own : is_set (set words (place / 64) (bit_and (get_or words (place / 64) 0) (bit_not w64 (1 * 2 ^ (place % 64) % 2 ^ 64)))) place ≡ false
  clear_own = bit_is words place _ within ∙ ap (λ b. nat_eq b 1) (bit_at_clear_same w64 (get_or words (place / 64) 0) (place % 64) small)

  pub clear_others : (i : ℕ) → i ≢ place → is_set (set words (place / 64) (bit_and (get_or words (place / 64) 0) (bit_not w64 (1 * 2 ^ (place % 64) % 2 ^ 64)))) i ≡ is_set words i
  clear_others i apart = bit_changed words place _ within (λ j low other. bit_at_clear_other w64 (get_or words (place / 64) 0) (place % 64) small j low other) i apart

-- words that have the bits of either, or of one and not of the other
module _ (a b all : List ℕ) (place : ℕ) where
  abbrev bit_in : List ℕ → ℕ
  bit_in words = bit_at (get_or words (place / 64) 0) (place % 64)

  pub is_set-either : get_or all (place / 64) 0 ≡ bit_or (get_or a (place / 64) 0) (get_or b (place / 64) 0) → is_set all place ≡ (is_set a place || is_set b place)
  is_set-either each = ap (λ w. nat_eq (bit_at w (place % 64)) 1) each ∙ (ap (λ x. nat_eq x 1) (bit_at_or _ _ (place % 64)) ∙ larger (bit_in a) (bit_in b) (bit_at-lt _ _) (bit_at-lt _ _))
    where
      larger : (x y : ℕ) → x < 2 → y < 2 → nat_eq (max x y) 1 ≡ (nat_eq x 1 || nat_eq y 1)
      larger x y f g = grind (arith, nat_tests)

  pub is_set-without : get_or all (place / 64) 0 ≡ bit_xor (get_or a (place / 64) 0) (bit_and (get_or a (place / 64) 0) (get_or b (place / 64) 0)) → is_set all place ≡ (is_set a place && not (is_set b place))
  is_set-without each =
      ap (λ w. nat_eq (bit_at w (place % 64)) 1) each
      ∙ (ap (λ x. nat_eq x 1) (bit_at_xor _ _ (place % 64) ∙ ap (λ x. (bit_in a + x) % 2) (bit_at_and _ _ (place % 64)))
      ∙ by_bits (bit_in a) (bit_in b) (bit_at-lt _ _) (bit_at-lt _ _))
    where
      by_bits : (x y : ℕ) → x < 2 → y < 2 → nat_eq ((x + min x y) % 2) 1 ≡ (nat_eq x 1 && not (nat_eq y 1))
      by_bits zero zero f g = refl
      by_bits zero (suc zero) f g = refl
      by_bits (suc zero) zero f g = refl
      by_bits (suc zero) (suc zero) f g = refl
      by_bits (suc (suc x)) y f g = absurd (omega (arith, f))
      by_bits x (suc (suc y)) f g = absurd (omega (arith, g))

-- a word below a bit
pub low_bit : (word most i : ℕ) → bit_at (bit_and word (2 ^ most - 1)) i ≡ cond (nat_lt i most) (bit_at word i) 0
low_bit word most i = grind (bit_at_and word (2 ^ most - 1) i, bit_at_ones most i, bit_at_ones_above most i, bit_at-lt word i, arith, nat_tests)

-- where a word is 0, none of its bits is set
pub none_set : (words : List ℕ) (place : ℕ) → get_or words (place / 64) 0 ≡ 0 → is_set words place ≡ false
none_set words place e = ap (λ w. nat_eq (bit_at w (place % 64)) 1) e ∙ ap (λ b. nat_eq b 1) (bit_at-zero (place % 64))

-- the lowest bit of the first word that isn't 0
module _ (words : List ℕ) (k : ℕ) (some : 0 < get_or words k 0) (fits : get_or words k 0 < 2 ^ 64) (before : (j : ℕ) → j < k → get_or words j 0 ≡ 0) where
  abbrev lowest : ℕ
  lowest = trailing_zeros w64 (get_or words k 0)

  found : (lowest < 64) × (bit_at (get_or words k 0) lowest ≡ 1) × ((i : ℕ) → i < lowest → bit_at (get_or words k 0) i ≡ 0)
  found = bit_at-trailing_zeros w64 (get_or words k 0) some fits

  pub lowest_place : lowest < 64
  lowest_place = found.0

  pub lowest_set : is_set words (k * 64 + lowest) ≡ true
  lowest_set =
      let h : lowest < 64 = found.0 in
      let word : (k * 64 + lowest) / 64 ≡ k = omega arith in
      let bit : (k * 64 + lowest) % 64 ≡ lowest = omega arith in
      (λ i. nat_eq (bit_at (get_or words (word i) 0) (bit i)) 1) ∙ ap (λ b. nat_eq b 1) found.1

  pub none_below : (i : ℕ) → i < k * 64 + lowest → is_set words i ≡ false
  none_below i below = elim (cases_lt (i / 64) k) [
    | inl less ↦ none_set words i (before (i / 64) less)
    | inr more ↦
        let here : i / 64 ≡ k = in_word i k lowest below found.0 more in
        let low : i % 64 < lowest = below_lowest i k lowest below here in
        ap (λ j. nat_eq (bit_at (get_or words j 0) (i % 64)) 1) here ∙ ap (λ b. nat_eq b 1) (found.2 (i % 64) low)
  ]
    where
      in_word : (i k l : ℕ) → i < k * 64 + l → l < 64 → k ≤ i / 64 → i / 64 ≡ k
      in_word i k l f g h = omega (arith, f, g, h)

      below_lowest : (i k l : ℕ) → i < k * 64 + l → i / 64 ≡ k → i % 64 < l
      below_lowest i k l f e = omega (arith, f, e)

-- how many bits of a word are set below a place
ones-more : (bits n : ℕ) → count_ones (bits % 2 ^ suc n) ≡ count_ones (bit_at bits n) + count_ones (bits % 2 ^ n)
ones-more bits n =
    ap (λ k. count_ones (bits % 2 ^ k)) (next n) ∙ (ap count_ones (mod-pow-add bits 1 n) ∙ ones_cat n (bit_at bits n) (bits % 2 ^ n) (mod_below bits (2 ^ n) (pow_pos n)))
  where
    next : (n : ℕ) → suc n ≡ 1 + n
    next n = omega arith

-- how many members word k brings
module _ (words : List ℕ) (k : ℕ) where
  abbrev here : ℕ
  here = get_or words k 0

  own : (m j : ℕ) → m ≡ k * 64 + j → j < 64 → is_set words m ≡ nat_eq (bit_at here j) 1
  own m j e low =
      let word : m / 64 ≡ k = omega (arith, e, low) in
      let bit : m % 64 ≡ j = omega (arith, e, low) in
      λ i. nat_eq (bit_at (get_or words (word i) 0) (bit i)) 1

  bit_count : (b : ℕ) → b < 2 → count_ones b ≡ cond (nat_eq b 1) 1 0
  unfolding ones
  bit_count zero small = refl
  bit_count (suc zero) small = refl
  bit_count (suc (suc b)) small = absurd (omega (arith, small))

  -- one more bit
  len-next : (j m : ℕ) → m ≡ k * 64 + j → j < 64 → finite.len (members m (is_set words)) ≡ finite.len (members (k * 64) (is_set words)) + count_ones (here % 2 ^ j)
      → finite.len (members (suc m) (is_set words)) ≡ finite.len (members (k * 64) (is_set words)) + count_ones (here % 2 ^ suc j)
  len-next j m at low before =
      let bit : cond (is_set words m) 1 0 ≡ count_ones (bit_at here j) = ap (λ b. cond b 1 0) (own m j at low) ∙ sym (bit_count (bit_at here j) (bit_at-lt here j)) in
      omega (arith, before, bit, len-more (is_set words) m, ones-more here j)

  pub len-below : (j m : ℕ) → m ≡ k * 64 + j → j ≤ 64 → finite.len (members m (is_set words)) ≡ finite.len (members (k * 64) (is_set words)) + count_ones (here % 2 ^ j)
  unfolding ones
  len-below zero m e high = ap (λ n. finite.len (members n (is_set words))) (none m e) ∙ sym (ap (λ c. finite.len (members (k * 64) (is_set words)) + count_ones c) (mod-one here) ∙ nothing_more _)
    where
      none : (m : ℕ) → m ≡ k * 64 + 0 → m ≡ k * 64
      none m e = omega (arith, e)

      nothing_more : (x : ℕ) → x + 0 ≡ x
      nothing_more x = omega arith
  len-below (suc j) zero e high = absurd (omega (arith, e))
  len-below (suc j) (suc m) e high =
      let at : m ≡ k * 64 + j = omega (arith, e) in
      len-next j m at (omega (arith, high)) (len-below j m at (omega (arith, high)))

  pub len-word : here < 2 ^ 64 → finite.len (members ((k + 1) * 64) (is_set words)) ≡ finite.len (members (k * 64) (is_set words)) + count_ones here
  len-word fits = len-below 64 ((k + 1) * 64) (omega arith) (omega arith) ∙ ap (λ w. finite.len (members (k * 64) (is_set words)) + count_ones w) (mod-eq_of_lt fits)

pub len-none : (words : List ℕ) → finite.len (members 0 (is_set words)) ≡ 0
unfolding members
len-none words = finite.len-empty nat_cmp
