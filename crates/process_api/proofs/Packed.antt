-- Keys whose tick, receiver and sender are packed into one number.
use Rattle.process_api.proofs.Basics.{◌≡◌, ◌≢◌, ℕ, ◌+◌, ◌*◌, ◌<◌, refl, sym, ap, ◌∙◌, Ordering, Less, Equal, Greater, arith, nat_cmp, nat_lt, ordering_then, ranked, key_cmp, is_less, is_before, Key}

-- tick, receiver and sender, as one number
abbrev pub packed : Key → ℕ
packed k = (k.tick * 65536 + k.receiver) * 65536 + k.sender

is_lesser : (a b : ℕ) → a < b → (r : Ordering) → r ≡ nat_cmp a b → r ≡ Less
is_lesser a b h Less e = refl
is_lesser a b h Equal e = let is : a ≡ b = ranked a b Equal e in absurd (omega arith)
is_lesser a b h Greater e = let is : b < a = ranked a b Greater e in absurd (omega arith)

is_greater : (a b : ℕ) → b < a → (r : Ordering) → r ≡ nat_cmp a b → r ≡ Greater
is_greater a b h Less e = let is : a < b = ranked a b Less e in absurd (omega arith)
is_greater a b h Equal e = let is : a ≡ b = ranked a b Equal e in absurd (omega arith)
is_greater a b h Greater e = refl

-- of two digits the first decides, and else the second
digits : (a b x y : ℕ) → x < 65536 → y < 65536
    → ordering_then (nat_cmp a b) (nat_cmp x y) ≡ nat_cmp (a * 65536 + x) (b * 65536 + y)
digits a b x y small least = first (nat_cmp a b) refl
  where
    second : (r : Ordering) → r ≡ nat_cmp x y → a ≡ b → r ≡ nat_cmp (a * 65536 + x) (b * 65536 + y)
    second Less e same = let is : x < y = ranked x y Less e in sym (is_lesser (a * 65536 + x) (b * 65536 + y) (omega arith) _ refl)
    second Equal e same =
        let is : x ≡ y = ranked x y Equal e in
        let one : a * 65536 + x ≡ b * 65536 + y = omega arith in
        sym (ap (λ n. nat_cmp n (b * 65536 + y)) one ∙ equal (b * 65536 + y) _ refl)
      where
        equal : (n : ℕ) → (r : Ordering) → r ≡ nat_cmp n n → r ≡ Equal
        equal n Less e = let is : n < n = ranked n n Less e in absurd (omega arith)
        equal n Equal e = refl
        equal n Greater e = let is : n < n = ranked n n Greater e in absurd (omega arith)
    second Greater e same = let is : y < x = ranked x y Greater e in sym (is_greater (a * 65536 + x) (b * 65536 + y) (omega arith) _ refl)

    first : (r : Ordering) → r ≡ nat_cmp a b → ordering_then r (nat_cmp x y) ≡ nat_cmp (a * 65536 + x) (b * 65536 + y)
    first Less e = let is : a < b = ranked a b Less e in sym (is_lesser (a * 65536 + x) (b * 65536 + y) (omega arith) _ refl)
    first Equal e = second _ refl (ranked a b Equal e)
    first Greater e = let is : b < a = ranked a b Greater e in sym (is_greater (a * 65536 + x) (b * 65536 + y) (omega arith) _ refl)

then_then : (r s t : Ordering) → ordering_then r (ordering_then s t) ≡ ordering_then (ordering_then r s) t
then_then Less s t = refl
then_then Equal s t = refl
then_then Greater s t = refl

-- keys are compared by that number first, and then by their own
by_packed : (a b : Key) → a.receiver < 65536 → b.receiver < 65536 → a.sender < 65536 → b.sender < 65536
    → key_cmp a b ≡ ordering_then (nat_cmp (packed a) (packed b)) (nat_cmp a.number b.number)
by_packed a b ra rb sa sb =
    let n = nat_cmp a.number b.number in
    then_then (nat_cmp a.tick b.tick) (nat_cmp a.receiver b.receiver) (ordering_then (nat_cmp a.sender b.sender) n)
    ∙ ap (λ o. ordering_then o (ordering_then (nat_cmp a.sender b.sender) n)) (digits a.tick b.tick a.receiver b.receiver ra rb)
    ∙ then_then _ (nat_cmp a.sender b.sender) n
    ∙ ap (λ o. ordering_then o n) (digits (a.tick * 65536 + a.receiver) (b.tick * 65536 + b.receiver) a.sender b.sender sa sb)

is_less_then : (a b : ℕ) → (r s : Ordering) → r ≡ nat_cmp a b → a ≢ b → is_less (ordering_then r s) ≡ nat_lt a b
is_less_then a b Less s e apart = let is : a < b = ranked a b Less e in sym (grind arith)
is_less_then a b Equal s e apart = absurd (apart (ranked a b Equal e))
is_less_then a b Greater s e apart = let is : b < a = ranked a b Greater e in sym (grind arith)

is_less_last : (a b x y : ℕ) → (r s : Ordering) → r ≡ nat_cmp a b → s ≡ nat_cmp x y → a ≡ b
    → is_less (ordering_then r s) ≡ nat_lt x y
is_less_last a b x y Less s e f same = let is : a < b = ranked a b Less e in absurd (omega arith)
is_less_last a b x y Equal Less e f same = let is : x < y = ranked x y Less f in sym (grind arith)
is_less_last a b x y Equal Equal e f same = let is : x ≡ y = ranked x y Equal f in sym (grind arith)
is_less_last a b x y Equal Greater e f same = let is : y < x = ranked x y Greater f in sym (grind arith)
is_less_last a b x y Greater s e f same = let is : b < a = ranked a b Greater e in absurd (omega arith)

module _ (a b : Key) (ra : a.receiver < 65536) (rb : b.receiver < 65536) (sa : a.sender < 65536) (sb : b.sender < 65536) where
  pub before_packed : packed a ≢ packed b → is_before a b ≡ nat_lt (packed a) (packed b)
  before_packed apart = ap is_less (by_packed a b ra rb sa sb)
      ∙ is_less_then (packed a) (packed b) _ _ refl apart

  pub before_numbered : packed a ≡ packed b → is_before a b ≡ nat_lt a.number b.number
  before_numbered same = ap is_less (by_packed a b ra rb sa sb)
      ∙ is_less_last (packed a) (packed b) a.number b.number _ _ refl refl same
