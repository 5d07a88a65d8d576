-- Outages by rising begins, each lengthened to the end of any that begins before it.
use Rattle.std.proofs.Common.{◌≡◌, ◌∙◌, refl, sym, ap, rules, Bool, true, false, true≢false, ◌&&◌, ◌||◌, ℕ, ◌+◌, ◌-◌, ◌<◌, ◌≤◌, nat_le, nat_lt, max, List, [], ◌∷◌, ◌++◌, length, map, take, get_or, leb, ltb, leb-true, lt_of_lt_of_le, subst, arith}
use Rattle.std.proofs.Math.{ListN.{get_or-map}, Nat.{le-max_left, le-max_right, max-le}}
use Rattle.std.proofs.lemmas.Bool.{leb-false, ltb-false, ltb-true, lt-ltb, le-ltb, le-leb}
use Rattle.std.proofs.lemmas.List.{map-append, take_more, take_all, length-map, length-take-le, get_or_default, get_or-take, get_or_push, Folds.{list_any_at, list_any_none, list_any_more, list_any-append}, Sorted.{IsNonDecreasingBy-push, list_any-IsPermutation}}
use Rattle.std.specs.List.{list_any, All, Sorted.{IsNonDecreasingBy, IsPartitionPoint, IsPermutation}}
use Rattle.scenario_record.specs.{Record.{covers}, Inside.Stretches.{AreStretchesOf}, declared.outage.Outage.{Outage}}

abbrev pub begin_of : Outage → ℕ
begin_of o = o.begin

abbrev pub until_of : Outage → ℕ
until_of o = o.until

-- ---- which ticks one of them covers

not_begun : (t : ℕ) (o : Outage) → nat_le o.begin t ≡ false → covers t o ≡ false
not_begun t o e = ap (λ b. b && nat_lt t o.until) e

has_ended : (t : ℕ) (o : Outage) → nat_lt t o.until ≡ false → covers t o ≡ false
has_ended t o e = by (nat_le o.begin t)
  where
    by : (b : Bool) → (b && nat_lt t o.until) ≡ false
    by true = e
    by false = refl

-- ---- the search

module _ (outages stretches : List Outage) (are : AreStretchesOf outages stretches) (t begun : ℕ) (some : begun ≤ length stretches) (point : IsPartitionPoint (λ o. nat_le o.begin t ≡ true) (λ o. nat_le o.begin t ≡ false) stretches begun) where
  -- none has begun
  pub none_begun : begun ≡ 0 → false ≡ list_any (covers t) outages
  none_begun none =
      sym (list_any_none (covers t) stretches (λ k d low. not_begun t (get_or stretches k d) (point.1 k d (omega (arith, none)) low))) ∙ are.same t

  -- the last that has begun lasts longest
  pub last_begun : (last : Outage) → 0 < begun → last ≡ get_or stretches (begun - 1) last → nat_lt t last.until ≡ list_any (covers t) outages
  last_begun last more at = by (nat_lt t last.until) refl ∙ are.same t
    where
      started : covers t last ≡ nat_lt t last.until
      started = ap (λ b. b && nat_lt t last.until) (ap (λ o. nat_le o.begin t) at ∙ point.0 (begun - 1) last (omega arith) (omega (arith, more)))

      ended : nat_lt t last.until ≡ false → (k : ℕ) (d : Outage) → k < length stretches → (b : Bool) → nat_lt k begun ≡ b → covers t (get_or stretches k d) ≡ false
      ended e k d low true before =
          let up : (get_or stretches k d).until ≤ (get_or stretches (begun - 1) d).until = are.ends k (begun - 1) d (let b = ltb-true k begun before in omega (arith, b)) (omega (arith, some, more)) in
          let over = ltb-false t last.until e in
          has_ended t (get_or stretches k d) (le-ltb t (get_or stretches k d).until (omega (arith, up, over, at_any d)))
        where
          at_any : (d : Outage) → (get_or stretches (begun - 1) d).until ≡ last.until
          at_any d = ap until_of (get_or_default stretches (begun - 1) d last (omega (arith, some, more)) ∙ sym at)
      ended e k d low false after = not_begun t (get_or stretches k d) (point.1 k d (ltb-false k begun after) low)

      by : (b : Bool) → nat_lt t last.until ≡ b → nat_lt t last.until ≡ list_any (covers t) stretches
      by true e = e ∙ sym (list_any_at (covers t) stretches (begun - 1) last (omega (arith, some, more)) (sym (ap (covers t) at) ∙ (started ∙ e)))
      by false e = e ∙ sym (list_any_none (covers t) stretches (λ k d low. ended e k d low (nat_lt k begun) refl))

-- ---- the making

-- the stretches of the first i outages; the last lasts longest
pub record AreLengthened (sorted stretches : List Outage) (i greatest : ℕ) : Type 0 where
  pub begins : map begin_of stretches ≡ map begin_of (take i sorted)
  pub ends : IsNonDecreasingBy until_of stretches
  pub none : i ≡ 0 → greatest ≡ 0
  pub last : (d : Outage) → 0 < i → (get_or stretches (i - 1) d).until ≡ greatest
  pub same : (tick : ℕ) → list_any (covers tick) stretches ≡ list_any (covers tick) (take i sorted)

pub none_lengthened : (sorted : List Outage) → AreLengthened sorted [] 0 0
none_lengthened sorted = record {
  begins = refl;
  ends = λ i j d up low. absurd (omega (arith, low));
  none = λ _. refl;
  last = λ d low. absurd (omega (arith, low));
  same = λ tick. refl;
}

-- lists that begin alike
module _ (xs ys : List Outage) (alike : map begin_of xs ≡ map begin_of ys) where
  pub as_long : length xs ≡ length ys
  as_long = sym (length-map xs begin_of) ∙ (ap length alike ∙ length-map ys begin_of)

  pub begins_at : (k : ℕ) (d : Outage) → (get_or xs k d).begin ≡ (get_or ys k d).begin
  begins_at k d = sym (get_or-map begin_of xs k d) ∙ (ap (λ bs. get_or bs k d.begin) alike ∙ get_or-map begin_of ys k d)

  pub begins_rise : IsNonDecreasingBy begin_of ys → IsNonDecreasingBy begin_of xs
  begins_rise up i j d low high = omega (arith, begins_at i d, begins_at j d, up i j d low (omega (arith, high, as_long)))

module _ (sorted stretches : List Outage) (i greatest : ℕ) (up : IsNonDecreasingBy begin_of sorted) (are : AreLengthened sorted stretches i greatest) (o : Outage) (low : i < length sorted) (at : o ≡ get_or sorted i o) where
  abbrev lengthened : Outage
  lengthened = record { begin = o.begin; until = max o.until greatest }

  long : length stretches ≡ i
  long = as_long stretches (take i sorted) are.begins ∙ length-take-le i sorted (omega (arith, low))

  taken : take (i + 1) sorted ≡ take i sorted ++ o ∷ []
  taken = take_more sorted i o low ∙ ap (λ x. take i sorted ++ x ∷ []) (sym at)

  -- the last stretch begins no later
  before : 0 < i → (get_or stretches (i - 1) o).begin ≤ o.begin
  before some =
      let same = begins_at stretches (take i sorted) are.begins (i - 1) o in
      let kept = ap begin_of (get_or-take i sorted (i - 1) o (omega (arith, some))) in
      let rises = up (i - 1) i o (omega arith) low in
      omega (arith, same, kept, rises, ap begin_of at)

  last_covers : (t : ℕ) → o.begin ≤ t → 0 < i → t < greatest → covers t (get_or stretches (i - 1) o) ≡ true
  last_covers t begun some under =
      let last = get_or stretches (i - 1) o in
      ap (λ b. b && nat_lt t last.until) (le-leb last.begin t (omega (arith, before some, begun)))
      ∙ lt-ltb t last.until (omega (arith, are.last o some, under))

  -- where no stretch covers a tick from then on, all of them have ended
  all_ended : (t : ℕ) → list_any (covers t) stretches ≡ false → o.begin ≤ t → (started longer : Bool) → nat_lt 0 i ≡ started → nat_lt t greatest ≡ longer → greatest ≤ t
  all_ended t none begun started false s e = ltb-false t greatest e
  all_ended t none begun false true s e = let zero = are.none (omega (arith, ltb-false 0 i s)) in omega (arith, zero)
  all_ended t none begun true true s e =
      let some = ltb-true 0 i s in
      absurd (true≢false (sym (list_any_at (covers t) stretches (i - 1) o (omega (arith, long, some)) (last_covers t begun some (ltb-true t greatest e))) ∙ none))

  lasts : (t : ℕ) → list_any (covers t) stretches ≡ false → o.begin ≤ t → (b : Bool) → nat_lt t o.until ≡ b → nat_lt t (max o.until greatest) ≡ nat_lt t o.until
  lasts t none begun true e = lt-ltb t (max o.until greatest) (lt_of_lt_of_le (ltb-true t o.until e) (le-max_left o.until greatest)) ∙ sym e
  lasts t none begun false e =
      le-ltb t (max o.until greatest) (max-le (ltb-false t o.until e) (all_ended t none begun (nat_lt 0 i) (nat_lt t greatest) refl refl)) ∙ sym e

  -- there the lengthened outage covers what the outage does
  alike : (t : ℕ) → list_any (covers t) stretches ≡ false → (b : Bool) → nat_le o.begin t ≡ b → covers t lengthened ≡ covers t o
  alike t none true e = ap (λ b. nat_le o.begin t && b) (lasts t none (leb-true o.begin t e) (nat_lt t o.until) refl)
  alike t none false e = not_begun t lengthened e ∙ sym (not_begun t o e)

  one_more : (t : ℕ) (b : Bool) → list_any (covers t) stretches ≡ b → (b || (covers t lengthened || false)) ≡ (b || (covers t o || false))
  one_more t true e = refl
  one_more t false e = ap (λ c. c || false) (alike t e (nat_le o.begin t) refl)

  last_ends : (d : Outage) → 0 < length stretches → (get_or stretches (length stretches - 1) d).until ≤ max o.until greatest
  last_ends d =
      subst (λ n. 0 < n → (get_or stretches (n - 1) d).until ≤ max o.until greatest) (sym long)
      (λ some. omega (arith, are.last d some, le-max_right o.until greatest))

  pub one_lengthened : (longest : ℕ) → longest ≡ max o.until greatest → AreLengthened sorted (stretches ++ record { begin = o.begin; until = longest } ∷ []) (i + 1) longest
  one_lengthened longest is = rw is (record {
    begins = map-append begin_of stretches (lengthened ∷ []) ∙ (ap (λ bs. bs ++ o.begin ∷ []) are.begins
        ∙ (sym (map-append begin_of (take i sorted) (o ∷ [])) ∙ ap (map begin_of) (sym taken)));
    ends = IsNonDecreasingBy-push until_of stretches lengthened are.ends last_ends;
    none = λ zero. absurd (omega (arith, zero));
    last = λ d some. ap until_of (get_or_push stretches lengthened d (i + 1 - 1) (omega (arith, long)));
    same = λ t. list_any-append (covers t) stretches (lengthened ∷ []) ∙ (one_more t (list_any (covers t) stretches) refl
        ∙ (ap (λ b. b || (covers t o || false)) (are.same t)
        ∙ sym (ap (list_any (covers t)) taken ∙ list_any-append (covers t) (take i sorted) (o ∷ []))));
  })

pub all_lengthened : (sorted stretches : List Outage) (i greatest : ℕ) → IsNonDecreasingBy begin_of sorted → AreLengthened sorted stretches i greatest → length sorted ≤ i → AreStretchesOf sorted stretches
all_lengthened sorted stretches i greatest up are over =
    let all : take i sorted ≡ sorted = take_all i sorted over in
    record {
      begins = begins_rise stretches sorted (are.begins ∙ ap (map begin_of) all) up;
      ends = are.ends;
      same = λ tick. are.same tick ∙ ap (list_any (covers tick)) all;
    }

-- the same outages in another order have the same stretches
pub moved : (outages sorted stretches : List Outage) → IsPermutation outages sorted → AreStretchesOf sorted stretches → AreStretchesOf outages stretches
moved outages sorted stretches same are = record {
  begins = are.begins;
  ends = are.ends;
  same = λ tick. are.same tick ∙ sym (list_any-IsPermutation (covers tick) outages sorted same);
}
