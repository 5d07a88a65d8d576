-- The episodes of a source, one after the other.
use Rattle.network.proofs.Basics.{◌≡◌, ℕ, zero, suc, ◌+◌, ◌-◌, ◌<◌, ◌≤◌, Bool, true, false, cond, refl, ap, sym, ◌∙◌, List, [], ◌∷◌, ◌++◌, map, length, min, nat_lt, add-one, add-zero, zero-add, append-nil, append_assoc, length-append, arith, range_with_len, take_while, flat_map-append, map-append, map-range_with_len_more, Outage, Words, after, ticks_of, words_taken, first_ticks_of, first_words_taken, on_each, outage_on, Ends, LinkOutage, Rhythm}
use borrow.Author.Count.{below_more}
use Rattle.std.proofs.lemmas.{Bool.Decides.{nat_tests}, List.Sums.{take_while-cons}}
use Rattle.network.specs.Drawn.{Coming, coming, cut_at, episodes, first, next}

-- of a list by numbers, a front that passes stays
passing : {X : Type 0} (p : X → Bool) (f : ℕ → X) (a m r : ℕ) → ((j : ℕ) → j < m → p (f (a + j)) ≡ true)
    → take_while p (map f (range_with_len a (m + r)))
    ≡ map f (range_with_len a m) ++ take_while p (map f (range_with_len (a + m) r))
passing p f a zero r passes = λ i. take_while p (map f (range_with_len (sym (add-zero a) i) (zero-add r i)))
passing p f a (suc m) r passes =
    let here : p (f a) ≡ true = ap (λ k. p (f k)) (sym (add-zero a)) ∙ passes 0 (omega arith) in
    let moved : (j : ℕ) → a + 1 + j ≡ a + suc j = λ j. omega arith in
    let later = passing p f (a + 1) m r (λ j low. ap (λ k. p (f k)) (moved j) ∙ passes (suc j) (omega (arith, low))) in
    let longer : suc m + r ≡ suc (m + r) = omega arith in
    ap (λ n. take_while p (map f (range_with_len a n))) longer
    ∙ (take_while-cons p (f a) (map f (range_with_len (a + 1) (m + r)))
    ∙ (ap (λ b. cond b (f a ∷ take_while p (map f (range_with_len (a + 1) (m + r)))) []) here
    ∙ (ap (λ xs. f a ∷ xs) later
    ∙ ap (λ k. f a ∷ (map f (range_with_len (a + 1) m) ++ take_while p (map f (range_with_len k r)))) (moved m))))

-- and nothing stays from the first on that fails
stopped : {X : Type 0} (p : X → Bool) (f : ℕ → X) (a r : ℕ) → p (f a) ≡ false
    → take_while p (map f (range_with_len a r)) ≡ []
stopped p f a zero fails = refl
stopped p f a (suc r) fails =
    take_while-cons p (f a) (map f (range_with_len (a + 1) r))
    ∙ ap (λ b. cond b (f a ∷ take_while p (map f (range_with_len (a + 1) r))) []) fails

is_below : (m n : ℕ) → m < n → nat_lt m n ≡ true
is_below m n low = grind (arith, nat_tests)

is_not_below : (m n : ℕ) → n ≤ m → nat_lt m n ≡ false
is_not_below m n high = grind (arith, nat_tests)

-- what of the first so many episodes is below the horizon
abbrev pub seen : Rhythm → Words → (horizon : ℕ) → ℕ → List Outage
seen its words horizon m = map (cut_at its horizon) (map (coming its words) (range_with_len 0 m))

-- so many episodes began below the horizon, and where the next one begins
pub record IsAt (its : Rhythm) (words : Words) (horizon m begin : ℕ) (rest : Words) : Type 0 where
  pub begins : begin ≡ (coming its words m).begin
  pub follows : rest ≡ (coming its words m).words
  pub many : m ≤ begin
  pub within : m ≤ horizon
  pub each : (j : ℕ) → j < m → (coming its words j).begin < horizon

at_first : (its : Rhythm) (words : Words) → coming its words 0 ≡ first its words
unfolding coming
at_first its words = refl

coming-more : (its : Rhythm) (words : Words) (m : ℕ) → coming its words (m + 1) ≡ next its (coming its words m)
unfolding coming
coming-more its words m = ap (coming its words) (add-one m)

-- before any
pub starts : (its : Rhythm) (words rest : Words) (horizon begin : ℕ)
    → begin ≡ first_ticks_of its.gap words → rest ≡ after (first_words_taken its.gap) words
    → IsAt its words horizon 0 begin rest
starts its words rest horizon begin is follows = record {
  begins = is ∙ ap (λ (e : Coming). e.begin) (sym (at_first its words));
  follows = follows ∙ ap (λ (e : Coming). e.words) (sym (at_first its words));
  many = omega arith;
  within = omega arith;
  each = λ j low. absurd (omega (arith, low));
}

-- one more
pub goes_on : (its : Rhythm) (words rest later rest' : Words) (horizon m begin lasts gap : ℕ)
    → IsAt its words horizon m begin rest → begin < horizon
    → lasts ≡ ticks_of its.length rest → later ≡ after (words_taken its.length) rest
    → gap ≡ ticks_of its.gap later → rest' ≡ after (words_taken its.gap) later → 1 ≤ lasts
    → IsAt its words horizon (m + 1) (begin + lasts + gap) rest'
goes_on its words rest later rest' horizon m begin lasts gap at below lasts_is later_is gap_is rest_is some =
    let e : Coming = coming its words m in
    let later_of : later ≡ after (words_taken its.length) e.words = later_is ∙ ap (after (words_taken its.length)) at.follows in
    let lasts_of : lasts ≡ ticks_of its.length e.words = lasts_is ∙ ap (ticks_of its.length) at.follows in
    let gap_of : gap ≡ ticks_of its.gap (after (words_taken its.length) e.words) = gap_is ∙ ap (ticks_of its.gap) later_of in
    let begins : begin + lasts + gap ≡ (next its e).begin = λ i. at.begins i + lasts_of i + gap_of i in
    record {
      begins = begins ∙ ap (λ (e : Coming). e.begin) (sym (coming-more its words m));
      follows = rest_is ∙ (ap (after (words_taken its.gap)) later_of ∙ ap (λ (e : Coming). e.words) (sym (coming-more its words m)));
      many = omega arith;
      within = omega arith;
      each = below_more (λ j. (coming its words j).begin < horizon) m at.each (let same = at.begins in omega arith);
    }

seen-more : (its : Rhythm) (words : Words) (horizon m : ℕ)
    → seen its words horizon (m + 1) ≡ seen its words horizon m ++ cut_at its horizon (coming its words m) ∷ []
seen-more its words horizon m =
    ap (map (cut_at its horizon)) (map-range_with_len_more (coming its words) 0 m m (zero-add m))
    ∙ map-append (cut_at its horizon) (map (coming its words) (range_with_len 0 m)) (coming its words m ∷ [])

-- the outages of links that come with one more
pub adds_one : (its : Rhythm) (words rest : Words) (links : List Ends) (horizon m begin lasts : ℕ) (old now more : List LinkOutage)
    → IsAt its words horizon m begin rest → lasts ≡ ticks_of its.length rest
    → now ≡ old ++ on_each links (seen its words horizon m)
    → more ≡ now ++ map (outage_on (record { begin = begin; until = min (begin + lasts) horizon })) links
    → more ≡ old ++ on_each links (seen its words horizon (m + 1))
unfolding on_each
adds_one its words rest links horizon m begin lasts old now more at lasts_is before is =
    let e : Coming = coming its words m in
    let before_it : List Outage = seen its words horizon m in
    let lasts_of : lasts ≡ ticks_of its.length e.words = lasts_is ∙ ap (ticks_of its.length) at.follows in
    let outage : Outage = record { begin = begin; until = min (begin + lasts) horizon } in
    let same : outage ≡ cut_at its horizon e = λ i. record { begin = at.begins i; until = min (at.begins i + lasts_of i) horizon } in
    let joined : on_each links before_it ++ map (outage_on outage) links ≡ on_each links (before_it ++ outage ∷ []) =
    ap (λ ys. on_each links before_it ++ ys) (sym (append-nil (map (outage_on outage) links)))
    ∙ sym (flat_map-append (λ o. map (outage_on o) links) before_it (outage ∷ [])) in
    let all : on_each links (before_it ++ outage ∷ []) ≡ on_each links (seen its words horizon (m + 1)) =
    ap (λ o. on_each links (before_it ++ o ∷ [])) same ∙ ap (on_each links) (sym (seen-more its words horizon m)) in
    is ∙ (ap (λ ys. ys ++ map (outage_on outage) links) before
    ∙ (append_assoc old (on_each links before_it) (map (outage_on outage) links)
    ∙ ap (λ ys. old ++ ys) (joined ∙ all)))

-- those of a front that begin below the horizon, and what comes after them
parted : (its : Rhythm) (words : Words) (horizon m : ℕ) → m ≤ horizon
    → ((j : ℕ) → j < m → (coming its words j).begin < horizon)
    → episodes its words horizon ≡ seen its words horizon m
    ++ map (cut_at its horizon) (take_while (λ e. nat_lt e.begin horizon) (map (coming its words) (range_with_len m (horizon - m))))
unfolding episodes
parted its words horizon m within each =
    let test : Coming → Bool = λ e. nat_lt e.begin horizon in
    let f : ℕ → Coming = coming its words in
    let whole : horizon ≡ m + (horizon - m) = omega arith in
    let pass : (j : ℕ) → j < m → test (f (0 + j)) ≡ true =
    λ j low. ap (λ k. test (f k)) (zero-add j) ∙ is_below (f j).begin horizon (each j low) in
    ap (λ n. map (cut_at its horizon) (take_while test (map f (range_with_len 0 n)))) whole
    ∙ (ap (map (cut_at its horizon)) (passing test f 0 m (horizon - m) pass)
    ∙ (map-append (cut_at its horizon) (map f (range_with_len 0 m)) (take_while test (map f (range_with_len (0 + m) (horizon - m))))
    ∙ ap (λ k. seen its words horizon m ++ map (cut_at its horizon) (take_while test (map f (range_with_len k (horizon - m))))) (zero-add m)))

-- where the next one begins at the horizon or later, those so far are all
pub all_seen : (its : Rhythm) (words rest : Words) (horizon m begin : ℕ) → IsAt its words horizon m begin rest → horizon ≤ begin
    → episodes its words horizon ≡ seen its words horizon m
all_seen its words rest horizon m begin at over =
    let test : Coming → Bool = λ e. nat_lt e.begin horizon in
    let f : ℕ → Coming = coming its words in
    let fails : test (f m) ≡ false = is_not_below (f m).begin horizon (let same = at.begins in omega arith) in
    parted its words horizon m at.within at.each
    ∙ (ap (λ xs. seen its words horizon m ++ map (cut_at its horizon) xs) (stopped test f m (horizon - m) fails)
    ∙ append-nil (seen its words horizon m))

-- where those so far are too many, all are
pub too_many : (its : Rhythm) (words : Words) (links : List Ends) (horizon m most : ℕ) (old : List LinkOutage) → m ≤ horizon
    → ((j : ℕ) → j < m → (coming its words j).begin < horizon)
    → most < length (old ++ on_each links (seen its words horizon m))
    → most < length (old ++ on_each links (episodes its words horizon))
unfolding on_each
too_many its words links horizon m most old within each full =
    let rest : List Outage = map (cut_at its horizon)
    (take_while (λ e. nat_lt e.begin horizon) (map (coming its words) (range_with_len m (horizon - m)))) in
    let split : on_each links (episodes its words horizon) ≡ on_each links (seen its words horizon m) ++ on_each links rest =
    ap (on_each links) (parted its words horizon m within each)
    ∙ flat_map-append (λ o. map (outage_on o) links) (seen its words horizon m) rest in
    let counted : length (on_each links (episodes its words horizon)) ≡ length (on_each links (seen its words horizon m) ++ on_each links rest) = ap length split in
    omega (arith, counted, length-append old (on_each links (episodes its words horizon)), length-append old (on_each links (seen its words horizon m)), length-append (on_each links (seen its words horizon m)) (on_each links rest))

-- the same, where one more begins below the horizon
pub full_at : (its : Rhythm) (words rest : Words) (links : List Ends) (horizon m begin most : ℕ) (old : List LinkOutage)
    → IsAt its words horizon m begin rest → begin < horizon
    → most < length (old ++ on_each links (seen its words horizon (m + 1)))
    → most < length (old ++ on_each links (episodes its words horizon))
full_at its words rest links horizon m begin most old at below full =
    let many = at.many in
    let here : (coming its words m).begin < horizon = (let same = at.begins in omega arith) in
    too_many its words links horizon (m + 1) most old (omega arith)
    (below_more (λ j. (coming its words j).begin < horizon) m at.each here) full
