-- Outages that are added table by table, or source by source.
use Rattle.network.proofs.Basics.{◌≡◌, ℕ, ◌+◌, ◌<◌, ◌≤◌, Bool, true, false, cond, refl, ap, sym, ◌∙◌, List, [], ◌∷◌, ◌++◌, length, get_or, map, filter, take, append-nil, append_assoc, length-append, if◌then◌else◌, arith, flat_map, range_with_len, enumerate_from, flat_map-append, flat_map_more, take_more, map-append, take_all, filter_more, length-range_with_len, get_or-range_with_len, get_or-enumerate_from, length-flat_map-take, Outage, on_each, outage_on, Ends}

-- what one more adds, to what those before it added
pub adds_more : {X A : Type 0} (f : X → List A) (old now more : List A) (xs : List X) (i : ℕ) (x : X)
    → i < length xs → get_or xs i x ≡ x → now ≡ old ++ flat_map f (take i xs) → more ≡ now ++ f x
    → more ≡ old ++ flat_map f (take (i + 1) xs)
adds_more f old now more xs i x below at before is =
    let one_more : take (i + 1) xs ≡ take i xs ++ x ∷ [] = take_more xs i x below ∙ ap (λ y. take i xs ++ y ∷ []) at in
    is ∙ (ap (λ ys. ys ++ f x) before
    ∙ (flat_map_more f old (take i xs) x ∙ ap (λ ys. old ++ flat_map f ys) (sym one_more)))

-- where those up to one of them are too many, all are
pub full_more : {X A : Type 0} (f : X → List A) (most : ℕ) (old now : List A) (xs : List X) (i : ℕ) (x : X)
    → i < length xs → get_or xs i x ≡ x → now ≡ old ++ flat_map f (take i xs) → most < length (now ++ f x)
    → most < length (old ++ flat_map f xs)
full_more f most old now xs i x below at before full =
    let counted : length now ≡ length old + length (flat_map f (take i xs)) = ap length before ∙ length-append old (flat_map f (take i xs)) in
    let part : length (flat_map f (take i xs)) + length (f (get_or xs i x)) ≤ length (flat_map f xs) = length-flat_map-take f xs i x below in
    let same : length (f (get_or xs i x)) ≡ length (f x) = ap (λ y. length (f y)) at in
    omega (arith, length-append now (f x), length-append old (flat_map f xs))

-- the numbers from 1 on, and from 0 on, by their places
pub one_at : (n i x : ℕ) → i < n → x ≡ i + 1 → get_or (range_with_len 1 n) i x ≡ x
one_at n i x low is =
    let same : 1 + i ≡ x = omega (arith, is) in
    get_or-range_with_len 1 n i x low ∙ same

pub number_at : (n i : ℕ) → i < n → get_or (range_with_len 0 n) i i ≡ i
number_at n i low =
    let same : 0 + i ≡ i = omega arith in
    get_or-range_with_len 0 n i i low ∙ same

-- a table with its place among all
pub numbered_at : {X : Type 0} (xs : List X) (i : ℕ) (x : X) → i < length xs → get_or xs i x ≡ x
    → get_or (enumerate_from 0 xs) i (i, x) ≡ (i, x)
numbered_at xs i x low at =
    let same : 0 + i ≡ i = omega arith in
    get_or-enumerate_from 0 xs i (i, x) low ∙ (λ k. (same k, at k))

-- of the numbers from 1 on, one more, if it passes
pub kept_more : (p : ℕ → Bool) (n i q : ℕ) (b : Bool) → i < n → q ≡ i + 1 → b ≡ p q
    → filter p (take i (range_with_len 1 n)) ++ (if b then q ∷ [] else []) ≡ filter p (take (i + 1) (range_with_len 1 n))
kept_more p n i q b low is test =
    let front : List ℕ = filter p (take i (range_with_len 1 n)) in
    let here : b ≡ p (i + 1) = test ∙ ap p is in
    let moved : front ++ (if b then q ∷ [] else []) ≡ front ++ cond (p (i + 1)) ((i + 1) ∷ []) [] =
    λ j. front ++ cond (here j) (is j ∷ []) [] in
    let read : filter p (take (i + 1) (range_with_len 1 n)) ≡ front ++ cond (p (i + 1)) ((i + 1) ∷ []) [] =
    filter_more p (range_with_len 1 n) i (i + 1) (omega (arith, length-range_with_len 1 n))
    ∙ ap (λ k. front ++ cond (p k) (k ∷ []) []) (one_at n i (i + 1) low refl) in
    moved ∙ sym read

one_mapped : {X : Type 0} (f : ℕ → X) (b : Bool) (q : ℕ) → map f (if b then q ∷ [] else []) ≡ (if b then f q ∷ [] else [])
one_mapped f true q = refl
one_mapped f false q = refl

-- the same, of what each number is made into, after what was there
pub mapped_more : {X : Type 0} (f : ℕ → X) (p : ℕ → Bool) (old : List X) (n i q : ℕ) (b : Bool)
    → i < n → q ≡ i + 1 → b ≡ p q
    → (old ++ map f (filter p (take i (range_with_len 1 n)))) ++ (if b then f q ∷ [] else [])
    ≡ old ++ map f (filter p (take (i + 1) (range_with_len 1 n)))
mapped_more f p old n i q b low is test =
    let front : List ℕ = filter p (take i (range_with_len 1 n)) in
    append_assoc old (map f front) (if b then f q ∷ [] else [])
    ∙ (ap (λ xs. old ++ (map f front ++ xs)) (sym (one_mapped f b q))
    ∙ (ap (λ xs. old ++ xs) (sym (map-append f front (if b then q ∷ [] else [])))
    ∙ ap (λ xs. old ++ map f xs) (kept_more p n i q b low is test)))

-- what is added by groups of outages is added by all of them
pub by_groups : {X Y A : Type 0} (f : Y → List A) (g : X → List Y) (xs : List X)
    → flat_map f (flat_map g xs) ≡ flat_map (λ x. flat_map f (g x)) xs
by_groups f g [] = refl
by_groups f g (x ∷ xs) = flat_map-append f (g x) (flat_map g xs) ∙ ap (λ ys. flat_map f (g x) ++ ys) (by_groups f g xs)

-- all numbers of a range are in it
pub all_taken : (a n i : ℕ) → n ≤ i → take i (range_with_len a n) ≡ range_with_len a n
all_taken a n i high = take_all i (range_with_len a n) (omega (arith, length-range_with_len a n))

-- one outage of each of some links
pub one_each : (o : Outage) (links : List Ends) → on_each links (o ∷ []) ≡ map (outage_on o) links
unfolding on_each
one_each o links = append-nil (map (outage_on o) links)

-- no outages of some links
pub none_each : (links : List Ends) → on_each links [] ≡ []
unfolding on_each
none_each links = refl

-- what one kind of tables adds, after those of a front
pub in_turn : {A : Type 0} {old new front more its : List A} → new ≡ old ++ more → old ≡ front → more ≡ its
    → new ≡ front ++ its
in_turn adds before same = adds ∙ (λ k. before k ++ same k)

-- of groups of outages, those of each group
pub each_group : {X : Type 0} (links : List Ends) (g : X → List Outage) (xs : List X)
    → on_each links (flat_map g xs) ≡ flat_map (λ x. on_each links (g x)) xs
unfolding on_each
each_group links g xs = by_groups (λ o. map (outage_on o) links) g xs
