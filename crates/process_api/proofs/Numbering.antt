-- Tests of the numbers 1 to n.
use Rattle.process_api.proofs.Basics.{add-one, length, length-append, ◌≡◌, ◌≢◌, ⊎_elim, ℕ, zero, suc, ◌+◌, ◌≤◌, refl, sym, ap, ◌∙◌, List, [], ◌∷◌, ◌++◌, Bool, true, false, cond, nat_eq, append-nil, append_assoc, map, arith, cases_eq, eq-eqb, ne_eqb, filter-append, map-append, filter, numbers_to}
use Rattle.std.proofs.lemmas.List.Sums.{length-filter, count_by-le-length}

pub filter-suc : (p : ℕ → Bool) (n : ℕ) → filter p (numbers_to (suc n)) ≡ filter p (numbers_to n) ++ cond (p (suc n)) (suc n ∷ []) []
filter-suc p n = filter-append p (numbers_to n) (suc n ∷ [])

pub filter-last : (p : ℕ → Bool) (n : ℕ) → filter p (numbers_to (n + 1)) ≡ filter p (numbers_to n) ++ cond (p (n + 1)) ((n + 1) ∷ []) []
filter-last p n = ap (λ k. filter p (numbers_to k)) (add-one n) ∙ (filter-suc p n ∙ ap (λ k. filter p (numbers_to n) ++ cond (p k) (k ∷ []) []) (sym (add-one n)))

-- a list that goes through 1 to n gets what belongs to n + 1, where that passes the test
pub appended-passes : {X : Type 0} (old : List X) (f : ℕ → X) (p : ℕ → Bool) (n : ℕ) → p (n + 1) ≡ true → (old ++ map f (filter p (numbers_to n))) ++ f (n + 1) ∷ [] ≡ old ++ map f (filter p (numbers_to (n + 1)))
appended-passes old f p n h =
    let found : List ℕ = filter p (numbers_to n) in
    append_assoc old (map f found) (f (n + 1) ∷ [])
    ∙ (ap (λ xs. old ++ xs) (sym (map-append f found ((n + 1) ∷ []))) ∙ ap (λ xs. old ++ map f xs) (sym (filter-last p n ∙ ap (λ b. found ++ cond b ((n + 1) ∷ []) []) h)))

pub appended-fails : {X : Type 0} (old : List X) (f : ℕ → X) (p : ℕ → Bool) (n : ℕ) → p (n + 1) ≡ false → old ++ map f (filter p (numbers_to n)) ≡ old ++ map f (filter p (numbers_to (n + 1)))
appended-fails old f p n h = ap (λ xs. old ++ map f xs) (sym (filter-last p n ∙ (ap (λ b. filter p (numbers_to n) ++ cond b ((n + 1) ∷ []) []) h ∙ append-nil _)))

numbers-last : (n : ℕ) → numbers_to (n + 1) ≡ numbers_to n ++ (n + 1) ∷ []
numbers-last n = ap numbers_to (add-one n) ∙ ap (λ k. numbers_to n ++ k ∷ []) (sym (add-one n))

-- a list that goes through 1 to n, with no test
pub appended : {X : Type 0} (old : List X) (f : ℕ → X) (n p : ℕ) (out more : List X) → out ≡ old ++ map f (numbers_to n) → p ≡ n + 1 → more ≡ out ++ f p ∷ []
    → more ≡ old ++ map f (numbers_to (n + 1))
appended old f n p out more before is made =
    made ∙ (ap (λ xs. xs ++ f p ∷ []) before
    ∙ (ap (λ k. (old ++ map f (numbers_to n)) ++ f k ∷ []) is
    ∙ (append_assoc old (map f (numbers_to n)) (f (n + 1) ∷ [])
    ∙ (ap (λ xs. old ++ xs) (sym (map-append f (numbers_to n) ((n + 1) ∷ []))) ∙ ap (λ xs. old ++ map f xs) (sym (numbers-last n))))))

-- tests that agree from 1 to n
pub filter-same : (f g : ℕ → Bool) (n : ℕ) → ((q : ℕ) → 1 ≤ q → q ≤ n → f q ≡ g q) → filter f (numbers_to n) ≡ filter g (numbers_to n)
filter-same f g zero agree = refl
filter-same f g (suc n) agree =
    let earlier : filter f (numbers_to n) ≡ filter g (numbers_to n) = filter-same f g n (λ q low high. agree q low (omega (arith, high))) in
    let last : f (suc n) ≡ g (suc n) = agree (suc n) (omega arith) (omega arith) in
    filter-suc f n ∙ ((λ i. earlier i ++ cond (last i) (suc n ∷ []) []) ∙ sym (filter-suc g n))

-- nobody from 1 to n passes
pub filter-none : (f : ℕ → Bool) (n : ℕ) → ((q : ℕ) → 1 ≤ q → q ≤ n → f q ≡ false) → filter f (numbers_to n) ≡ []
filter-none f zero fails = refl
filter-none f (suc n) fails =
    let earlier : filter f (numbers_to n) ≡ [] = filter-none f n (λ q low high. fails q low (omega (arith, high))) in
    let last : f (suc n) ≡ false = fails (suc n) (omega arith) (omega arith) in
    filter-suc f n ∙ (λ i. earlier i ++ cond (last i) (suc n ∷ []) [])

-- the test for one number finds it
pub filter-one : (f : ℕ → Bool) (q n : ℕ) → 1 ≤ q → q ≤ n → ((p : ℕ) → f p ≡ nat_eq p q) → filter f (numbers_to n) ≡ q ∷ []
filter-one f q zero low high is = absurd (omega (arith, low, high))
filter-one f q (suc n) low high is =
    filter-suc f n ∙ ⊎_elim
    (λ (e : q ≡ suc n).
    let earlier : filter f (numbers_to n) ≡ [] = filter-none f n (λ p low h. is p ∙ ne_eqb p q (λ same. omega (arith, h, e, same))) in
    let last : f (suc n) ≡ true = is (suc n) ∙ eq-eqb (suc n) q (sym e) in
    (λ i. earlier i ++ cond (last i) (suc n ∷ []) []) ∙ ap (λ k. k ∷ []) (sym e))
    (λ (apart : q ≢ suc n).
    let earlier : filter f (numbers_to n) ≡ q ∷ [] = filter-one f q n low (omega (arith, high, apart)) is in
    let last : f (suc n) ≡ false = is (suc n) ∙ ne_eqb (suc n) q (λ e. apart (sym e)) in
    λ i. earlier i ++ cond (last i) (suc n ∷ []) [])
    (cases_eq q (suc n))

pub length-numbers_to : (n : ℕ) → length (numbers_to n) ≡ n
length-numbers_to zero = refl
length-numbers_to (suc n) = length-append (numbers_to n) (suc n ∷ []) ∙ omega (arith, length-numbers_to n)

-- a test passes at most n of n numbers
pub length-filter_to : (p : ℕ → Bool) (n : ℕ) → length (filter p (numbers_to n)) ≤ n
length-filter_to p n = omega (arith, length-filter p (numbers_to n), count_by-le-length p (numbers_to n), length-numbers_to n)

-- two tests that no number passes both
length-last : (p : ℕ → Bool) (n : ℕ) → length (filter p (numbers_to (suc n))) ≡ length (filter p (numbers_to n)) + cond (p (suc n)) 1 0
length-last p n =
    ap length (filter-suc p n)
    ∙ (length-append (filter p (numbers_to n)) (cond (p (suc n)) (suc n ∷ []) [])
    ∙ ap (λ k. length (filter p (numbers_to n)) + k) (elim (p (suc n)) as (λ b. length (cond b (suc n ∷ []) []) ≡ cond b 1 0) [ true ↦ refl | false ↦ refl ]))

pub length-apart : (f g : ℕ → Bool) (n : ℕ) → ((q : ℕ) → f q ≡ true → g q ≡ false) → length (filter f (numbers_to n)) + length (filter g (numbers_to n)) ≤ n
length-apart f g zero apart = omega arith
length-apart f g (suc n) apart = omega (arith, length-last f n, length-last g n, length-apart f g n apart, one_of_them)
  where
    one_of_them : cond (f (suc n)) 1 0 + cond (g (suc n)) 1 0 ≤ 1
    one_of_them = grind (arith, apart (suc n))
