-- Outages in their order are one list, where they are the same.
use Rattle.study.proofs.Basics.{◌≡◌, ◌⊎◌, ℕ, suc, ◌+◌, ◌<◌, ◌≤◌, List, [], ◌∷◌, get_or, true, false, ◌&&◌, ◌==◌, cond, Less, Equal, refl, sym, ◌∙◌, ap, subst, inl, inr, arith, and_parts, eqb-true, eq-eqb, false≢true, cases_Bool, cases_lt, sum_by, nat_cmp, is_lt, ordering_then}
use Rattle.std.proofs.lemmas.List.{Sorted.{sum_by-IsPermutation}, Sums.{sum_by-cons}}
use Rattle.std.specs.{Cmp.{nat_cmp_is}, List.Sorted.{IsSorted, IsPermutation}}
use Rattle.{scenario_record.specs.declared.outage.Outage.{Outage}, network.specs.Ranges.{outage_cmp}}

-- ---- the order

abbrev Below : Outage → Outage → Type 0
Below a b = (a.begin < b.begin) ⊎ ((a.begin ≡ b.begin) × (a.until ≤ b.until))

not_less : (a b : Outage) → is_lt (outage_cmp b a) ≡ false → Below a b
not_less a b least = elim (cases_lt b.begin a.begin) [
  | inl low ↦ absurd (false≢true (sym least ∙ ap (λ o. is_lt (ordering_then o (nat_cmp b.until a.until))) (sym (nat_cmp_is b.begin a.begin Less low))))
  | inr high ↦ elim (cases_lt a.begin b.begin) [
    | inl above ↦ inl above
    | inr most ↦
        let same : a.begin ≡ b.begin = omega arith in
        let rest : is_lt (nat_cmp b.until a.until) ≡ false =
        ap (λ o. is_lt (ordering_then o (nat_cmp b.until a.until))) (nat_cmp_is b.begin a.begin Equal (sym same)) ∙ least in
        elim (cases_lt b.until a.until) [
          | inl low ↦ absurd (false≢true (sym rest ∙ ap is_lt (sym (nat_cmp_is b.until a.until Less low))))
          | inr up ↦ inr (same, up)
        ]
  ]
]

below_all : (a b c : Outage) → Below a b → Below b c → Below a c
below_all a b c (inl p) (inl q) = inl (omega arith)
below_all a b c (inl p) (inr q) = inl (omega (arith, q.0))
below_all a b c (inr p) (inl q) = inl (omega (arith, p.0))
below_all a b c (inr p) (inr q) = inr (p.0 ∙ q.0, omega (arith, p.1, q.1))

one_outage : (a b : Outage) → a.begin ≡ b.begin → a.until ≡ b.until → a ≡ b
one_outage a b begin until = λ i. record { begin = begin i; until = until i }

both_ways : (a b : Outage) → Below a b → Below b a → a ≡ b
both_ways a b (inl p) (inl q) = absurd (omega arith)
both_ways a b (inl p) (inr q) = absurd (omega (arith, q.0))
both_ways a b (inr p) (inl q) = absurd (omega (arith, p.0))
both_ways a b (inr p) (inr q) = one_outage a b p.0 (omega (arith, p.1, q.1))

-- ---- lists in order

abbrev Rising : List Outage → Type 0
Rising [] = Unit {0}
Rising (a ∷ []) = Unit {0}
Rising (a ∷ b ∷ os) = Below a b × Rising (b ∷ os)

rising : (os : List Outage) → IsSorted outage_cmp os → Rising os
rising [] up = tt
rising (a ∷ []) up = tt
rising (a ∷ b ∷ os) up =
    (not_less a b (up 0 a (omega arith) (omega arith)), rising (b ∷ os) later)
  where
    later : IsSorted outage_cmp (b ∷ os)
    later k d low within =
        let next : suc k + 1 ≡ suc (k + 1) = omega arith in
        subst (λ n. is_lt (outage_cmp (get_or (a ∷ b ∷ os) n d) (get_or (b ∷ os) k d)) ≡ false) next
        (up (suc k) d (omega arith) (omega arith))

-- whether it is this one, xs a number
abbrev same : Outage → Outage → ℕ
same a b = cond ((a.begin == b.begin) && (a.until == b.until)) 1 0

is_same : (a b : Outage) → (a.begin == b.begin) && (a.until == b.until) ≡ true → b ≡ a
is_same a b is =
    let both = and_parts (a.begin == b.begin) (a.until == b.until) is in
    one_outage b a (sym (eqb-true a.begin b.begin both.0)) (sym (eqb-true a.until b.until both.1))

same_itself : (a : Outage) → same a a ≡ 1
same_itself a = rw (eq-eqb a.begin a.begin refl, eq-eqb a.until a.until refl) refl

-- the first is below each of the others
first_below : (b : Outage) (os : List Outage) (a : Outage) → Rising (b ∷ os) → 0 < sum_by (same a) os → Below b a
first_below b [] a up some = absurd (omega arith)
first_below b (c ∷ os) a up some = elim (cases_Bool ((a.begin == c.begin) && (a.until == c.until))) [
  | inl is ↦ subst (Below b) (is_same a c is) up.0
  | inr other ↦
      let none : same a c ≡ 0 = ap (λ t. cond t 1 0) other in
      below_all b c a up.0 (first_below c os a up.1 (omega (arith, sum_by-cons (same a) c os)))
]

-- so is it below each of all, if that isn't the first itself
first_least : (b : Outage) (os : List Outage) (a : Outage) → Rising (b ∷ os) → 0 < sum_by (same a) (b ∷ os) → Below b a
first_least b os a up some = elim (cases_Bool ((a.begin == b.begin) && (a.until == b.until))) [
  | inl is ↦ subst (Below b) (is_same a b is) (inr (refl, omega arith))
  | inr other ↦
      let none : same a b ≡ 0 = ap (λ t. cond t 1 0) other in
      first_below b os a up (omega (arith, sum_by-cons (same a) b os))
]

one_order : (xs ys : List Outage) → Rising xs → Rising ys → ((f : Outage → ℕ) → sum_by f xs ≡ sum_by f ys) → xs ≡ ys
one_order [] [] up_a up_b sums = refl
one_order [] (b ∷ ys) up_a up_b sums = absurd (omega (arith, sums (λ o. 1), sum_by-cons (λ o. 1) b ys))
one_order (a ∷ xs) [] up_a up_b sums = absurd (omega (arith, sums (λ o. 1), sum_by-cons (λ o. 1) a xs))
one_order (a ∷ xs) (b ∷ ys) up_a up_b sums =
    let low_b : Below b a = first_least b ys a up_b (omega (arith, sums (same a), same_itself a, sum_by-cons (same a) a xs)) in
    let low_a : Below a b = first_least a xs b up_a (omega (arith, sums (same b), same_itself b, sum_by-cons (same b) b ys)) in
    let first : a ≡ b = both_ways a b low_a low_b in
    ap (λ o. o ∷ xs) first
    ∙ ap (λ os. b ∷ os) (one_order xs ys (later a xs up_a) (later b ys up_b)
    (λ f. omega (arith, sums f, ap f first, sum_by-cons f a xs, sum_by-cons f b ys)))
  where
    later : (o : Outage) (os : List Outage) → Rising (o ∷ os) → Rising os
    later o [] up = tt
    later o (p ∷ os) up = up.1

-- the outages of a list in their order
pub one_sorted : (os xs ys : List Outage) → IsPermutation os xs → IsPermutation os ys → IsSorted outage_cmp xs
    → IsSorted outage_cmp ys → xs ≡ ys
one_sorted os xs ys in_a in_b up_a up_b =
    one_order xs ys (rising xs up_a) (rising ys up_b)
    (λ f. sum_by-IsPermutation f os xs in_a ∙ sym (sum_by-IsPermutation f os ys in_b))
