-- Who is in a set after a change.
use Rattle.process_api.proofs.Basics.{◌≡◌, ◌≢◌, ℕ, zero, suc, ◌+◌, add-one, refl, sym, ap, ◌∙◌, List, [], ◌∷◌, ◌++◌, Bool, true, false, cond, not, ◌&&◌, ◌||◌, nat_eq, nat_le, arith, nat_cmp_total, unsigned_tied, filter, nat_cmp-IsAntisymmetric, ne_eqb, and_right, nat_tests, numbers_to, is_process, Processes, insert_all, up_to}
use Rattle.process_api.proofs.Numbering.{filter-suc}
use Rattle.std.specs.FinSet as set

pub contains-insert_is : (s : Processes) (q p : ℕ) → set.contains (set.insert s q) p ≡ (nat_eq p q || set.contains s p)
contains-insert_is s q p = set.contains-insert nat_cmp_total s q p ∙ ap (λ b. b || set.contains s p) (unsigned_tied p q)

pub contains-remove_is : (s : Processes) (q p : ℕ) → set.contains (set.remove s q) p ≡ (not (nat_eq p q) && set.contains s p)
contains-remove_is s q p = set.contains-remove nat_cmp_total s q p ∙ ap (λ b. not b && set.contains s p) (unsigned_tied p q)

pub fewer_after_remove : (s t : Processes) (q p : ℕ) → t ≡ set.remove s q → set.contains s p ≡ false → set.contains t p ≡ false
fewer_after_remove s t q p is h = ap (λ m. set.contains m p) is ∙ (contains-remove_is s q p ∙ and_right _ _ h)

pub without_after_insert : (s t : Processes) (q p : ℕ) → t ≡ set.insert s q → q ≢ p → set.contains s p ≡ false → set.contains t p ≡ false
without_after_insert s t q p is apart h =
    ap (λ m. set.contains m p) is ∙ (contains-insert_is s q p ∙ (λ i. ne_eqb p q (λ e. apart (sym e)) i || h i))

pub insert_all-append : (s : Processes) (xs ys : List ℕ) → insert_all s (xs ++ ys) ≡ insert_all (insert_all s xs) ys
insert_all-append s [] ys = refl
insert_all-append s (x ∷ xs) ys = insert_all-append (set.insert s x) xs ys

-- n + 1 joins all of 1 to n that pass a test, if it passes too
insert_all-suc : (s : Processes) (t : ℕ → Bool) (n : ℕ)
    → insert_all s (filter t (numbers_to (suc n))) ≡ cond (t (suc n)) (set.insert (insert_all s (filter t (numbers_to n))) (suc n)) (insert_all s (filter t (numbers_to n)))
insert_all-suc s t n = ap (insert_all s) (filter-suc t n) ∙ (insert_all-append s (filter t (numbers_to n)) (cond (t (suc n)) (suc n ∷ []) []) ∙ go (t (suc n)))
  where
    go : (b : Bool) → insert_all (insert_all s (filter t (numbers_to n))) (cond b (suc n ∷ []) []) ≡ cond b (set.insert (insert_all s (filter t (numbers_to n))) (suc n)) (insert_all s (filter t (numbers_to n)))
    go true = refl
    go false = refl

pub insert_all-next : (s : Processes) (t : ℕ → Bool) (n : ℕ)
    → insert_all s (filter t (numbers_to (n + 1))) ≡ cond (t (n + 1)) (set.insert (insert_all s (filter t (numbers_to n))) (n + 1)) (insert_all s (filter t (numbers_to n)))
insert_all-next s t n =
    let before : Processes = insert_all s (filter t (numbers_to n)) in
    ap (λ k. insert_all s (filter t (numbers_to k))) (add-one n) ∙ (insert_all-suc s t n ∙ ap (λ k. cond (t k) (set.insert before k) before) (sym (add-one n)))

-- who is in the set then
one_more : (s before : Processes) (t : ℕ → Bool) (n q : ℕ) → set.contains before q ≡ ((is_process n q && t q) || set.contains s q)
    → set.contains (cond (t (suc n)) (set.insert before (suc n)) before) q ≡ ((is_process (suc n) q && t q) || set.contains s q)
one_more s before t n q h = grind (h, contains-insert_is before (suc n) q, arith, nat_tests)

none_of_0 : (s : Processes) (t : ℕ → Bool) (q : ℕ) → set.contains s q ≡ ((is_process 0 q && t q) || set.contains s q)
none_of_0 s t q = grind (arith, nat_tests)

pub contains-insert_all : (s : Processes) (t : ℕ → Bool) (n q : ℕ) → set.contains (insert_all s (filter t (numbers_to n))) q ≡ ((is_process n q && t q) || set.contains s q)
contains-insert_all s t zero q = none_of_0 s t q
contains-insert_all s t (suc n) q = ap (λ m. set.contains m q) (insert_all-suc s t n) ∙ one_more s _ t n q (contains-insert_all s t n q)

-- of a set, those that are at most n
pub contains-up_to : (n : ℕ) (s : Processes) (q : ℕ) → set.contains (up_to n s) q ≡ (set.contains s q && nat_le q n)
contains-up_to n s q = set.contains-retain s (λ k. nat_le k n) q (λ x e. ap (λ k. nat_le k n) (sym (nat_cmp-IsAntisymmetric q x e)))

pub same_members : (s t : Processes) → ((q : ℕ) → set.contains s q ≡ set.contains t q) → s ≡ t
same_members s t f = set.same_set nat_cmp_total nat_cmp-IsAntisymmetric s t f
