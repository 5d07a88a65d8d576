-- Lists that are made process by process.
use Rattle.std.proofs.{Common.{◌≡◌, ◌≢◌, ℕ, zero, suc, ◌+◌, ◌<◌, true, false, cond, not, refl, sym, ap, ◌∙◌, arith, eqb, List, [], ◌∷◌, ◌++◌, map, flat_map, filter, append_assoc, add-one, append-nil}, lemmas.List.Elements.{filter-append}}
use Rattle.reporting.proofs.Words.{eq-eqb, ne_eqb, map-append, flat_map-append, numbers_to, others}

-- one more of the others of a process, unless it is that process
pub others_more : {X : Type 0} (f : ℕ → X) (k q : ℕ) → map f (others (suc k) q) ≡ map f (others k q) ++ cond (not (eqb (suc k) q)) (f (suc k) ∷ []) []
others_more f k q =
    ap (map f) (filter-append (λ p. not (eqb p q)) (numbers_to k) (suc k ∷ []))
    ∙ map-append f (others k q) (filter (λ p. not (eqb p q)) (suc k ∷ []))
    ∙ ap (λ ys. map f (others k q) ++ ys) (elim (not (eqb (suc k) q)) as (λ b. map f (cond b (suc k ∷ []) []) ≡ cond b (f (suc k) ∷ []) []) [ true ↦ refl | false ↦ refl ])

pub others_same : {X : Type 0} (f g : ℕ → X) (k q : ℕ) → ((j : ℕ) → j < k → f (suc j) ≡ g (suc j)) → map f (others k q) ≡ map g (others k q)
others_same f g zero q same = refl
others_same f g (suc k) q same =
    others_more f k q
    ∙ ap (λ xs. xs ++ cond (not (eqb (suc k) q)) (f (suc k) ∷ []) []) (others_same f g k q (λ j l. same j (omega arith)))
    ∙ ap (λ x. map g (others k q) ++ cond (not (eqb (suc k) q)) (x ∷ []) []) (same k (omega arith))
    ∙ sym (others_more g k q)

pub rows_more : {X : Type 0} (f : ℕ → List X) (k : ℕ) → flat_map f (numbers_to (suc k)) ≡ flat_map f (numbers_to k) ++ f (suc k)
rows_more f k = flat_map-append f (numbers_to k) (suc k ∷ []) ∙ ap (λ ys. flat_map f (numbers_to k) ++ ys) (append-nil (f (suc k)))

pub rows_same : {X : Type 0} (f g : ℕ → List X) (k : ℕ) → ((j : ℕ) → j < k → f (suc j) ≡ g (suc j)) → flat_map f (numbers_to k) ≡ flat_map g (numbers_to k)
rows_same f g zero same = refl
rows_same f g (suc k) same =
    rows_more f k
    ∙ ap (λ xs. xs ++ f (suc k)) (rows_same f g k (λ j l. same j (omega arith)))
    ∙ ap (λ ys. flat_map g (numbers_to k) ++ ys) (same k (omega arith))
    ∙ sym (rows_more g k)

-- a loop over all processes, that skips one of them
pub pushed_other : {X : Type 0} (f : ℕ → X) (old now new : List X) (k q : ℕ) (x : X) → now ≡ old ++ map f (others k q) → new ≡ now ++ x ∷ [] → k + 1 ≢ q → f (k + 1) ≡ x → new ≡ old ++ map f (others (k + 1) q)
pushed_other f old now new k q x so_far pushed other is =
    pushed
    ∙ ap (λ xs. xs ++ x ∷ []) so_far
    ∙ append_assoc old (map f (others k q)) (x ∷ [])
    ∙ ap (λ y. old ++ (map f (others k q) ++ y ∷ [])) (sym is ∙ ap f (add-one k))
    ∙ ap (λ b. old ++ (map f (others k q) ++ cond b (f (suc k) ∷ []) [])) (sym (ap not (ne_eqb (suc k) q (λ e. other (omega arith)))))
    ∙ ap (λ ys. old ++ ys) (sym (others_more f k q))
    ∙ ap (λ n. old ++ map f (others n q)) (sym (add-one k))

pub skipped_own : {X : Type 0} (f : ℕ → X) (old now : List X) (k q : ℕ) → now ≡ old ++ map f (others k q) → k + 1 ≡ q → now ≡ old ++ map f (others (k + 1) q)
skipped_own f old now k q so_far own =
    so_far
    ∙ ap (λ ys. old ++ ys) (sym (append-nil (map f (others k q))))
    ∙ ap (λ b. old ++ (map f (others k q) ++ cond b (f (suc k) ∷ []) [])) (sym (ap not (eq-eqb (suc k) q (omega arith))))
    ∙ ap (λ ys. old ++ ys) (sym (others_more f k q))
    ∙ ap (λ n. old ++ map f (others n q)) (sym (add-one k))
