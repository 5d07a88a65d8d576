-- Steps of a search over the pairs.
use Rattle.scenario.proofs.Words.{◌≡◌, ℕ, suc, ◌+◌, ◌-◌, ◌<◌, List, ◌∷◌, map, filter, find, Bool, true, false, ◌&&◌, Option, refl, ap, sym, ◌∙◌, arith, find-append, option_or, flat_map, range_with_len}

-- the numbers from a up to the end, one at a time
range_step : (a m k : ℕ) → m ≡ suc k → range_with_len a m ≡ a ∷ range_with_len (a + 1) k
range_step a m k e = rw e refl

-- a number that is left out, or whose pair fails, is passed over
skipped : (P : ℕ × ℕ → Bool) (g : ℕ → ℕ × ℕ) (q : ℕ → Bool) (x : ℕ) (xs : List ℕ) (b : Bool) → q x ≡ b → (b && P (g x)) ≡ false
    → find P (map g (filter q (x ∷ xs))) ≡ find P (map g (filter q xs))
skipped P g q x xs true e none = rw (e, none) refl
skipped P g q x xs false e none = rw e refl

pub skip : (P : ℕ × ℕ → Bool) (g : ℕ → ℕ × ℕ) (q : ℕ → Bool) (x end : ℕ) → x < end → (q x && P (g x)) ≡ false
    → find P (map g (filter q (range_with_len x (end - x)))) ≡ find P (map g (filter q (range_with_len (x + 1) (end - (x + 1)))))
skip P g q x end lt none =
    ap (λ xs. find P (map g (filter q xs))) (range_step x (end - x) (end - (x + 1)) (omega arith))
    ∙ skipped P g q x (range_with_len (x + 1) (end - (x + 1))) (q x) refl none

pub next_row : (P : ℕ × ℕ → Bool) (row : ℕ → List (ℕ × ℕ)) (x end : ℕ) (o : Option (ℕ × ℕ)) → x < end → o ≡ find P (row x)
    → find P (flat_map row (range_with_len x (end - x))) ≡ option_or o (find P (flat_map row (range_with_len (x + 1) (end - (x + 1)))))
next_row P row x end o lt here =
    ap (λ xs. find P (flat_map row xs)) (range_step x (end - x) (end - (x + 1)) (omega arith))
    ∙ (find-append P (row x) (flat_map row (range_with_len (x + 1) (end - (x + 1)))) ∙ ap (λ p. option_or p (find P (flat_map row (range_with_len (x + 1) (end - (x + 1)))))) (sym here))
