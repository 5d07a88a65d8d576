-- One more entry after all others of a rising list.
use Rattle.judges.proofs.Words.{◌≡◌, ℕ, zero, suc, true, ◌&&◌, refl, ap, ◌∙◌, List, [], ◌∷◌, ◌++◌, length, get_or, arith, list_all, list_all-append, and_parts, and_from, is_less, is_before, is_rising, EntryRecord, keys_total}
use Rattle.judges.proofs.Order.{less_from}

before-trans : (a b c : EntryRecord) → is_before a.key b.key ≡ true → is_before b.key c.key ≡ true → is_before a.key c.key ≡ true
before-trans a b c h k = ap is_less (keys_total.trans a.key b.key c.key (less_from _ h) (less_from _ k))

-- where the last entry of a rising list comes before another, so does the first
after_all : (x : EntryRecord) (xs : List EntryRecord) (e d : EntryRecord) (k : ℕ) → k ≡ length xs → is_rising (x ∷ xs) ≡ true → is_before (get_or (x ∷ xs) k d).key e.key ≡ true
    → (is_before x.key e.key ≡ true) × (is_rising ((x ∷ xs) ++ e ∷ []) ≡ true)
after_all x [] e d zero l h is = (is, ap (λ b. (b && true) && true) is)
after_all x [] e d (suc k) l h is = absurd (omega arith)
after_all x (y ∷ ys) e d zero l h is = absurd (omega arith)
after_all x (y ∷ ys) e d (suc k) l h is =
    let parts = and_parts (list_all (λ f. is_before x.key f.key) (y ∷ ys)) (is_rising (y ∷ ys)) h in
    let rest = after_all y ys e d k (omega arith) parts.1 is in
    let before = before-trans x y e (and_parts (is_before x.key y.key) (list_all (λ f. is_before x.key f.key) ys) parts.0).0 rest.0 in (
      before,
      and_from (list_all (λ f. is_before x.key f.key) ((y ∷ ys) ++ e ∷ [])) (is_rising ((y ∷ ys) ++ e ∷ []))
          (list_all-append (λ f. is_before x.key f.key) (y ∷ ys) (e ∷ []) ∙ and_from (list_all (λ f. is_before x.key f.key) (y ∷ ys)) (is_before x.key e.key && true) parts.0 (ap (λ b. b && true) before)) rest.1,
    )

pub rising_first : (xs : List EntryRecord) (e : EntryRecord) → length xs ≡ 0 → is_rising (xs ++ e ∷ []) ≡ true
rising_first [] e l = refl
rising_first (x ∷ xs) e l = absurd (omega arith)

pub rising_more : (xs : List EntryRecord) (e d : EntryRecord) (k : ℕ) → suc k ≡ length xs → is_rising xs ≡ true → is_before (get_or xs k d).key e.key ≡ true → is_rising (xs ++ e ∷ []) ≡ true
rising_more [] e d k l h is = refl
rising_more (x ∷ xs) e d k l h is = (after_all x xs e d k (omega arith) h is).1
