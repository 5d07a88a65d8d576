-- Parts of a word.
use Rattle.study.proofs.Basics.{◌≡◌, ◌≢◌, ℕ, ◌<◌, List, [], ◌∷◌, ◌++◌, map, take, drop, length, get_or, Bor, Some, true, false, ◌==◌, refl, ◌∙◌, ap, arith, eq-eqb, ne_eqb, get_or_default, list_any-append, list_any_none, IsSplitOnceResult, split_parts, split_once_first}
use Rattle.{std.proofs.Math.Bool.{or-true}, study.specs.Words.{Word, has, before, after}}

pub has_not : (c : ℕ) (w : Word) → ((i : ℕ) → i < length w → get_or w i 0 ≢ c) → has c w ≡ false
has_not c w lacks =
    list_any_none (λ b. b == c) w
    (λ i d within. ne_eqb (get_or w i d) c (λ e. lacks i within (get_or_default w i 0 d within ∙ e)))

pub split_has : (c : ℕ) (w : Word) (x : Bor (List ℕ) × Bor (List ℕ)) → IsSplitOnceResult c w (Some x) → c < 128
    → (has c w ≡ true) × (x.0.now ≡ before c w) × (x.1.now ≡ after c w)
split_has c w x split low =
    let first = split_once_first c w (Some x) split low in (
      ap (has c) (split_parts c w (Some x) split low).0
          ∙ (list_any-append (λ b. b == c) x.0.now (c ∷ x.1.now) ∙ rw (eq-eqb c c refl) (or-true (has c x.0.now))),
      first.1,
      first.2,
    )

pub nothing : (w : Word) → length w ≡ 0 → w ≡ []
nothing [] none = refl
nothing (b ∷ w) none = absurd (omega arith)

-- what stands before and after a place of a list, by what it is a list of
pub parted : {X Y : Type 0} (f : X → Y) (xs : List X) (ps qs : List Y) → map f xs ≡ ps ++ qs
    → (map f (take (length ps) xs) ≡ ps) × (map f (drop (length ps) xs) ≡ qs)
parted f xs [] qs is = (refl, is)
parted f [] (p ∷ ps) qs is = absurd (cc is)
parted f (x ∷ xs) (p ∷ ps) qs is =
    let head : f x ≡ p = cc is in
    let rest : map f xs ≡ ps ++ qs = cc is in
    let more = parted f xs ps qs rest in
    (ap (λ y. y ∷ map f (take (length ps) xs)) head ∙ ap (λ ys. p ∷ ys) more.0, more.1)
