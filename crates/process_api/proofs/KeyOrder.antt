-- The order of keys is total, and tells all keys apart.
use Rattle.process_api.proofs.Basics.{◌≡◌, ◌≢◌, ◌⊎◌, ℕ, ◌<◌, ◌≤◌, inl, inr, refl, sym, ap, ◌∙◌, subst, Ordering, Less, Equal, Greater, arith, nat_cmp, is_lt, is_gt, true≢false, ordering_then, ordering_reverse, IsTotalOrder, nat_cmp_total, on_total, then_total, tied_itself, ranked, IsAntisymmetric, nat_cmp-IsAntisymmetric, key_cmp, Key}

pub keys_total : IsTotalOrder key_cmp
keys_total = then_total (on_total (λ (k : Key). k.tick) nat_cmp_total)
    (then_total (on_total (λ (k : Key). k.receiver) nat_cmp_total)
    (then_total (on_total (λ (k : Key). k.sender) nat_cmp_total) (on_total (λ (k : Key). k.number) nat_cmp_total)))

-- both parts tie
tied_parts : (r s : Ordering) → ordering_then r s ≡ Equal → (r ≡ Equal) × (s ≡ Equal)
tied_parts Less s e = absurd (true≢false (ap is_lt e))
tied_parts Equal s e = (refl, e)
tied_parts Greater s e = absurd (true≢false (ap is_gt e))

same_fields : (a b : Key) → a.tick ≡ b.tick → a.receiver ≡ b.receiver → a.sender ≡ b.sender → a.number ≡ b.number → a ≡ b
same_fields a b t r s n = λ i. record { tick = t i; receiver = r i; sender = s i; number = n i }

pub exact_keys : IsAntisymmetric key_cmp
exact_keys a b e =
    let t = tied_parts _ _ e in
    let r = tied_parts _ _ t.1 in
    let s = tied_parts _ _ r.1 in
    same_fields a b (nat_cmp-IsAntisymmetric _ _ t.0) (nat_cmp-IsAntisymmetric _ _ r.0) (nat_cmp-IsAntisymmetric _ _ s.0) (nat_cmp-IsAntisymmetric _ _ s.1)

pub not_before_itself : (a : Key) → key_cmp a a ≢ Less
not_before_itself a e = true≢false (ap is_lt (sym e) ∙ ap is_lt (tied_itself keys_total a))

pub not_both : (a b : Key) → key_cmp a b ≡ Less → key_cmp b a ≢ Less
not_both a b e f = not_before_itself a (keys_total.trans a b a e f)

pub before_or_not : (a b : Key) → (key_cmp a b ≡ Less) ⊎ ((a ≡ b) ⊎ (key_cmp b a ≡ Less))
before_or_not a b = go (key_cmp a b) refl
  where
    go : (r : Ordering) → key_cmp a b ≡ r → (key_cmp a b ≡ Less) ⊎ ((a ≡ b) ⊎ (key_cmp b a ≡ Less))
    go Less e = inl e
    go Equal e = inr (inl (exact_keys a b e))
    go Greater e = inr (inr (keys_total.antisymm b a ∙ ap ordering_reverse e))

pub same_or_not : (a b : Key) → (a ≡ b) ⊎ (a ≢ b)
same_or_not a b = go (key_cmp a b) refl
  where
    go : (r : Ordering) → key_cmp a b ≡ r → (a ≡ b) ⊎ (a ≢ b)
    go Less e = inr (λ s. not_before_itself b (subst (λ x. key_cmp x b ≡ Less) s e))
    go Equal e = inl (exact_keys a b e)
    go Greater e = inr (λ s. true≢false (ap is_gt (sym e) ∙ ap is_gt (subst (λ x. key_cmp a x ≡ Equal) s (tied_itself keys_total a))))

-- the tick decides first
tick_first : (a b : ℕ) (s : Ordering) → (r : Ordering) → r ≡ nat_cmp a b → a < b → ordering_then r s ≡ Less
tick_first a b s Less e h = refl
tick_first a b s Equal e h = let is : a ≡ b = ranked a b Equal e in absurd (omega arith)
tick_first a b s Greater e h = let is : b < a = ranked a b Greater e in absurd (omega arith)

pub before_by_tick : (a b : Key) → a.tick < b.tick → key_cmp a b ≡ Less
before_by_tick a b h = tick_first a.tick b.tick _ _ refl h

tick_last : (a b : ℕ) (s : Ordering) → (r : Ordering) → r ≡ nat_cmp a b → ordering_then r s ≡ Less → a ≤ b
tick_last a b s Less e h = let is : a < b = ranked a b Less e in omega arith
tick_last a b s Equal e h = let is : a ≡ b = ranked a b Equal e in omega arith
tick_last a b s Greater e h = absurd (true≢false (ap is_gt h))

pub ticks_rise : (a b : Key) → key_cmp a b ≡ Less → a.tick ≤ b.tick
ticks_rise a b h = tick_last a.tick b.tick _ _ refl h
