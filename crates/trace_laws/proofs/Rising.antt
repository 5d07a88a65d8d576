-- Keys that rise strictly, pair by pair.
use Rattle.trace_laws.proofs.Words.{◌≡◌, inl, inr, refl, sym, subst, List, [], ◌∷◌, true, Ordering, Less, ap, arith, list_all, key_cmp, is_less, is_before, is_rising, Key, both_true, and_true, entries}
use Rattle.{std.specs.Prelude.{IsTrue}, trace_laws.specs.History.{IsIn, Pair}}

-- each is before all that follow
abbrev pub IsRising : List Pair → Type 0
IsRising [] = Unit {0}
IsRising (s ∷ rest) = ((t : Pair) → IsIn t rest → key_cmp s.0.key t.0.key ≡ Less) × IsRising rest

pub less_is : (r : Ordering) → is_less r ≡ true → r ≡ Less
less_is r h = grind arith

front_there : (k : Key) (h : List Pair) → list_all (λ f. is_before k f.key) (entries h) ≡ true → (t : Pair) → IsIn t h → key_cmp k t.0.key ≡ Less
front_there k [] all t i = absurd i
front_there k (s ∷ h) all t (inl e) = subst (λ (z : Pair). key_cmp k z.0.key ≡ Less) (sym e) (less_is _ (both_true _ _ all).0)
front_there k (s ∷ h) all t (inr i) = front_there k h (both_true _ _ all).1 t i

front_back : (k : Key) (h : List Pair) → ((t : Pair) → IsIn t h → key_cmp k t.0.key ≡ Less) → list_all (λ f. is_before k f.key) (entries h) ≡ true
front_back k [] each = refl
front_back k (s ∷ h) each = and_true _ _ (ap is_less (each s (inl refl))) (front_back k h (λ t i. each t (inr i)))

pub rising_pairs : (h : List Pair) → IsTrue (is_rising (entries h)) → IsRising h
rising_pairs [] r = tt
rising_pairs (s ∷ h) r = (front_there s.0.key h (both_true _ _ r).0, rising_pairs h (both_true _ _ r).1)

pub rising_entries : (h : List Pair) → IsRising h → IsTrue (is_rising (entries h))
rising_entries [] r = refl
rising_entries (s ∷ h) r = and_true _ _ (front_back s.0.key h r.0) (rising_entries h r.1)
