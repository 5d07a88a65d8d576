-- Letters in the order of the steps that send them.
use Rattle.runs.proofs.Words.{◌≡◌, ◌⊎◌, ℕ, ◌+◌, ◌<◌, ◌≤◌, inl, inr, refl, sym, ◌∙◌, subst, Bool, true, false, cond, Less, List, [], ◌∷◌, ◌++◌, map, arith, ◌==◌, AllByRecursion, All-from_recursion, both, images, weaker, Action, Key, StepInput, IsInRange, Record, Posted, posting, posted_by, posted_in, posted_along, setting_of, Setting, Process, counted, World, opening, taken, trace_is_closed, setting_sound, letter_of, IsNotAfter, AreInOrder, AreLetters, Letter}
use Rattle.{runs.proofs.OneStep.{step_cases}, std.proofs.lemmas.Bool.Decides.{nat_tests}}
use Rattle.process_api.specs.{Order.{key_cmp}, declared.action.Action.TheVariants.{Send, Wake, Note}}
use Rattle.{trace_laws.specs.History.{IsIn, Pair}, trace_laws.proofs.Rising.{IsRising, rising_pairs}}

-- of two keys that rise, the tick rises, or else the receiver doesn't fall
step_first : (a b : Key) → key_cmp a b ≡ Less → (a.tick < b.tick) ⊎ ((a.tick ≡ b.tick) × (a.receiver ≤ b.receiver))
step_first a b less = grind (arith, nat_tests)

-- a letter isn't sent before a step
abbrev Follows : Key → Posted → Type 0
Follows k l = (k.tick < l.key.tick) ⊎ ((k.tick ≡ l.key.tick) × (k.receiver ≤ l.key.sender))

-- each letter isn't sent after those that follow it
abbrev Ordered : List Posted → Type 0
Ordered [] = Unit {0}
Ordered (l ∷ later) = AllByRecursion (λ m. (l.key.tick < m.key.tick) ⊎ ((l.key.tick ≡ m.key.tick) × (l.key.sender ≤ m.key.sender))) later × Ordered later

-- a letter is sent by this process at this tick
abbrev IsOf : (p now : ℕ) → Posted → Type 0
IsOf p now l = (l.key.tick ≡ now) × (l.key.sender ≡ p)

-- letters of a step, and then those of later ones
ordered_then : (k : Key) (xs ys : List Posted) → AllByRecursion (IsOf k.receiver k.tick) xs → AllByRecursion (Follows k) ys → Ordered ys → Ordered (xs ++ ys)
ordered_then k [] ys of after order = order
ordered_then k (x ∷ xs) ys of after order = (
  both _ xs ys
      (weaker (IsOf k.receiver k.tick) _ (λ l h. inr (of.0.0 ∙ sym h.0, (let same : x.key.sender ≡ l.key.sender = of.0.1 ∙ sym h.1 in omega arith))) xs of.1)
      (weaker (Follows k) _ (λ l h. from l h) ys after),
  ordered_then k xs ys of.1 after order,
)
  where
    from : (l : Posted) → Follows k l → (x.key.tick < l.key.tick) ⊎ ((x.key.tick ≡ l.key.tick) × (x.key.sender ≤ l.key.sender))
    from l (inl h) = inl (omega (arith, of.0.0))
    from l (inr h) = inr (of.0.0 ∙ h.0, omega (arith, of.0.1, h.1))

module _ {Mind : Type 0} (S : Setting Mind) where
  one_of : (p now : ℕ) (counts : ℕ → ℕ) (a : Action) → AllByRecursion (IsOf p now) (posting S p now counts a)
  one_of p now counts (Send to payload) = go (to == p)
    where
      go : (b : Bool) → AllByRecursion (IsOf p now) (cond b [] (record { key = record { tick = now; receiver = to; sender = p; number = counts to + 1 }; payload = payload; fate = S.fate p to (counts to + 1) now } ∷ []))
      go true = tt
      go false = ((refl, refl), tt)
  one_of p now counts (Wake pause tag) = tt
  one_of p now counts (Note note) = tt

  all_of : (p now : ℕ) (counts : ℕ → ℕ) (actions : List Action) → AllByRecursion (IsOf p now) (posted_by S p now counts actions)
  all_of p now counts [] = tt
  all_of p now counts (a ∷ actions) = both (IsOf p now) (posting S p now counts a) _ (one_of p now counts a) (all_of p now (counted p counts a) actions)

  -- the letters of a step are of its receiver at its tick
  step_of : (before : Process Mind) (key : Key) (x : StepInput) → AllByRecursion (IsOf key.receiver key.tick) (posted_in S before key x)
  step_of before key x =
      step_cases S before key x (λ _ posted. AllByRecursion (IsOf key.receiver key.tick) posted) tt (all_of key.receiver key.tick before.counts (S.react before.mind key.tick x).actions)

  -- those of later steps follow
  later_follow : (k : Key) (h : List Pair) → ((t : Pair) → IsIn t h → key_cmp k t.0.key ≡ Less) → (w : World Mind) → AllByRecursion (Follows k) (posted_along S w h)
  later_follow k [] after w = tt
  later_follow k (s ∷ h) after w =
      both (Follows k) (posted_in S (w.process s.0.key.receiver) s.0.key s.1) _
      (weaker (IsOf s.0.key.receiver s.0.key.tick) (Follows k) (λ l is. elim (step_first k s.0.key (after s (inl refl))) [ inl h ↦ inl (omega (arith, h, is.0)) | inr h ↦ inr (h.0 ∙ sym is.0, omega (arith, is.1, h.1)) ])
      _ (step_of (w.process s.0.key.receiver) s.0.key s.1))
      (later_follow k h (λ t i. after t (inr i)) (taken S w s.0.key s.1))

  along_ordered : (h : List Pair) → IsRising h → (w : World Mind) → Ordered (posted_along S w h)
  along_ordered [] rising w = tt
  along_ordered (s ∷ h) rising w =
      ordered_then s.0.key _ _ (step_of (w.process s.0.key.receiver) s.0.key s.1) (later_follow s.0.key h rising.0 (taken S w s.0.key s.1)) (along_ordered h rising.1 (taken S w s.0.key s.1))

  told_in_order : (xs : List Posted) → Ordered xs → AreInOrder (map (letter_of S) xs)
  told_in_order [] order = tt
  told_in_order (x ∷ xs) order =
      (All-from_recursion (IsNotAfter (letter_of S x)) _ (images (IsNotAfter (letter_of S x)) (letter_of S) xs order.0), told_in_order xs order.1)

-- the letters of a run are in order
pub letters_in_order : (s : Record) → IsInRange s → (letters : List Letter) → AreLetters s letters → AreInOrder letters
letters_in_order s ranges letters (posted, (history, last, run, is), told) =
    let S = setting_of s in
    let closed = trace_is_closed S (setting_sound s ranges) history last run in
    subst AreInOrder (sym told) (told_in_order S posted (subst Ordered (sym is) (along_ordered S history (rising_pairs history closed.rising) (opening S))))
