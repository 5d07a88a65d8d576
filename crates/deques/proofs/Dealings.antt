-- What a step on one deque is to its owner, to a permit, and to a worker's hand.
use Rattle.deques.proofs.Words.{◌≡◌, ◌≢◌, inl, inr, ℕ, zero, suc, ◌-◌, ◌<◌, ◌≤◌, List, [], ◌∷◌, ◌++◌, length, map, set, get_or, Option, Some, None, MatchOption, refl, sym, ap, ◌∙◌, subst, append_assoc, append-nil, arith, Contains, flat_map, IsPermutation, map-set_same, All-head, Contains-append_left, Contains-append_right, IsPermutation-append_right, IsPermutation-append_comm, Account, has_taken, new_pass, told_in, AreTold, IsBalanced, EachOnce, takes, among, DequeId, OwnerView, PermitView, HandView, owner_of, permit_of, hand_of, hand_at, MayTell, Popped, Stole, TookOne}
use Rattle.crossbeam_deque.proofs.Lists.{at_index}
use Rattle.crossbeam_deque.specs.{Tasks.{Takes}, Steals.{MatchSteal}, declared.steal.Steal.{Steal, TheVariants.{Empty, Success, Retry}}}
use Rattle.ledger.specs.Ledger as ledger
use Rattle.ledger.proofs.Totals.{gather_same, gather_more}

-- ---- one deque

all_parts : (parts made : ℕ) → parts ≤ made → made - parts ≡ 0 → parts ≡ made
all_parts parts made le none = omega arith

module _ {T : Type 0} where
  pub taken_one : (port : ℕ) (v : Account T) → v.parts ≢ 0 → Takes EachOnce port v 1 (λ xs w. (w ≡ has_taken v xs) × AreTold v xs)
  taken_one port v live [] items views any few b at = absurd (omega arith)
  taken_one port v live (x ∷ []) items views any few b at = (has_taken v (x ∷ []), takes port v (x ∷ []) live items views b at, (refl, among port v x live items views b at))
  taken_one port v live (x ∷ y ∷ xs) items views any few b at = absurd (omega arith)

  abbrev pub owner_at : DequeId → Account T → OwnerView T
  owner_at d a = owner_of d (a.made - a.parts) a.put a.taken a.told

  abbrev pub permit_at : DequeId → Account T → PermitView T
  permit_at d a = permit_of d (told_in a.told) a.taken

  pub may_tell : (d : DequeId) (a : Account T) (o : OwnerView T) → owner_at d a ≡ o → a.parts ≤ a.made → MayTell o → ledger.MayTell a
  may_tell d a o view le (inl none) = inl (all_parts a.parts a.made le (ap (λ (v : OwnerView T). v.out) view ∙ none))
  may_tell d a o view le (inr told) = inr (ap (λ (v : OwnerView T). v.told) view ∙ told ∙ ap (λ (v : OwnerView T). Some v.put) (sym view))

  pub popped : (r : Option T) (d d' : DequeId) (a b : Account T) (o : OwnerView T) → owner_at d a ≡ o → d' ≡ d → a.parts ≤ a.made
      → MatchOption r ((b ≡ a) × (a.parts ≡ a.made → IsBalanced a [])) (λ x. (b ≡ has_taken a (x ∷ [])) × AreTold a (x ∷ []))
      → MatchOption r ((owner_at d' b ≡ o) × (o.out ≡ 0 → IsPermutation o.put o.taken)) (Popped o (owner_at d' b))
  popped (Some x) d d' a b o view same le (is, told) =
      subst (λ (v : OwnerView T). Popped v (owner_at d' b) x) view ((λ i. owner_at (same i) (is i)), λ all e. All-head (Contains all) x [] (told all e))
  popped None d d' a b o view same le (is, balanced) = (
    (λ i. owner_at (same i) (is i)) ∙ view,
    subst (λ (v : OwnerView T). v.out ≡ 0 → IsPermutation v.put v.taken) view (λ none. subst (IsPermutation a.put) (append-nil a.taken) (balanced (all_parts a.parts a.made le none))),
  )

  pub stole : (r : Steal T) (d d' : DequeId) (a b : Account T) (p : PermitView T) (E R : Type 0) → permit_at d a ≡ p → d' ≡ d → a.told ≡ Some (told_in a.told)
      → MatchSteal r ((b ≡ a) × E) ((b ≡ a) × R) (λ x. (b ≡ has_taken a (x ∷ [])) × AreTold a (x ∷ []))
      → MatchSteal r (permit_at d' b ≡ p) (permit_at d' b ≡ p) (Stole p (permit_at d' b))
  stole Empty d d' a b p E R view same told (is, e) = (λ i. permit_at (same i) (is i)) ∙ view
  stole Retry d d' a b p E R view same told (is, e) = (λ i. permit_at (same i) (is i)) ∙ view
  stole (Success x) d d' a b p E R view same told (is, are) =
      subst (λ (v : PermitView T). Stole v (permit_at d' b) x) view ((λ i. permit_at (same i) (is i)), All-head (Contains (told_in a.told)) x [] (are (told_in a.told) told))

  pub live_permit : (a : Account T) (told : Option (List T)) (taken : List T) → a ≡ has_taken (new_pass told) taken → a.parts ≢ 0
  live_permit a told taken is none = let one : a.parts ≡ 1 = ap (λ (y : Account T). y.parts) is in absurd (omega arith)

-- ---- lists that are put together

module _ {A B : Type 0} (f : A → List B) where
  pub flat_same : (xs : List A) (i : ℕ) (d new : A) → d ≡ get_or xs i d → i < length xs → f new ≡ f d → flat_map f (set xs i new) ≡ flat_map f xs
  flat_same xs i d new is lt same = gather_same f xs i d new (at_index xs i d lt is) same

  pub flat_more : (xs : List A) (i : ℕ) (d new : A) (ys : List B) → d ≡ get_or xs i d → i < length xs → f new ≡ f d ++ ys → IsPermutation (flat_map f xs ++ ys) (flat_map f (set xs i new))
  flat_more xs i d new ys is lt more = gather_more f xs i d new ys (at_index xs i d lt is) more

  pub flat_has : (xs : List A) (i : ℕ) (d : A) → d ≡ get_or xs i d → i < length xs → (y : B) → Contains (f d) y → Contains (flat_map f xs) y
  flat_has [] i d is lt y has = absurd (omega arith)
  flat_has (x ∷ xs) zero d is lt y has = Contains-append_left (f x) (flat_map f xs) y (subst (λ z. Contains (f z) y) is has)
  flat_has (x ∷ xs) (suc i) d is lt y has = Contains-append_right (f x) (flat_map f xs) y (flat_has xs i d is (omega arith) y has)

-- ---- a worker's hand

module _ {T : Type 0} where
  last_in : (a f : List T) (x : T) → IsPermutation ((a ++ f) ++ x ∷ []) ((a ++ x ∷ []) ++ f)
  last_in a f x =
      subst (λ (p : List T × List T). IsPermutation p.0 p.1) (λ i. (sym (append_assoc a f (x ∷ [])) i, sym (append_assoc a (x ∷ []) f) i))
      (IsPermutation-append_right a _ _ (IsPermutation-append_comm f (x ∷ [])))

  pub hand_popped : (o o' : OwnerView T) (ps : List (PermitView T)) (x : T) → o.told ≡ Some o.put → ((y : T) → Contains o.put y → Contains (flat_map (λ p. p.known) ps) y)
      → Popped o o' x → TookOne (hand_at o ps) (hand_at o' ps) x
  hand_popped o o' ps x told known (is, among) = (
    (o.taken ++ x ∷ []) ++ flat_map (λ (p : PermitView T). p.taken) ps,
    ap (λ v. hand_at v ps) is,
    last_in o.taken (flat_map (λ (p : PermitView T). p.taken) ps) x,
    known x (among o.put told),
  )

  module _ (o : OwnerView T) (ps : List (PermitView T)) (i : ℕ) (d d' : PermitView T) (is : d ≡ get_or ps i d) (lt : i < length ps) where
    deques_same : d'.deque ≡ d.deque → map (λ (p : PermitView T). p.deque) (set ps i d') ≡ map (λ (p : PermitView T). p.deque) ps
    deques_same e = map-set_same (λ (p : PermitView T). p.deque) ps i d' d (e ∙ ap (λ (p : PermitView T). p.deque) is)

    pub known_same : d'.known ≡ d.known → flat_map (λ (p : PermitView T). p.known) (set ps i d') ≡ flat_map (λ (p : PermitView T). p.known) ps
    known_same e = flat_same (λ (p : PermitView T). p.known) ps i d d' is lt e

    pub hand_stole : (x : T) → Stole d d' x → TookOne (hand_at o ps) (hand_at o (set ps i d')) x
    hand_stole x (new, among) = (
      o.taken ++ flat_map (λ (p : PermitView T). p.taken) (set ps i d'),
      (λ j. hand_of (o.deque, o.put) (deques_same (ap (λ (p : PermitView T). p.deque) new) j) (known_same (ap (λ (p : PermitView T). p.known) new) j) (o.taken ++ flat_map (λ (p : PermitView T). p.taken) (set ps i d'))),
      subst (λ l. IsPermutation l (o.taken ++ flat_map (λ (p : PermitView T). p.taken) (set ps i d'))) (sym (append_assoc o.taken (flat_map (λ (p : PermitView T). p.taken) ps) (x ∷ [])))
          (IsPermutation-append_right o.taken _ _ (flat_more (λ (p : PermitView T). p.taken) ps i d d' (x ∷ []) is lt (ap (λ (p : PermitView T). p.taken) new))),
      flat_has (λ (p : PermitView T). p.known) ps i d is lt x among,
    )
