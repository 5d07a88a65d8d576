-- What contracts see of the deques of a window: of one deque, of a worker's hand, and of what is left.
use Rattle.std.specs.{Prelude.{◌≡◌, ◌⊎◌, ℕ, zero, suc, ◌+◌, ◌-◌, ◌<◌, ◌%◌, if◌then◌else◌, List, [], ◌∷◌, ◌++◌, map, length, nat_eq, slice_index_or, Option, Some}, Global.{Global}, List.{Contains, flat_map, Sorted.{IsPermutation}}}
use Rattle.atomic_blocks.specs.Lent.{RowsId}

-- which deque it is
abbrev pub DequeId : Type 0
DequeId = RowsId × Global

-- a deque at its owner: how many permits to steal from it are out, what was put in, what was taken by the owner and by
-- those whose permits are back, and what the others were told to have been put in
pub record OwnerView (T : Type 0) : Type 0 where
  pub deque : DequeId
  pub out : ℕ
  pub put : List T
  pub taken : List T
  pub told : Option (List T)

-- a permit to steal: from which deque, what was put into it, and what was stolen by this permit
pub record PermitView (T : Type 0) : Type 0 where
  pub deque : DequeId
  pub known : List T
  pub taken : List T

-- a deque, and what was put into it
abbrev pub Dealt : Type 0 → Type 0
Dealt T = DequeId × List T

-- what a worker takes by: its own deque, of which deques it has permits, all that was put in, and what it has taken
pub record HandView (T : Type 0) : Type 0 where
  pub own : Dealt T
  pub deques : List DequeId
  pub known : List T
  pub taken : List T

-- what the starter has after the workers: how many permits are out, and what was taken by those that are back
pub record RestView (T : Type 0) : Type 0 where
  pub own : List (Dealt T)
  pub out : ℕ
  pub taken : List T

module _ {T : Type 0} where
  abbrev pub owner_of : DequeId → ℕ → List T → List T → Option (List T) → OwnerView T
  owner_of deque out put taken told = record { deque = deque; out = out; put = put; taken = taken; told = told }

  abbrev pub permit_of : DequeId → List T → List T → PermitView T
  permit_of deque known taken = record { deque = deque; known = known; taken = taken }

  abbrev pub hand_of : Dealt T → List DequeId → List T → List T → HandView T
  hand_of own deques known taken = record { own = own; deques = deques; known = known; taken = taken }

  abbrev pub rest_of : List (Dealt T) → ℕ → List T → RestView T
  rest_of own out taken = record { own = own; out = out; taken = taken }

  -- what was stolen by these permits
  abbrev pub stolen_by : List (PermitView T) → List T
  stolen_by permits = flat_map (λ p. p.taken) permits

  -- what these workers have taken
  abbrev pub taken_by : List (HandView T) → List T
  taken_by hands = flat_map (λ h. h.taken) hands

  -- the deques, and all that was put into them
  abbrev pub deques_of : List (Dealt T) → List DequeId
  deques_of own = map (λ d. d.0) own

  abbrev pub all_put : List (Dealt T) → List T
  all_put own = flat_map (λ d. d.1) own

  abbrev pub dealt_of : OwnerView T → Dealt T
  dealt_of o = (o.deque, o.put)

  -- a worker's hand, of its own deque and its permits
  abbrev pub hand_at : OwnerView T → List (PermitView T) → HandView T
  hand_at o permits =
      hand_of (dealt_of o) (map (λ p. p.deque) permits) (flat_map (λ p. p.known) permits) (o.taken ++ stolen_by permits)

  -- An item is put into the deque at a place
  abbrev pub with_item : List (Dealt T) → ℕ → T → List (Dealt T)
  with_item [] at x = []
  with_item (d ∷ ds) zero x = (d.0, d.1 ++ x ∷ []) ∷ ds
  with_item (d ∷ ds) (suc at) x = d ∷ with_item ds at x

  -- Items are dealt in turn: that with number k goes to the place that k leaves when it is divided by their count
  abbrev pub share_from : (count at k : ℕ) → List T → List T
  share_from count at k [] = []
  share_from count at k (x ∷ xs) =
      if nat_eq (k % count) at then x ∷ share_from count at (k + 1) xs else share_from count at (k + 1) xs

  abbrev pub AreShares : (count : ℕ) → List T → List (List T) → Type 0
  AreShares count items puts = (at : ℕ) → at < count → slice_index_or puts at [] ≡ share_from count at 0 items

  -- one permit more is out, and it tells what was put in. It may where none is out, or where the others told just this
  abbrev pub one_out : OwnerView T → OwnerView T
  one_out o = owner_of o.deque (o.out + 1) o.put o.taken (Some o.put)

  abbrev pub MayTell : OwnerView T → Type 0
  MayTell o = (o.out ≡ 0) ⊎ (o.told ≡ Some o.put)

  -- so many permits more are out
  abbrev pub many_out : ℕ → OwnerView T → OwnerView T
  many_out zero o = o
  many_out (suc n) o = one_out (many_out n o)

  -- a permit by which nothing was stolen yet
  abbrev pub blank : OwnerView T → PermitView T
  blank o = permit_of o.deque o.put []

  -- a permit is back, by which these items were stolen
  abbrev pub one_back : OwnerView T → List T → OwnerView T
  one_back o stolen = owner_of o.deque (o.out - 1) o.put (o.taken ++ stolen) o.told

  -- all permits of a deque are out and tell what was put in, and nothing was taken
  abbrev pub HasTold : (out : ℕ) → List (Dealt T) → OwnerView T → Type 0
  HasTold out own o = (o.out ≡ out) × (o.told ≡ Some o.put) × (o.taken ≡ [])
      × ((x : T) → Contains o.put x → Contains (all_put own) x)

  -- a permit for each deque, by which nothing was stolen yet
  abbrev pub AreBlank : (count : ℕ) → List (Dealt T) → List (PermitView T) → Type 0
  AreBlank count own permits = (length permits ≡ count) × (map (λ p. p.deque) permits ≡ deques_of own)
      × (flat_map (λ p. p.known) permits ≡ all_put own) × (stolen_by permits ≡ [])

  -- a hand has a place among its permits, its deque has told, all permits of that are out, and they tell what it told
  abbrev pub CanHold : (place count : ℕ) → OwnerView T → List (PermitView T) → Type 0
  CanHold place count o permits = (place < count) × (o.out ≡ count) × (o.told ≡ Some o.put)
      × ((x : T) → Contains o.put x → Contains (flat_map (λ p. p.known) permits) x)

  -- the hand of a worker that has not begun
  abbrev pub IsDealt : List (Dealt T) → HandView T → Type 0
  IsDealt own h = (h.deques ≡ deques_of own) × (h.known ≡ all_put own) × (h.taken ≡ [])

  -- a worker's permits are back, by which these items were stolen
  abbrev pub CameBack : (old new : RestView T) → List T → Type 0
  CameBack old new stolen =
      (taken : List T) × (new ≡ rest_of old.own (old.out - 1) taken) × IsPermutation (old.taken ++ stolen) taken

  -- the owner took one item more, which was put in as far as it was told
  abbrev pub Popped : (old new : OwnerView T) → T → Type 0
  Popped old new x = (new ≡ owner_of old.deque old.out old.put (old.taken ++ x ∷ []) old.told)
      × ((all : List T) → old.told ≡ Some all → Contains all x)

  -- one item more was stolen by this permit, one of those that were put in
  abbrev pub Stole : (old new : PermitView T) → T → Type 0
  Stole old new x = (new ≡ permit_of old.deque old.known (old.taken ++ x ∷ [])) × Contains old.known x

  -- a worker took one item more, one of those that were put in
  abbrev pub TookOne : (old new : HandView T) → T → Type 0
  TookOne old new x = (taken : List T) × (new ≡ hand_of old.own old.deques old.known taken)
      × IsPermutation (old.taken ++ x ∷ []) taken × Contains old.known x

  -- the starter took one item more, once all permits are back
  abbrev pub TookLast : (old new : RestView T) → T → Type 0
  TookLast old new x = (taken : List T) × (new ≡ rest_of old.own 0 taken)
      × IsPermutation (old.taken ++ x ∷ []) taken × Contains (all_put old.own) x
