-- The groups of a table, and their members above n.
use Rattle.network.proofs.Basics.{◌≡◌, ℕ, ◌+◌, ◌-◌, ◌<◌, List, [], ◌∷◌, map, length, get_or, take, take_more, Some, None, ap, sym, arith, All, take-map, All-nil, All-cons, All-map, All-push, AreAllWithin, AreWithin, HasKeyAbove, Named, member_above, named}
use Rattle.network.specs.declared.group.Group.{Group}

module _ (n : ℕ) where
  abbrev is_within : Named → Type 0
  is_within g = member_above n g.group ≡ None

  pub one_within : (key : List ℕ) (g : Group) → member_above n g ≡ None → AreAllWithin n (named key g ∷ [])
  one_within key g e = All-cons is_within (named key g) [] e (All-nil is_within)

  pub both_within : (k l : List ℕ) (g h : Group) → member_above n g ≡ None → member_above n h ≡ None
      → AreAllWithin n (named k g ∷ named l h ∷ [])
  both_within k l g h e f = All-cons is_within (named k g) (named l h ∷ []) e (one_within l h f)

  pub first_named : (key told : List ℕ) (g : Group) (rest : List Named) (p : ℕ) → told ≡ key → member_above n g ≡ Some p
      → HasKeyAbove n (named key g ∷ rest) told p
  first_named key told g rest p is above = record {
    before = [];
    group = g;
    rest = rest;
    there = ap (λ k. named k g ∷ rest) (sym is);
    within = All-nil is_within;
    above = above;
  }

  pub second_named : (k key told : List ℕ) (g h : Group) (p : ℕ) → told ≡ key → member_above n g ≡ None → member_above n h ≡ Some p
      → HasKeyAbove n (named k g ∷ named key h ∷ []) told p
  second_named k key told g h p is none above = record {
    before = named k g ∷ [];
    group = h;
    rest = [];
    there = ap (λ l. named k g ∷ named l h ∷ []) (sym is);
    within = one_within k g none;
    above = above;
  }

pub ruleset naming = (first_named, second_named, both_within)

pub all_next : {T : Type 0} (n : ℕ) (groups : T → List Named) (tables : List T) (i : ℕ) (t : T) → i < length tables
    → t ≡ get_or tables i t → All (λ t. AreAllWithin n (groups t)) (take i tables) → AreAllWithin n (groups t)
    → All (λ t. AreAllWithin n (groups t)) (take (i + 1) tables)
all_next n groups tables i t within is all here =
    rw (take_more tables i t within, ← is) (All-push (λ t. AreAllWithin n (groups t)) (take i tables) t all here)

-- no group of the tables before one
pub all_before : {T : Type 0} (n : ℕ) (groups : T → List Named) (tables : List T) (i : ℕ)
    → All (λ t. AreAllWithin n (groups t)) (take i tables) → AreWithin n (take (i + 1 - 1) (map groups tables))
all_before n groups tables i all =
    let back : i + 1 - 1 ≡ i = omega arith in
    rw (back, take-map groups i tables) (All-map (AreAllWithin n) groups (take i tables) all)
