-- The rule of a queue or a deque: what was put into it is what was taken and what it holds.
use Rattle.std.specs.{Prelude.{◌≡◌, ◌≢◌, ◌⊎◌, ℕ, ◌+◌, List, [], ◌++◌, Option, Some, None, ◌∷◌}, List.{All, Contains, flat_map, sum_by, Sorted.{IsPermutation}}}
use mathlib.Core.Option.{some}
use lib.ListN.{get_elem?}
use Rattle.ledger.specs.declared.account.Account.{Account}

module _ {T : Type 0} where
  abbrev pub account : ℕ → ℕ → List T → List T → Option (List T) → Account T
  account made parts put taken told = record { made = made; parts = parts; put = put; taken = taken; told = told }

  -- the first pass of an empty queue, once it counts
  abbrev pub first_pass : Account T
  first_pass = account 1 1 [] [] None

  -- items were put by this pass, or taken by it
  abbrev pub has_put : Account T → List T → Account T
  has_put a xs = account a.made a.parts (a.put ++ xs) a.taken a.told

  abbrev pub has_taken : Account T → List T → Account T
  has_taken a xs = account a.made a.parts a.put (a.taken ++ xs) a.told

  -- the first pass has made one more, and the new one
  abbrev pub one_made : Account T → Account T
  one_made a = account (a.made + 1) a.parts a.put a.taken a.told

  abbrev pub new_pass : Option (List T) → Account T
  new_pass told = account 0 1 [] [] told

  -- the first pass has taken another back, and that one
  abbrev pub both_of : Account T → Account T → Account T
  both_of a b = account (a.made + b.made) (a.parts + b.parts) (a.put ++ b.put) (a.taken ++ b.taken) a.told

  abbrev pub given_back : Account T
  given_back = account 0 0 [] [] None

  -- the first pass forgets what it has put and taken
  abbrev pub forgets : Account T → Account T
  forgets a = account a.made a.parts [] [] a.told

  -- the first pass tells what it has put. It may where it stands for all, and again where it has told just this
  abbrev pub tells : Account T → Account T
  tells a = account a.made a.parts a.put a.taken (Some a.put)

  abbrev pub MayTell : Account T → Type 0
  MayTell a = (a.parts ≡ a.made) ⊎ (a.told ≡ Some a.put)

  -- what it was told, if it was
  abbrev pub told_in : Option (List T) → List T
  told_in None = []
  told_in (Some all) = all

  -- each item that a pass takes is among those that it was told
  abbrev pub AreTold : Account T → List T → Type 0
  AreTold a xs = (all : List T) → a.told ≡ Some all → All (Contains all) xs

  -- all that a pass which stands for all has put is what it has taken and what is there
  abbrev pub IsBalanced : Account T → List T → Type 0
  IsBalanced a items = IsPermutation a.put (a.taken ++ items)

  -- only the first pass counts the passes that were made
  abbrev pub FirstCounts : List (Account T) → Type 0
  FirstCounts passes = (port : ℕ) (a : Account T) → get_elem? passes port ≡ some a → port ≢ 0 → a.made ≡ 0

  -- a pass with no part, one that was given back, has put and taken nothing
  abbrev pub IdleIsEmpty : List (Account T) → Type 0
  IdleIsEmpty passes =
      (port : ℕ) (a : Account T) → get_elem? passes port ≡ some a → a.parts ≡ 0 → (a.put ≡ []) × (a.taken ≡ [])

  -- those that weren't given back were all told the same, or nothing
  abbrev pub AreToldAlike : List (Account T) → Type 0
  AreToldAlike passes =
      (port other : ℕ) (a b : Account T) → get_elem? passes port ≡ some a → get_elem? passes other ≡ some b
      → a.parts ≢ 0 → b.parts ≢ 0 → a.told ≡ b.told

  abbrev pub put_by_all : List (Account T) → List T
  put_by_all passes = flat_map (λ a. a.put) passes

  abbrev pub taken_by_all : List (Account T) → List T
  taken_by_all passes = flat_map (λ a. a.taken) passes

  -- they were told just the items that all have put
  abbrev pub IsToldRight : List (Account T) → Type 0
  IsToldRight passes =
      (port : ℕ) (a : Account T) (all : List T) → get_elem? passes port ≡ some a → a.parts ≢ 0 → a.told ≡ Some all
      → IsPermutation all (put_by_all passes)

  -- every item that some pass has put is one that some pass has taken or that is there, as often as it was put
  pub record EachOnce (items : List T) (passes : List (Account T)) : Type 0 where
    pub counted : sum_by (λ a. a.parts) passes ≡ sum_by (λ a. a.made) passes
    pub first : FirstCounts passes
    pub idle : IdleIsEmpty passes
    pub alike : AreToldAlike passes
    pub told : IsToldRight passes
    pub same : IsPermutation (put_by_all passes) (taken_by_all passes ++ items)

-- each element is changed by the row at its place, as far as there are rows
abbrev pub each_with : {H R : Type 0} → (H → R → H) → List H → List R → List H
each_with change [] rows = []
each_with change (h ∷ hs) [] = h ∷ hs
each_with change (h ∷ hs) (row ∷ rows) = change h row ∷ each_with change hs rows
