-- What went out of an outlet, and how a run of a program ends.
use Rattle.std.specs.{Prelude.{◌≡◌, ◌⊎◌, ℕ, List, MatchResult, Option, Result, ◌≤◌, IfSome, codes, length, ◌≢◌}, Io.KnownBytes.{Consumes}}
use Rattle.reporting.specs.Outlet.{WroteNothing, WrotePart, Wrote}

-- what a failure leaves of what was to be written: nothing, perhaps what a refused run leaves, or a front part of it
pub data End : Type 0 where
  untouched : End
  begun : End
  cut : End

-- 4 where a write failed, and 3 where a refused run may have left something
abbrev pub HasStatus : End → (status : ℕ) → Type 0
HasStatus untouched status = (status ≡ 1) ⊎ ((status ≡ 2) ⊎ (status ≡ 3))
HasStatus begun status = status ≡ 3
HasStatus cut status = status ≡ 4

module _ {O : Type 0} (told : O → Option (List ℕ)) (failed : O → ℕ) (old new : O) where
  module _ (IsWanted : List ℕ → Type 0) where
    -- a piece that is wanted went out, whole
    pub record Went : Type 0 where
      pub piece : List ℕ
      pub is_wanted : IsWanted piece
      pub written : Wrote told failed old new piece

    -- a front part of such a piece went out
    pub record WentPart : Type 0 where
      pub piece : List ℕ
      pub is_wanted : IsWanted piece
      pub written : WrotePart told failed old new piece

    -- such a piece went out as far as the outlet took it
    abbrev pub Tells : Type 0
    Tells = Went ⊎ WentPart

    -- nothing went out, or such a piece did
    abbrev pub MayHaveGone : Type 0
    MayHaveGone = WroteNothing told failed old new ⊎ Went

  module _ (IsWritten IsLeft : List ℕ → Type 0) where
    -- what is out at such an end: after a failed write a front part of what was to be written
    abbrev pub LeftAt : End → Type 0
    LeftAt untouched = WroteNothing told failed old new
    LeftAt begun = MayHaveGone IsLeft
    LeftAt cut = WentPart IsWritten

module _ {F : Type 0} (end_of : F → End) {O : Type 0} (told : O → Option (List ℕ)) (failed : O → ℕ) (old new : O) where
  -- a piece that is wanted went out, or a failure left what was written until then
  abbrev pub Goes : {A : Type 0} (IsWanted IsWritten IsLeft : List ℕ → Type 0) → Result A F → Type 0
  Goes IsWanted IsWritten IsLeft outcome = MatchResult outcome (λ _. Went told failed old new IsWanted)
      (λ failure. LeftAt told failed old new IsWritten IsLeft (end_of failure))

  -- the same of what is written at once: a failure leaves nothing, but where writing failed
  abbrev pub Puts : {A : Type 0} (IsWanted : List ℕ → Type 0) → Result A F → Type 0
  Puts IsWanted outcome = Goes IsWanted IsWanted (λ _. ⊥) outcome

module _ {F : Type 0} (status_of : F → ℕ) (line_of : F → List ℕ) where
  -- why a program ends with this status and this line: a failure of this status and line came for a reason
  pub record IsWhy (IsReason : F → Type 0) (status : ℕ) (line : List ℕ) : Type 0 where
    pub failure : F
    pub reason : IsReason failure
    pub status_is : status ≡ status_of failure
    pub line_is : line ≡ line_of failure

-- the most bytes that a file may have
abbrev pub most_bytes : ℕ
most_bytes = 8388608

abbrev pub input_path : List ℕ
input_path = codes "-"

-- the bytes are all that a known input has
abbrev pub AreAllOf : Option (List ℕ) → List ℕ → Type 0
AreAllOf input bytes = IfSome input (λ all. bytes ≡ all)

-- at most n bytes of a known input are gone, from its front
abbrev pub TakesAtMost : ℕ → Option (List ℕ) → Option (List ℕ) → Type 0
TakesAtMost n old new = (gone : List ℕ) × Consumes old new gone × (length gone ≤ n)

-- a run of a program for its words: they state an order, which is carried out, or they are refused, which is told
module _ {Order : Type 0} (States : Order → Type 0) where
  -- the words make a whole order
  abbrev pub IsAsked : Type 0
  IsAsked = (asked : Order) × States asked

  -- the piece is this of an order that the words state
  abbrev pub IsOfOrder : (Order → List ℕ → Type 0) → List ℕ → Type 0
  IsOfOrder Says piece = (asked : Order) × States asked × Says asked piece

  -- or it is what words ask for that state none, as help
  abbrev pub Serves : (IsHelp : List ℕ → Type 0) → (Order → List ℕ → Type 0) → List ℕ → Type 0
  Serves IsHelp Says piece = IsOfOrder Says piece ⊎ IsHelp piece

  -- why the words aren't followed
  module _ {Refusal F : Type 0} (Explains : Refusal → Type 0) (TellsOf : Refusal → F → Type 0)
      (Stops : Order → F → Type 0) where
    -- the words state no order, for a reason of which the fault tells
    pub record IsUnasked (fault : F) : Type 0 where
      pub reason : Refusal
      pub explains : Explains reason
      pub tells : TellsOf reason fault

    -- they state one, which isn't carried out
    pub record IsStopped (fault : F) : Type 0 where
      pub asked : Order
      pub stated : States asked
      pub why : Stops asked fault

    -- the words aren't followed for this fault
    abbrev pub IsReason : F → Type 0
    IsReason fault = IsUnasked fault ⊎ IsStopped fault

  module _ (IsHelp : List ℕ → Type 0) (Answers Writes Leaves : Order → List ℕ → Type 0)
      {O : Type 0} (told : O → Option (List ℕ)) (failed : O → ℕ) (old new : O) where
    -- what went out for the words: what they ask for, or what is left where that stops
    abbrev pub GoesForWords : {A F : Type 0} (end_of : F → End) → Result A F → Type 0
    GoesForWords end_of outcome =
        Goes end_of told failed old new (Serves IsHelp Answers) (Serves IsHelp Writes) (IsOfOrder Leaves) outcome

    -- a run for the words ends with this status: what is out by then, and what is told of a fault
    pub record Ends {F : Type 0} (status_of : F → ℕ) (line_of : F → List ℕ) (IsReason : F → Type 0)
        {E : Type 0} (told_of : E → Option (List ℕ)) (failed_of : E → ℕ) (before after : E) (status : ℕ) : Type 0 where
      pub few : status ≤ 4
      pub done : status ≡ 0 → Went told failed old new (Serves IsHelp Answers)
      pub broken : status ≡ 4 → WentPart told failed old new (Serves IsHelp Writes)
      pub refused : (status ≡ 1) ⊎ (status ≡ 2) → WroteNothing told failed old new
      pub left : status ≡ 3 → MayHaveGone told failed old new (IsOfOrder Leaves)
      pub asked : (status ≡ 1) ⊎ (status ≡ 3) → IsAsked
      pub silent : status ≡ 0 → WroteNothing told_of failed_of before after
      pub why : status ≢ 0 → Tells told_of failed_of before after (IsWhy status_of line_of IsReason status)
