-- What a put does to an outlet.
use Rattle.std.specs.{Prelude.{ℕ, ◌≤◌, ◌&&◌, not, nat_eq, List, length, take, Option, Result, Ok, Err, if◌then◌else◌, ◌≡◌, ◌+◌}, Io.KnownBytes.{Appends}}

-- failures that a put of the piece counts: one where it answered an error, or took nothing of a piece that isn't empty
abbrev pub failures_of : {E : Type 0} → Result ℕ E → List ℕ → ℕ
failures_of (Ok taken) piece = if nat_eq taken 0 && not (nat_eq (length piece) 0) then 1 else 0
failures_of (Err e) piece = 1

-- known bytes grow by a front part of the piece
abbrev pub Grows : Option (List ℕ) → Option (List ℕ) → List ℕ → Type 0
Grows old new piece = (n : ℕ) × (n ≤ length piece) × Appends old new (take n piece)

-- an outlet over memory: the bytes that it took, and how many puts failed
pub record Held : Type 0 where
  pub bytes : List ℕ
  pub failures : ℕ

-- an outlet over a writer
pub record Stream (W : Type 0) : Type 0 where
  pub writer : W
  pub failures : ℕ

-- an outlet over memory that takes at most so many bytes at a put, and so many more puts
pub record Fuse : Type 0 where
  pub bytes : List ℕ
  pub most : ℕ
  pub left : ℕ
  pub failures : ℕ

-- what a call that writes a text leaves of an outlet
module _ {O : Type 0} (told : O → Option (List ℕ)) (failed : O → ℕ) (old new : O) where
  -- the whole text went out, and no put failed
  pub record Wrote (text : List ℕ) : Type 0 where
    pub bytes : Appends (told old) (told new) text
    pub failures : failed new ≡ failed old

  -- a front part of the text went out, and one put failed
  pub record WrotePart (text : List ℕ) : Type 0 where
    pub bytes : Grows (told old) (told new) text
    pub failures : failed new ≡ failed old + 1

  -- nothing went out, and no put failed
  pub record WroteNothing : Type 0 where
    pub bytes : told new ≡ told old
    pub failures : failed new ≡ failed old
