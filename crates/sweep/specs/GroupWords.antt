-- Which words say which groups of pairs.
use Rattle.std.specs.{Prelude.{◌≡◌, ℕ, nat_le, nat_lt, not, ◌&&◌, Bool, List, ◌++◌, ◌∷◌, map, string_bytes, Option, Some, None, Result, Ok, Err, if◌then◌else◌}, List.{All}, Option.{option_and_then}, Result.{IsOk}}
use Rattle.{study.specs.Words.{Word, has, before, after, between, is_natural, natural, bounds}, sweep.specs.declared.{error.GroupError.{GroupError}, group.{PairBlock.{PairBlock}, PairGroup.{PairGroup}, Processes.{Processes}}}}
use Rattle.sweep.specs.declared.error.GroupError.TheVariants as error

-- the numbers that a side of a block says: A and B of A..=B, or both A
abbrev pub ends_between : Word × Word → Option (ℕ × ℕ)
ends_between ends = if is_natural ends.0 && is_natural ends.1 then Some (natural ends.0, natural ends.1) else None

abbrev pub ends_said : Word → Option (ℕ × ℕ)
ends_said w = if is_natural w then Some (natural w, natural w) else option_and_then ends_between (bounds w)

-- a run has processes 1 to 256 at most
abbrev pub is_process : ℕ → Bool
is_process p = nat_le 1 p && nat_le p 256

-- the processes from one number to another, or why these are none
abbrev pub processes_between : Option (ℕ × ℕ) → Result Processes GroupError
processes_between None = Err error.NoGroup
processes_between (Some (first, last)) = if not (is_process first && is_process last) then Err error.NoProcess
    else if nat_lt last first then Err error.EmptyRange
    else Ok (record { first = first; last = last })

abbrev pub side_said : Word → Result Processes GroupError
side_said w = processes_between (ends_said w)

-- a block of two sides; what is wrong with its observers is told first
abbrev pub block_of : Result Processes GroupError → Result Processes GroupError → Result PairBlock GroupError
block_of (Err e) subjects = Err e
block_of (Ok observers) (Err e) = Err e
block_of (Ok observers) (Ok subjects) = Ok (record { observers = observers; subjects = subjects })

-- the block that OBSERVERS:SUBJECTS says
abbrev pub block_said : Word → Result PairBlock GroupError
block_said w = if has 58 w then block_of (side_said (before 58 w)) (side_said (after 58 w)) else Err error.NoGroup

-- the words say these blocks
abbrev pub SayBlocks : (words : List Word) → List PairBlock → Type 0
SayBlocks words blocks = map block_said words ≡ map Ok blocks

-- the first of the words that says no block, and why it doesn't
pub record SayNoBlocks (words : List Word) (e : GroupError) : Type 0 where
  pub before : List Word
  pub word : Word
  pub after : List Word
  pub words_are : words ≡ before ++ word ∷ after
  pub said : All (λ w. IsOk (block_said w)) before
  pub fault : block_said word ≡ Err e

-- the word says the group: each part between two + says one of its blocks
pub record SaysGroup (word : Word) (group : PairGroup) : Type 0 where
  pub word_is : string_bytes group.word ≡ word
  pub blocks : SayBlocks (between 43 word) group.blocks.items

-- why it says none
abbrev pub SaysNoGroup : Word → GroupError → Type 0
SaysNoGroup word e = SayNoBlocks (between 43 word) e
