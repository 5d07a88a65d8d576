-- What is kept by number, and a row of cells, one for each process, seen by process.
use Rattle.std.specs.{Prelude.{◌≡◌, ℕ, zero, suc, nat_eq, List, Option, None, Some, get_or, is_some, unwrap_or, if◌then◌else◌, ◌-◌, ◌<◌, length}, List.{slice_get}}
use Rattle.std.specs.FinSet as set
use Rattle.process_api.specs.Sets.{Processes}

-- of two of one number the first counts
abbrev pub keep_one : {X : Type 0} → (ℕ → Option X) → ℕ → X → ℕ → Option X
keep_one kept number x = λ k. if nat_eq k number then Some (unwrap_or (kept number) x) else kept k

-- the cell of a process, from 1. A cell past the end is empty
abbrev pub cell_of : {X : Type 0} → List (Option X) → ℕ → Option X
cell_of cells zero = None
cell_of cells (suc before) = get_or cells before None

-- the senders are those whose cell isn't empty
abbrev pub AreSenders : {X : Type 0} → Processes → List (Option X) → Type 0
AreSenders senders cells = (q : ℕ) → set.contains senders q ≡ is_some (cell_of cells q)

-- for each process its proposal, where that is known: process k has cell k, from 1
abbrev pub Vector : Type 0
Vector = List (Option ℕ)

-- a cell past the end is empty
abbrev pub cell : Vector → ℕ → Option ℕ
cell cells k = get_or cells (k - 1) None

-- some process's proposal is known
abbrev pub IsSomeKnown : Vector → Type 0
IsSomeKnown cells = (place value : ℕ) × (get_or cells place None ≡ Some value)

-- where there are cells, the last of them is filled
abbrev pub EndsFilled : Vector → Type 0
EndsFilled cells = 0 < length cells → (value : ℕ) × (slice_get cells (length cells - 1) ≡ Some (Some value))
