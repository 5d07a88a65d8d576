-- Tables of letters, seen by round and sender.
use Rattle.std.specs.{Prelude.{ℕ, Option, None, Some, nat_lt, if◌then◌else◌}, Ordering.{nat_cmp}, BTreeMap.{BTreeMap}}
use Rattle.std.specs.BTreeMap as tree
use Rattle.process_api.specs.{Rows.{cell_of}, declared.{letters.Letters.{Letters}, row.Row.{Row}}}

abbrev pub by_number : {X : Type 0} → BTreeMap ℕ X → ℕ → Option X
by_number m = λ round. tree.get nat_cmp m round

-- the letters of one round
abbrev pub of_sender : {X : Type 0} → Row X → ℕ → Option X
of_sender row = cell_of row.cells.items

-- of a round that has no row, no letter
abbrev pub in_row : {X : Type 0} → Option (Row X) → ℕ → Option X
in_row row = λ q. elim row [ None ↦ None | Some r ↦ of_sender r q ]

abbrev pub by_row : {X : Type 0} → (ℕ → Option (Row X)) → ℕ → ℕ → Option X
by_row rows = λ r q. in_row (rows r) q

abbrev pub by_sender : {X : Type 0} → Letters X → ℕ → ℕ → Option X
by_sender letters = by_row (by_number letters.rows)

abbrev pub no_letters : {X : Type 0} → ℕ → ℕ → Option X
no_letters = λ r q. None

-- of the rounds from this one on
abbrev pub since : {X : Type 0} → ℕ → (ℕ → ℕ → Option X) → ℕ → ℕ → Option X
since round kept = λ r q. if nat_lt r round then None else kept r q

abbrev pub since_round : {X : Type 0} → ℕ → (ℕ → Option X) → ℕ → Option X
since_round round kept = λ r. if nat_lt r round then None else kept r
