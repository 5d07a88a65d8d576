-- Sets of processes, and how they change.
use Rattle.std.specs.{Prelude.{◌≡◌, ℕ, ◌-◌, ◌<◌, true, not, ◌&&◌, nat_eq, nat_le, List, [], ◌∷◌, ◌++◌, map, filter}, Int.{bit_at}, Ordering.{nat_cmp}}
use Rattle.std.specs.FinSet as set
use Rattle.process_api.specs.{Place.{numbers_to, most_processes}, declared.action.Note.{Note}}
use Rattle.process_api.specs.declared.action.Note.TheVariants as note

-- a set of processes, by their numbers
abbrev pub Processes : Type 0
Processes = set.FinSet nat_cmp

-- the set with all of these
abbrev pub insert_all : Processes → List ℕ → Processes
insert_all s [] = s
insert_all s (q ∷ qs) = insert_all (set.insert s q) qs

-- of the set, those that are at most n
abbrev pub up_to : ℕ → Processes → Processes
up_to n s = set.retain s (λ q. nat_le q n)

-- a member is greater than n
abbrev pub HasAbove : ℕ → Processes → Type 0
HasAbove n s = (q : ℕ) × (n < q) × (set.contains s q ≡ true)

-- the set that a word of 64 bits says: of processes 1 to 64 those whose bit is set, where process q has bit q - 1
unfoldable pub of_word : ℕ → Processes
of_word word = insert_all set.empty (filter (λ q. nat_eq (bit_at word (q - 1)) 1) (numbers_to 64))

-- who is in a set and not in another, of 1 to n, in order
abbrev pub gone : ℕ → Processes → Processes → List ℕ
gone n from to = filter (λ q. set.contains from q && not (set.contains to q)) (numbers_to n)

-- the notes of a layer whose suspects change: a suspicion of each new one and then trust in each that left, in order
abbrev pub changes : (layer n : ℕ) → Processes → Processes → List Note
changes layer n old new = map (note.Suspect layer) (gone n new old) ++ map (note.Trust layer) (gone n old new)

-- the members of a set of processes, in rising order
unfoldable pub in_order : Processes → List ℕ
in_order s = filter (set.contains s) (numbers_to most_processes)
