-- Which sets, entries and traces `==` takes for the same.
use Rattle.std.specs.{Prelude.{List, Bool, ◌&&◌, nat_eq}, Cmp.Lexicographic.{pointwise}, Ordering.{on, eq_of_both}}
use Rattle.std.specs.FinSet as set
use Rattle.process_api.specs.{Order.{EntryRecord}, Sets.{Processes}}
use Rattle.process_api.specs.contracts.action.NotePartialEq.TheImpl as note
use Rattle.process_api.specs.contracts.entry.KindPartialEq.TheImpl as kind
use Rattle.process_api.specs.contracts.key.KeyPartialEq.TheImpl as key

-- one set has no member that the other lacks
abbrev pub lacks_none : Processes → Processes → Bool
lacks_none s t = nat_eq (set.len (set.difference s t)) 0

-- nor the other one that it lacks
abbrev pub has_same : Processes → Processes → Bool
has_same s t = lacks_none s t && lacks_none t s

-- each part of an entry is the other's
abbrev pub is_same_entry : EntryRecord → EntryRecord → Bool
is_same_entry = eq_of_both (on (λ e. e.key) ((key.ghosts).eq))
    (eq_of_both (on (λ e. e.kind) ((kind.ghosts).eq))
    (eq_of_both (on (λ e. e.sent) nat_eq)
    (eq_of_both (on (λ e. e.lost) nat_eq) (on (λ e. e.notes) (pointwise ((note.ghosts).eq))))))

-- the entries are the same, one by one
abbrev pub are_same_entries : List EntryRecord → List EntryRecord → Bool
are_same_entries = pointwise is_same_entry
