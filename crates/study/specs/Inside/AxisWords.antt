-- Which words say which axes, as private functions say it.
use Rattle.std.specs.{Prelude.{◌≡◌, ◌<◌, ◌+◌, ◌-◌, List, [], ◌∷◌, ◌++◌, map, length, None}, Global.{Vec}, List.{flat_map}}
use Rattle.study.specs.{Settings.{Given, settings_in}, Words.{integer}, declared.{range.{Range.{Range as RangeNumbers}, RangeWords.{RangeWords}}, setting.Setting.{Setting}, error.AxisError.{AxisError}}}
use Rattle.study.specs.AxisWords.{Adds, values, Piece, IsFault, RangeRecord, parts_fault, Entry, rows, fault_within, first_fault}

-- a range in the code, by its words and by its numbers
abbrev pub range_by : RangeWords → RangeRecord
range_by r = record { low = integer r.low.now; high = integer r.high.now; step = integer r.step.now }

abbrev pub range_of : RangeNumbers → RangeRecord
range_of r = record { low = r.low; high = r.high; step = r.step }

-- the values are those of parts that some words say
abbrev pub AreOfParts : List Piece → List Given → Type 0
AreOfParts ps got = (parts_fault ps ≡ None) × (got ≡ flat_map values ps)

-- the values are those of entries that some words say
abbrev pub AreOfEntries : List Entry → List (List Given) → Type 0
AreOfEntries es got = (first_fault 1000000 es ≡ None) × (got ≡ flat_map rows es)

-- the new values are the old ones, for which there was room, with this one after them
abbrev pub AddsValue : List Given → (old new : Vec (Vec Setting)) → Type 0
AddsValue row old new = (length (map settings_in old.items) < 1000000)
    × (map settings_in new.items ≡ map settings_in old.items ++ (row ∷ []))

-- the new values are the old ones with the entry's after them
abbrev pub AddsTo : Entry → (old new : Vec (Vec Setting)) → Type 0
AddsTo e old new = Adds (map settings_in old.items) (map settings_in new.items) e

-- the error says that memory was refused, or why the entry's values can't stand after these
abbrev pub CannotAdd : Entry → Vec (Vec Setting) → AxisError → Type 0
CannotAdd e old = IsFault (fault_within (1000000 - length (map settings_in old.items)) e)
