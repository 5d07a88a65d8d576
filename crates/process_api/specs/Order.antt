-- The order of keys, and of the entries of a trace. What a step leaves in the trace.
use Rattle.std.specs.{Prelude.{Bool, true, false, ◌&&◌, List, [], ◌∷◌, ℕ}, List.{list_all}, Ordering.{ordering_then, nat_cmp}, declared.cmp.Ordering.{Ordering, TheVariants.{Less, Equal, Greater}}}
use Rattle.process_api.specs.declared.{key.Key.{Key}, action.Note.{Note}, entry.Kind.{Kind}}

-- an entry, without where it lies in memory
pub record EntryRecord : Type 0 where
  pub key : Key
  pub kind : Kind
  pub sent : ℕ
  pub lost : ℕ
  pub notes : List Note

-- by tick, then receiver, then sender, then number
abbrev pub key_cmp : Key → Key → Ordering
key_cmp a b = ordering_then (nat_cmp a.tick b.tick)
    (ordering_then (nat_cmp a.receiver b.receiver)
    (ordering_then (nat_cmp a.sender b.sender) (nat_cmp a.number b.number)))

abbrev pub is_less : Ordering → Bool
is_less Less = true
is_less Equal = false
is_less Greater = false

-- the one key comes before the other
abbrev pub is_before : Key → Key → Bool
is_before a b = is_less (key_cmp a b)

-- keys rise strictly: each is before all that follow
abbrev pub is_rising : List EntryRecord → Bool
is_rising [] = true
is_rising (e ∷ later) = list_all (λ f. is_before e.key f.key) later && is_rising later
