-- The processes that a network names and a run doesn't have.
use Rattle.std.specs.{Prelude.{◌≡◌, ℕ, zero, suc, ◌-◌, ◌&&◌, nat_lt, List, [], ◌∷◌, ◌++◌, map, take, slice_get, codes, Option, Some, None}, List.{All, find}}
use Rattle.std.specs.FinSet as set
use Rattle.network.specs.{Refusals.{all_processes}, declared.{field.TableKind.{TableKind, TheVariants.{Links, Bursts, Cuts, Pauses, Replays}}, group.{Group.{Group}, LinkSet.{LinkSet}}, network.{Cut.{Cut}, Pause.{Pause}, Network.{Network}}}}
use Rattle.network.specs.declared.group.Group.TheVariants as group

-- the one of this number, from 1
abbrev pub numbered : {T : Type 0} → ℕ → List T → Option T
numbered zero items = None
numbered (suc i) items = slice_get items i

-- a group that a table names, with its key
pub record Named : Type 0 where
  pub key : List ℕ
  pub group : Group

abbrev pub named : List ℕ → Group → Named
named key its = record { key = key; group = its }

abbrev pub link_groups : LinkSet → List Named
link_groups links = named (codes "from") links.from ∷ named (codes "to") links.to ∷ []

abbrev pub cut_groups : Cut → List Named
cut_groups its = named (codes "between") its.one ∷ named (codes "between") its.other ∷ []

abbrev pub pause_groups : Pause → List Named
pause_groups its = named (codes "processes") its.processes ∷ []

-- the groups of the tables of a kind
abbrev pub groups_of : Network → TableKind → List (List Named)
groups_of its Links = map (λ t. link_groups t.links) its.links.items
groups_of its Bursts = map (λ t. link_groups t.links) its.bursts.items
groups_of its Cuts = map cut_groups its.cuts.items
groups_of its Pauses = map pause_groups its.pauses.items
groups_of its Replays = map (λ t. link_groups t.links) its.replays.items

-- the least member of a group above n; all processes are those of the run
abbrev pub member_above : (n : ℕ) → Group → Option ℕ
member_above n group.All = None
member_above n (group.Members s) = find (λ p. nat_lt n p && set.contains s p) all_processes

-- no group of a table has one
abbrev pub AreAllWithin : (n : ℕ) → List Named → Type 0
AreAllWithin n groups = All (λ (g : Named). member_above n g.group ≡ None) groups

-- no group of some tables has one
abbrev pub AreWithin : (n : ℕ) → List (List Named) → Type 0
AreWithin n tables = All (AreAllWithin n) tables

-- the first group of a table that has a member above n has this key and this member
pub record HasKeyAbove (n : ℕ) (groups : List Named) (key : List ℕ) (process : ℕ) : Type 0 where
  pub before : List Named
  pub group : Group
  pub rest : List Named
  pub there : groups ≡ before ++ named key group ∷ rest
  pub within : AreAllWithin n before
  pub above : member_above n group ≡ Some process

-- the table of this number is the first that has such a group
pub record HasAbove (n : ℕ) (tables : List (List Named)) (number : ℕ) (key : List ℕ) (process : ℕ) : Type 0 where
  pub groups : List Named
  pub there : numbered number tables ≡ Some groups
  pub within : AreWithin n (take (number - 1) tables)
  pub is : HasKeyAbove n groups key process

-- the kinds whose tables are looked at before those of a kind
abbrev pub earlier : TableKind → List TableKind
earlier Links = []
earlier Bursts = Links ∷ []
earlier Cuts = Links ∷ Bursts ∷ []
earlier Pauses = Links ∷ Bursts ∷ Cuts ∷ []
earlier Replays = Links ∷ Bursts ∷ Cuts ∷ Pauses ∷ []
