-- Files and tables that are as they should be.
use Rattle.network.proofs.Basics.{◌≡◌, ◌≤◌, [], List, length, true, Result, Ok, Err, OnOk, Some, None, refl, sym, subst, arith, All, Data, Members, get_member, most_tables, items_in, key_of, AreTablesOf, IsTableOf, TableKind}
use Rattle.network.proofs.ArrayTables.{nothing_there, tables_there}
use Rattle.scenario.specs.Table.{is_of, the_tables, tables_at}
use Rattle.scenario.specs.declared.field.Kind.TheVariants as kind

no_tables : (k : TableKind) (ts : List Members) → ts ≡ [] → (length ts ≤ most_tables) × All (IsTableOf k) ts
no_tables k ts e =
    let none : All (IsTableOf k) [] = λ i d low. absurd (omega (arith, low)) in
    (rw e (omega arith), subst (All (IsTableOf k)) (sym e) none)

pub absent : (k : TableKind) (file : Members) → get_member (key_of k) file ≡ None → AreTablesOf k file
absent k file e =
    let none = no_tables k (tables_at (key_of k) file) (nothing_there (key_of k) file e) in
    record { shape = rw e refl; few = none.0; each = none.1 }

pub present : (k : TableKind) (file : Members) (d : Data) → get_member (key_of k) file ≡ Some d → is_of kind.Tables d ≡ true
    → length (the_tables (items_in d)) ≤ most_tables → All (IsTableOf k) (the_tables (items_in d)) → AreTablesOf k file
present k file d e are few each =
    let same = tables_there (key_of k) file d e are in
    record { shape = rw e are; few = rw same few; each = subst (All (IsTableOf k)) (sym same) each }

pub on_ok : {T E P Q : Type 0} (r : Result T E) → (P → Q) → OnOk r P → OnOk r Q
on_ok (Ok x) f p = f p
on_ok (Err e) f p = tt
