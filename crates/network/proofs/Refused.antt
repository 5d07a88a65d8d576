-- A file that is refused is no network file.
use Rattle.network.proofs.Basics.{◌≡◌, ◌≢◌, ℕ, zero, suc, ◌<◌, List, length, get_or, Bool, true, false, not, Some, is_some, refl, ap, ◌∙◌, subst, arith, All, Contains, list_any, All-get_or, list_any_at, slice_get-get_or, slice_get_within, Members, keys_of, tables_at, numbered, Field, fault_at, fields_in, file_keys, has_fault, has_unlisted, is_listed, key_of, keys_in, HasFaultAt, HasOther, IsNetworkFile, IsTableOf, Refuses, TableKind}
use Rattle.network.specs.declared.refusal.{NetworkError.{NetworkError}, ValueFault.{ValueFault}}
use Rattle.network.specs.declared.refusal.NetworkError.TheVariants as error

-- a test that one of a list passes
any_contained : {X : Type 0} (p : X → Bool) (xs : List X) (x : X) → Contains xs x → p x ≡ true → list_any p xs ≡ true
any_contained p xs x there passes = list_any_at p xs there.0 x there.1 (ap p there.2 ∙ passes)

has_other : (keys : List (List ℕ)) (t : Members) (key : List ℕ) → HasOther keys t key → ¬ (has_unlisted keys t ≡ false)
unfolding has_unlisted
has_other keys t key has known =
    let some : list_any (λ k. not (is_listed keys k)) (keys_of t) ≡ true =
    any_contained (λ k. not (is_listed keys k)) (keys_of t) key has.there (ap not has.other) in
    cc

faulty : (fields : List Field) (t : Members) (key : List ℕ) (its : ValueFault) → HasFaultAt fields key its t → ¬ (has_fault fields t ≡ false)
unfolding has_fault
faulty fields t key its has good =
    let some : list_any (λ f. is_some (fault_at f t)) fields ≡ true =
    any_contained (λ f. is_some (fault_at f t)) fields has.field has.listed (ap is_some has.fault) in
    cc

-- a table of a network file, by its number
of_number : (ts : List Members) (k : TableKind) (number : ℕ) (t : Members) → numbered number ts ≡ Some t → All (IsTableOf k) ts → IsTableOf k t
of_number ts k zero t there all = cc
of_number ts k (suc i) t there all =
    let low : i < length ts = slice_get_within ts i t there in
    let same : get_or ts i t ≡ t = cc (slice_get-get_or ts i t low) in
    subst (IsTableOf k) same (All-get_or (IsTableOf k) ts i t low all)

pub no_file : (e : NetworkError) (file : Members) → e ≢ error.Memory → Refuses e file → ¬ IsNetworkFile file
no_file (error.UnknownTable key) file other refuses is = has_other file_keys file _ refuses is.known
no_file (error.NotTables k) file other refuses is = let e = (is.tables k).shape in cc
no_file (error.TooManyTables k) file other refuses is = omega (arith, refuses, (is.tables k).few)
no_file (error.UnknownKey k number key) file other refuses is =
    has_other (keys_in k) refuses.table _ refuses.is (of_number (tables_at (key_of k) file) k number refuses.table refuses.there (is.tables k).each).known
no_file (error.Value k number key its) file other refuses is =
    faulty (fields_in k) refuses.table key.now its refuses.is (of_number (tables_at (key_of k) file) k number refuses.table refuses.there (is.tables k).each).values
no_file (error.Table k number its) file other refuses is =
    let e = (of_number (tables_at (key_of k) file) k number refuses.table refuses.there (is.tables k).each).together in
    let f = refuses.is in
    cc
no_file error.Memory file other refuses is = other refl
