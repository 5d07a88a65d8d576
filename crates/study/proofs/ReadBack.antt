-- What is read of files in which a path was set.
use Rattle.study.proofs.Basics.{◌≡◌, ◌≢◌, ◌⊎◌, inl, inr, ℕ, zero, suc, List, Option, Some, None, Result, Ok, Err, Ordering, Equal, false, refl, sym, ap, ◌∙◌, subst, arith, option_and_then, nat_cmp, is_eq, Data, array, table, Items, no_items, item, Members, no_members, get_member, get_item, put, FilePath, top, inner, element, every, Path, scenario, network, SourcesRecord, PlaceError}
use Rattle.{std.specs.Cmp.Lexicographic.{slice_cmp}, std.proofs.lemmas.Map.Lookups.{exact_bytes}}
use Rattle.scenario.proofs.DrawnTables.{read_put, keep_put as kept_put}
use Rattle.study.specs.Placed.{put_item, put_in_each, put_in_all, set_in_file, set_at, with_scenario, with_network, network_there, items_of, table_of, table_or_new, table_there, element_of, then}
use Rattle.study.specs.{Reading.{in_table, at_place, in_array, value_in_file, IsReadInFile, first_key, AreBeside, AreApartInFile, value_at, AreApart, Sets, AreSet}, Inside.Private.{SetsInFile}}

-- ---- members

keep_put : (k l : List ℕ) (d : Data) (t : Members) → k ≢ l → get_member l (put k d t) ≡ get_member l t
keep_put k l d t other = kept_put k l d t (go (slice_cmp nat_cmp k l) refl)
  where
    go : (o : Ordering) → slice_cmp nat_cmp k l ≡ o → is_eq o ≡ false
    go Equal is = absurd (other (exact_bytes k l is))
    go _ is = refl

-- ---- items

read_item : (i : ℕ) (d e : Data) (ds : Items) → get_item i ds ≡ Some e → get_item i (put_item i d ds) ≡ Some d
read_item i d e no_items there = cc there
read_item zero d e (item f ds) there = refl
read_item (suc i) d e (item f ds) there = read_item i d e ds there

keep_item : (i j : ℕ) (d : Data) (ds : Items) → i ≢ j → get_item j (put_item i d ds) ≡ get_item j ds
keep_item i j d no_items other = refl
keep_item zero zero d (item e ds) other = absurd (other refl)
keep_item (suc i) (suc j) d (item e ds) other = keep_item i j d ds (λ h. other (ap suc h))
keep_item _ _ d (item e ds) other = refl

-- ---- what can be set

then_ok : {A B : Type 0} (r : Result A PlaceError) (f : A → Result B PlaceError) (b : B) → then r f ≡ Ok b
    → (a : A) × (r ≡ Ok a) × (f a ≡ Ok b)
then_ok (Ok a) f b is = (a, refl, is)
then_ok (Err e) f b is = absurd (cc is)

abbrev Same : {A : Type 0} → Result A PlaceError → Result A PlaceError → Type 0
Same r s = r ≡ s

ok_is : {A : Type 0} (a b : A) → Same (Ok a) (Ok b) → b ≡ a
ok_is a b is = cc is

-- a table's members, or none
table_is : (d : Data) (ms : Members) → table_of d ≡ Ok ms → d ≡ table ms
table_is (table ns) ms is = cc is
table_is _ ms is = cc is

new_table : (o : Option Data) (ms : Members) (l : List ℕ) → table_or_new o ≡ Ok ms → in_table l o ≡ get_member l ms
new_table None ms l is = ap (get_member l) (sym (ok_is no_members ms is))
new_table (Some d) ms l is = ap (λ x. in_table l (Some x)) (table_is d ms is)

array_is : (o : Option Data) (ds : Items) → items_of o ≡ Ok ds → o ≡ Some (array ds)
array_is (Some (array es)) ds is = cc is
array_is _ ds is = cc is

there_is : (o : Option Data) (ms : Members) → table_there o ≡ Ok ms → o ≡ Some (table ms)
there_is None ms is = cc is
there_is (Some d) ms is = ap Some (table_is d ms is)

-- ---- paths below a key of the top table

-- what is read at a path of what stands at its first key
abbrev below : FilePath → Option Data → Option Data
below (top k) o = o
below (inner name k) o = in_table k o
below (element name place k) o = in_table k (in_array place o)
below (every name k) o = None

value_below : (path : FilePath) (t : Members) → value_in_file path t ≡ below path (get_member (first_key path) t)
value_below (top k) t = refl
value_below _ t = refl

-- the value is what is read there at the path, or in every table of the array
abbrev Reads : FilePath → Data → Option Data → Type 0
Reads (every name k) d o = (place : ℕ) (there : Data) → in_array place o ≡ Some there → in_table k (in_array place o) ≡ Some d
Reads path d o = below path o ≡ Some d

read_below : (path : FilePath) (d : Data) (t : Members) → Reads path d (get_member (first_key path) t) → IsReadInFile path d t
read_below (every name k) d t read = read
read_below _ d t read = read

same_key : (path other : FilePath) → AreBeside path other → first_key path ≡ first_key other
same_key (inner name k) (inner other l) near = near.0
same_key (element name place k) (element other at l) near = near.0
same_key (every name k) (element other at l) near = near.0
same_key _ _ near = absurd near

-- a path is set by a value at its first key
module _ (path : FilePath) (d x : Data) (old : Members) (read : Reads path d (Some x))
    (beside : (other : FilePath) → AreBeside path other → below other (Some x) ≡ below other (get_member (first_key path) old)) where
  others : (other : FilePath) → AreApartInFile path other → value_in_file other (put (first_key path) x old) ≡ value_in_file other old
  others other (inl far) =
      value_below other (put (first_key path) x old)
      ∙ (ap (below other) (keep_put (first_key path) (first_key other) x old far) ∙ sym (value_below other old))
  others other (inr near) =
      let key = same_key path other near in
      value_below other (put (first_key path) x old)
      ∙ (ap (λ n. below other (get_member n (put (first_key path) x old))) (sym key)
      ∙ (ap (below other) (read_put (first_key path) x old)
      ∙ (beside other near ∙ (ap (λ n. below other (get_member n old)) key ∙ sym (value_below other old)))))

  by_first : (new : Members) → new ≡ put (first_key path) x old → SetsInFile path d old new
  by_first new is = subst (SetsInFile path d old) (sym is) (record {
    read = read_below path d (put (first_key path) x old) (subst (Reads path d) (sym (read_put (first_key path) x old)) read);
    others = others;
  })

top_set : (k : List ℕ) (d : Data) (old : Members) → SetsInFile (top k) d old (put k d old)
top_set k d old = by_first (top k) d d old refl beside (put k d old) refl
  where
    beside : (other : FilePath) → AreBeside (top k) other → below other (Some d) ≡ below other (get_member k old)
    beside (top l) apart = absurd apart
    beside _ apart = absurd apart

inner_set : (name k : List ℕ) (d : Data) (old new : Members) → set_in_file (inner name k) d old ≡ Ok new
    → SetsInFile (inner name k) d old new
inner_set name k d old new is =
    let found = then_ok (table_or_new (get_member name old)) _ new is in
    by_first (inner name k) d (table (put k d found.0)) old (read_put k d found.0) (beside found.0 found.1) new
    (ok_is _ new found.2)
  where
    beside : (ms : Members) → table_or_new (get_member name old) ≡ Ok ms → (other : FilePath) → AreBeside (inner name k) other
        → below other (Some (table (put k d ms))) ≡ below other (get_member name old)
    beside ms found (inner m l) apart = keep_put k l d ms apart.1 ∙ sym (new_table (get_member name old) ms l found)
    beside ms found _ apart = absurd apart

-- ---- one element

module _ (name : List ℕ) (i : ℕ) (k : List ℕ) (d : Data) (old : Members) (ds : Items) (ms : Members)
    (all : get_member name old ≡ Some (array ds)) (there : get_item i ds ≡ Some (table ms)) where
  element_kept : (at : ℕ) (l : List ℕ) → (suc i ≢ at) ⊎ ((suc i ≡ at) × (k ≢ l))
      → in_table l (at_place at (put_item i (table (put k d ms)) ds)) ≡ in_table l (at_place at ds)
  element_kept zero l apart = refl
  element_kept (suc j) l (inl apart) = ap (in_table l) (keep_item i j (table (put k d ms)) ds (λ h. apart (ap suc h)))
  element_kept (suc j) l (inr (here, other)) =
      let same : i ≡ j = cc here in
      let P : ℕ → Type 0 = λ n. in_table l (get_item n (put_item i (table (put k d ms)) ds)) ≡ in_table l (get_item n ds) in
      subst P same (ap (in_table l) (read_item i (table (put k d ms)) (table ms) ds there)
      ∙ (keep_put k l d ms other ∙ sym (ap (in_table l) there)))

  element_beside : (other : FilePath) → AreBeside (element name (suc i) k) other
      → below other (Some (array (put_item i (table (put k d ms)) ds))) ≡ below other (get_member name old)
  element_beside (element m at l) apart = element_kept at l apart.1 ∙ sym (ap (λ o. in_table l (in_array at o)) all)
  element_beside _ apart = absurd apart

  element_put : (new : Members) → new ≡ put name (array (put_item i (table (put k d ms)) ds)) old
      → SetsInFile (element name (suc i) k) d old new
  element_put = by_first (element name (suc i) k) d (array (put_item i (table (put k d ms)) ds)) old
      (ap (in_table k) (read_item i (table (put k d ms)) (table ms) ds there) ∙ read_put k d ms) element_beside

element_set : (name : List ℕ) (place : ℕ) (k : List ℕ) (d : Data) (old new : Members)
    → set_in_file (element name place k) d old ≡ Ok new → SetsInFile (element name place k) d old new
element_set name zero k d old new is = let found = then_ok (items_of (get_member name old)) _ new is in absurd (cc (found.2))
element_set name (suc i) k d old new is =
    let found = then_ok (items_of (get_member name old)) _ new is in
    let ds = found.0 in
    let one = then_ok (element_of (suc i) ds) _ new found.2 in
    element_put name i k d old ds one.0 (array_is (get_member name old) ds found.1) (there_is (get_item i ds) one.0 one.1) new
    (ok_is _ new one.2 ∙ ap (λ n. put name (array (put_item n (table (put k d one.0)) ds)) old) (omega arith))

-- ---- every element

module _ (k : List ℕ) (d : Data) where
  abbrev Each : Items → Items → Type 0
  Each ds es = (j : ℕ) → ((there : Data) → get_item j es ≡ Some there → in_table k (get_item j es) ≡ Some d)
      × ((l : List ℕ) → k ≢ l → in_table l (get_item j es) ≡ in_table l (get_item j ds))

  each_more : (e : Data) (ds fs : Items) (ms : Members) → e ≡ table ms → Each ds fs
      → Each (item e ds) (item (table (put k d ms)) fs)
  each_more e ds fs ms at later zero =
      ((λ there h. read_put k d ms), (λ l other. keep_put k l d ms other ∙ sym (ap (λ x. in_table l (Some x)) at)))
  each_more e ds fs ms at later (suc j) = later j

  each_set : (ds es : Items) → put_in_each k d ds ≡ Ok es → Each ds es
  each_set no_items es is =
      subst (Each no_items) (sym (ok_is no_items es is)) (λ j. ((λ there h. absurd (cc h)), (λ l other. refl)))
  each_set (item e ds) es is =
      let found = then_ok (table_of e) _ es is in
      let later = then_ok (put_in_each k d ds) _ es found.2 in
      subst (Each (item e ds)) (sym (ok_is _ es later.2))
      (each_more e ds later.0 found.0 (table_is e found.0 found.1) (each_set ds later.0 later.1))

  all_set : (ds es : Items) → put_in_all k d ds ≡ Ok es → Each ds es
  all_set no_items es is = absurd (cc is)
  all_set (item e ds) es is = each_set (item e ds) es is

every_set : (name k : List ℕ) (d : Data) (old new : Members) → set_in_file (every name k) d old ≡ Ok new
    → SetsInFile (every name k) d old new
every_set name k d old new is =
    let found = then_ok (items_of (get_member name old)) _ new is in
    let all = then_ok (put_in_all k d found.0) _ new found.2 in
    let each = all_set k d found.0 all.0 all.1 in
    by_first (every name k) d (array all.0) old (read all.0 (λ j. (each j).0))
    (beside found.0 all.0 (array_is (get_member name old) found.0 found.1) (λ j. (each j).1)) new (ok_is _ new all.2)
  where
    read : (es : Items) → ((j : ℕ) (there : Data) → get_item j es ≡ Some there → in_table k (get_item j es) ≡ Some d)
        → Reads (every name k) d (Some (array es))
    read es each zero there is = absurd (cc is)
    read es each (suc j) there is = each j there is

    kept : (ds es : Items) → ((j : ℕ) (l : List ℕ) → k ≢ l → in_table l (get_item j es) ≡ in_table l (get_item j ds))
        → (at : ℕ) (l : List ℕ) → k ≢ l → in_table l (at_place at es) ≡ in_table l (at_place at ds)
    kept ds es each zero l other = refl
    kept ds es each (suc j) l other = each j l other

    beside : (ds es : Items) → get_member name old ≡ Some (array ds)
        → ((j : ℕ) (l : List ℕ) → k ≢ l → in_table l (get_item j es) ≡ in_table l (get_item j ds))
        → (other : FilePath) → AreBeside (every name k) other → below other (Some (array es)) ≡ below other (get_member name old)
    beside ds es found each (element m at l) apart =
        kept ds es each at l apart.1 ∙ sym (ap (λ o. in_table l (in_array at o)) found)
    beside ds es found each _ apart = absurd apart

file_set : (path : FilePath) (d : Data) (old new : Members) → set_in_file path d old ≡ Ok new → SetsInFile path d old new
file_set (top k) d old new is = subst (SetsInFile (top k) d old) (sym (ok_is _ new is)) (top_set k d old)
file_set (inner name k) d old new is = inner_set name k d old new is
file_set (element name place k) d old new is = element_set name place k d old new is
file_set (every name k) d old new is = every_set name k d old new is

-- ---- in the files of a study

scenario_set : (p : FilePath) (d : Data) (old new : SourcesRecord) → set_at (scenario p) d old ≡ Ok new
    → Sets (scenario p) d old new
scenario_set p d old new is =
    let found = then_ok (set_in_file p d old.scenario) _ new is in
    let set = file_set p d old.scenario found.0 found.1 in
    subst (Sets (scenario p) d old) (sym (ok_is _ new found.2)) (record { read = set.read; others = kept set.others })
  where
    kept : {t : Members} → ((q : FilePath) → AreApartInFile p q → value_in_file q t ≡ value_in_file q old.scenario)
        → (other : Path) → AreApart (scenario p) other → value_at other (with_scenario old t) ≡ value_at other old
    kept others (scenario q) apart = others q apart
    kept others (network q) apart = refl

network_is : (o : Option Members) (n : Members) → network_there o ≡ Ok n → o ≡ Some n
network_is None n is = cc is
network_is (Some m) n is = ap Some (sym (ok_is m n is))

network_set : (p : FilePath) (d : Data) (old new : SourcesRecord) → set_at (network p) d old ≡ Ok new
    → Sets (network p) d old new
network_set p d old new is =
    let there = then_ok (network_there old.network) _ new is in
    let found = then_ok (set_in_file p d there.0) _ new there.2 in
    let set = file_set p d there.0 found.0 found.1 in
    subst (Sets (network p) d old) (sym (ok_is _ new found.2))
    (record { read = set.read; others = kept (network_is old.network there.0 there.1) set.others })
  where
    kept : {n t : Members} → old.network ≡ Some n
        → ((q : FilePath) → AreApartInFile p q → value_in_file q t ≡ value_in_file q n)
        → (other : Path) → AreApart (network p) other → value_at other (with_network old t) ≡ value_at other old
    kept there others (network q) apart = others q apart ∙ sym (ap (option_and_then (value_in_file q)) there)
    kept there others (scenario q) apart = refl

pub are_set : AreSet
are_set (scenario p) d old new is = scenario_set p d old new is
are_set (network p) d old new is = network_set p d old new is
