-- Arrays of tables, as the code changes them.
use Rattle.std.proofs.{Common.{◌≡◌, ◌≢◌, ℕ, suc, ◌+◌, ◌<◌, List, [], ◌∷◌, ◌++◌, append_assoc, map, filter, take, drop, length, get_or, codes, ◌==◌, Bool, true, false, not, cond, Option, Some, None, option_and_then, if◌then◌else◌, refl, sym, ◌∙◌, ap, arith}, lemmas.Simd.{map-map}}
use Rattle.study.proofs.Basics.{option_map_or, ne_eqb, drop_more, map-append, map_more, map_push, Data, array, table, Items, no_items, item, Members, get_member, as_array, as_table, Value, outage_table, with_outages, put, LinkOutage, listed, values_in, with_tables, with_rows, is_laid, StaysAsItIs, HasValues}
use Rattle.toml.specs.View.{view, items_of, items_view}
use Rattle.scenario.specs.Table.{all_items, is_table, the_tables, tables_at, is_of, is_mistyped}
use Rattle.scenario.specs.declared.field.Kind.TheVariants as kind
use Rattle.network.specs.declared.laid.LaidLink.{LaidLink}

-- an array's values, and back
pub values_listed : (vs : List Value) → listed (items_view vs) ≡ map view vs
values_listed [] = refl
values_listed (v ∷ vs) = ap (λ ds. view v ∷ ds) (values_listed vs)

pub items_of_values : (vs : List Value) → items_of (map view vs) ≡ items_view vs
items_of_values [] = refl
items_of_values (v ∷ vs) = rw (items_of_values vs) refl

-- what there is at the key
abbrev at_key : List ℕ → (List Data → List Data) → Members → Option Data → Members
at_key key change t found =
    option_map_or (λ d. if is_of kind.Tables d then put key (array (items_of (change (values_in d)))) t else t)
    found (put key (array (items_of (change []))) t)

module _ (key : List ℕ) (t : Members) where
  by_value : (change : List Data → List Data) (o : Option Data) → get_member key t ≡ o → with_tables key change t ≡ at_key key change t o
  unfolding with_tables
  by_value change o is = ap (at_key key change t) is

  pub nothing_there : get_member key t ≡ None → HasValues key [] t
  nothing_there is change = by_value change None is

  pub no_tables : (d : Data) → get_member key t ≡ Some d → is_of kind.Tables d ≡ false → StaysAsItIs key t
  no_tables d is other change =
      by_value change (Some d) is
      ∙ ap (λ b. if b then put key (array (items_of (change (values_in d)))) t else t) other

  pub tables_there : (d : Data) (vs : List Value) → get_member key t ≡ Some d → is_of kind.Tables d ≡ true
      → d ≡ array (items_view vs) → HasValues key (map view vs) t
  tables_there d vs is tables same change =
      by_value change (Some d) is
      ∙ (ap (λ b. if b then put key (array (items_of (change (values_in d)))) t else t) tables
      ∙ ap (λ ds. put key (array (items_of (change ds))) t) (ap values_in same ∙ values_listed vs))

-- ---- one value after the other

left_out : {X : Type 0} (b : Bool) (x : X) (xs : List X) → (if b then [] else x ∷ []) ++ xs ≡ cond (not b) (x ∷ xs) xs
left_out true x xs = refl
left_out false x xs = refl

module _ (i : ℕ) where
  pub other_more : (p : Data → Bool) (vs : List Value) (v : Value) (old new : List Data) → i < length vs → v ≡ get_or vs i v
      → new ≡ old ++ (if p (view v) then [] else view v ∷ [])
      → new ++ filter (λ d. not (p d)) (map view (drop (i + 1) vs)) ≡ old ++ filter (λ d. not (p d)) (map view (drop i vs))
  other_more p vs v old new within is pushed =
      let rest : List Value → List Data = λ xs. filter (λ d. not (p d)) (map view xs) in
      let next = drop (i + 1) vs in
      ap (λ ds. ds ++ rest next) pushed ∙ (append_assoc old (if p (view v) then [] else view v ∷ []) (rest next)
      ∙ ap (λ ds. old ++ ds) (left_out (p (view v)) (view v) (rest next)
      ∙ (ap (λ x. rest (x ∷ next)) is ∙ sym (ap rest (drop_more vs i v within)))))

  pub row_more : {R : Type 0} (said : R → Data) (rows : List R) (row : R) (old now new : List Value) (v : Value)
      → i < length rows → row ≡ get_or rows i row → view v ≡ said row → new ≡ now ++ (v ∷ [])
      → map view now ≡ map view old ++ map said (take i rows) → map view new ≡ map view old ++ map said (take (i + 1) rows)
  row_more said rows row old now new v within is says pushed so_far =
      ap (map view) pushed ∙ (map_push view now v ∙ (ap (λ ds. ds ++ (view v ∷ [])) so_far
      ∙ (append_assoc (map view old) (map said (take i rows)) (view v ∷ [])
      ∙ ap (λ ds. map view old ++ ds) (ap (λ d. map said (take i rows) ++ (d ∷ [])) (says ∙ ap said is)
      ∙ sym (map_more said rows i row within)))))

-- ---- what is laid

module _ (key : List ℕ) (laid : List LaidLink) (rows : List Data) (t : Members) where
  -- the tables, by whether there is nothing to lay
  with_rows_by : (b : Bool) → (length rows == 0) ≡ b
      → with_rows key laid rows t ≡ (if b then t else with_tables key (λ ds. filter (λ d. not (is_laid laid d)) ds ++ rows) t)
  unfolding with_rows
  with_rows_by b is = ap (λ c. if c then t else with_tables key (λ ds. filter (λ d. not (is_laid laid d)) ds ++ rows) t) is

  pub none_laid : (length rows == 0) ≡ true → t ≡ with_rows key laid rows t
  none_laid is = sym (with_rows_by true is)

  pub rows_stay : (length rows == 0) ≡ false → StaysAsItIs key t → t ≡ with_rows key laid rows t
  rows_stay is as_it_is = sym (with_rows_by false is ∙ as_it_is _)

  pub rows_laid : (old_values values : List Value) → (length rows == 0) ≡ false → HasValues key (map view old_values) t
      → map view values ≡ filter (λ d. not (is_laid laid d)) (map view old_values) ++ rows
      → put key (array (items_view values)) t ≡ with_rows key laid rows t
  rows_laid old_values values is has made =
      ap (λ ds. put key (array ds) t) (sym (items_of_values values) ∙ ap items_of made)
      ∙ sym (with_rows_by false is ∙ has _)

-- ---- what is drawn

-- the tables that are there, and then the drawn ones
abbrev drawn_after : List LinkOutage → List Data → List Data
drawn_after drawn ds = ds ++ map (λ o. table (outage_table o)) drawn

-- what stands in an array of tables is those tables
only_tables : (ds : Items) → all_items is_table ds ≡ true → listed ds ≡ map table (the_tables ds)
only_tables no_items all = refl
only_tables (item (table ms) ds) all = ap (λ es. table ms ∷ es) (only_tables ds all)
only_tables _ all = cc

-- drawn outages behind these tables, as values and as tables
same_values : (drawn : List LinkOutage) (ds : List Data) (ts : List Members) → ds ≡ map table ts
    → drawn_after drawn ds ≡ map table (ts ++ map outage_table drawn)
same_values drawn ds ts are =
    ap (λ es. drawn_after drawn es) are
    ∙ (ap (λ es. map table ts ++ es) (sym (map-map table outage_table drawn))
    ∙ sym (map-append table ts (map outage_table drawn)))

-- the tables of an array, where it is one of tables
abbrev tables_in : Items → List Members
tables_in ds = if all_items is_table ds then the_tables ds else []

-- the table with these tables at the key, and those of drawn outages behind them
abbrev put_behind : List ℕ → List LinkOutage → Members → List Members → Members
put_behind key drawn t ts = put key (array (items_of (map table (ts ++ map outage_table drawn)))) t

-- with drawn outages at the key, by what is there
abbrev drawn_at_key : List ℕ → List LinkOutage → Members → Option Data → Members
drawn_at_key key drawn t found =
    if option_map_or (λ d. not (is_of kind.Tables d)) found false then t
    else put_behind key drawn t (option_map_or tables_in (option_and_then as_array found) [])

module _ (key : List ℕ) (drawn : List LinkOutage) (t : Members) where
  puts_same : (ds : List Data) (ts : List Members) → ds ≡ map table ts
      → put key (array (items_of (drawn_after drawn ds))) t ≡ put_behind key drawn t ts
  puts_same ds ts are = ap (λ es. put key (array (items_of es)) t) (same_values drawn ds ts are)

  in_array : (ds : Items) (all : Bool) → all_items is_table ds ≡ all
      → (if all then put key (array (items_of (drawn_after drawn (listed ds)))) t else t)
      ≡ (if not all then t else put_behind key drawn t (if all then the_tables ds else []))
  in_array ds true is = puts_same (listed ds) (the_tables ds) (only_tables ds is)
  in_array ds false is = refl

  same_at_key : (found : Option Data) → at_key key (drawn_after drawn) t found ≡ drawn_at_key key drawn t found
  same_at_key None = puts_same [] [] refl
  same_at_key (Some (array ds)) = in_array ds (all_items is_table ds) refl
  same_at_key _ = refl

-- no link is laid, so that each table is another's
kept : (laid : Option Members) → not (option_map_or (λ t. false) laid false) ≡ true
kept None = refl
kept (Some t) = refl

others_all : (ds : List Data) → filter (λ d. not (is_laid [] d)) ds ≡ ds
others_all [] = refl
others_all (d ∷ ds) = rw (kept (as_table d), others_all ds) refl

-- drawn outages are there as tables behind those of the file
pub outages_laid : (drawn : List LinkOutage) (t : Members)
    → with_rows (codes "outage") [] (map (λ o. table (outage_table o)) drawn) t ≡ with_outages drawn t
unfolding with_rows with_tables with_outages is_mistyped tables_at
outages_laid [] t = refl
outages_laid (o ∷ os) t =
    let rows = map (λ o. table (outage_table o)) (o ∷ os) in
    let found : Option Data = get_member (codes "outage") t in
    let some : suc (length (map (λ o. table (outage_table o)) os)) ≢ 0 = omega arith in
    with_rows_by (codes "outage") [] rows t false (ne_eqb (length rows) 0 some)
    ∙ ((λ i. at_key (codes "outage") (λ ds. others_all ds i ++ rows) t found)
    ∙ same_at_key (codes "outage") (o ∷ os) t found)
