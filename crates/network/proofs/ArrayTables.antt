-- The tables of an array of tables.
use Rattle.network.proofs.Basics.{◌≡◌, ℕ, zero, suc, ◌<◌, ◌+◌, ◌++◌, Bool, true, false, if◌then◌else◌, List, [], ◌∷◌, length, get_or, map, slice_get, Some, None, option_and_then, refl, ap, sym, ◌∙◌, add-one, AllZip, length-map, get_or-map, slice_get-get_or, Data, Items, Members, no_items, item, table, array, as_array, as_table, get_item, get_member, view, items_view, Value, get_item_within, numbered, count, items_in}
use Rattle.scenario.specs.Table.{all_items, array_in, is_of, is_table, tables_at, the_tables}
use Rattle.scenario.specs.declared.field.Kind.TheVariants as kind
use Rattle.scenario.proofs.Items.{count_view}

-- the tables of an array that is there, and of none
tables_at-array : (key : List ℕ) (t : Members) (ds : Items) (b : Bool) → array_in key t ≡ Some ds
    → b ≡ all_items is_table ds → tables_at key t ≡ (if b then the_tables ds else [])
unfolding tables_at
tables_at-array key t ds b found e = rw (found, e) refl

tables_at-none : (key : List ℕ) (t : Members) → array_in key t ≡ None → tables_at key t ≡ []
unfolding tables_at
tables_at-none key t found = rw found refl

items_counted : (ds : Items) → all_items is_table ds ≡ true → length (the_tables ds) ≡ count ds
items_counted no_items e = refl
items_counted (item (table ms) ds) e = ap suc (items_counted ds e)
items_counted _ e = cc

pub counted : (vs : List Value) → all_items is_table (items_view vs) ≡ true → length (the_tables (items_view vs)) ≡ length vs
counted vs are = items_counted (items_view vs) are ∙ count_view vs

item_at : (ds : Items) (i : ℕ) (m : Members) → all_items is_table ds ≡ true → option_and_then as_table (get_item i ds) ≡ Some m
    → slice_get (the_tables ds) i ≡ Some m
item_at no_items i m e g = cc
item_at (item (table ms) ds) zero m e g = g
item_at (item (table ms) ds) (suc i) m e g = item_at ds i m e g
item_at _ i m e g = cc

-- the table at a place, by its number
pub table_numbered : (vs : List Value) (i : ℕ) (v : Value) (m : Members) → all_items is_table (items_view vs) ≡ true → i < length vs
    → v ≡ get_or vs i v → Some m ≡ as_table (view v) → numbered (i + 1) (the_tables (items_view vs)) ≡ Some m
table_numbered vs i v m are low is its =
    rw add-one
    (item_at (items_view vs) i m are
    (ap (option_and_then as_table) (sym (get_item_within vs i v low)) ∙ (ap (λ x. as_table (view x)) (sym is) ∙ sym its)))

-- the one of this number of what a list is made into
pub numbered_image : {X Y : Type 0} (f : X → Y) (xs : List X) (i : ℕ) (x : X) → i < length xs → x ≡ get_or xs i x
    → slice_get (map f xs) i ≡ Some (f x)
numbered_image f xs i x low is =
    slice_get-get_or (map f xs) i (f x) (simp length-map low) ∙ ap Some (get_or-map f xs i x (f x) low ∙ ap f (sym is))

-- what a file has at a key whose value is an array of tables, or another value
module _ (key : List ℕ) (file : Members) (d : Data) (there : get_member key file ≡ Some d) where
  pub tables_there : is_of kind.Tables d ≡ true → tables_at key file ≡ the_tables (items_in d)
  tables_there are = of_array d there are
    where
      of_array : (d : Data) → get_member key file ≡ Some d → is_of kind.Tables d ≡ true → tables_at key file ≡ the_tables (items_in d)
      of_array (array ds) e are = tables_at-array key file ds true (ap (option_and_then as_array) e) (sym are)
      of_array _ e are = cc

  pub tables_missing : is_of kind.Tables d ≡ false → tables_at key file ≡ []
  tables_missing other = of_array d there other
    where
      of_array : (d : Data) → get_member key file ≡ Some d → is_of kind.Tables d ≡ false → tables_at key file ≡ []
      of_array (array ds) e other = tables_at-array key file ds false (ap (option_and_then as_array) e) (sym other)
      of_array _ e other = tables_at-none key file (ap (option_and_then as_array) e)

  pub are_items : is_of kind.Tables d ≡ true → all_items is_table (items_in d) ≡ true
  are_items are = of_array d are
    where
      of_array : (d : Data) → is_of kind.Tables d ≡ true → all_items is_table (items_in d) ≡ true
      of_array (array ds) are = are
      of_array _ are = cc

pub nothing_there : (key : List ℕ) (file : Members) → get_member key file ≡ None → tables_at key file ≡ []
nothing_there key file e = tables_at-none key file (ap (option_and_then as_array) e)

-- one more of two lists, place by place
pub AllZip-more : {A B : Type 0} (R : A → B → Type 0) (xs : List A) (ys : List B) (x : A) (y : B) → AllZip R xs ys → R x y → AllZip R (xs ++ x ∷ []) (ys ++ y ∷ [])
AllZip-more R [] [] x y zip one = (one, tt)
AllZip-more R (a ∷ rest) (b ∷ bs) x y zip one = (zip.0, AllZip-more R rest bs x y zip.1 one)
AllZip-more R _ _ x y zip one = absurd zip
