-- The tables, and the integers, among some values.
use Rattle.scenario.proofs.Words.{◌≡◌, ◌∙◌, ◌++◌, ◌<◌, ◌+◌, ℕ, List, [], ◌∷◌, length, get_or, take, Some, None, Option, ap, sym, refl, cons_option, filter_map, append-nil, take_more, filter_map-append, Data, integer, table, Items, item, as_table, as_integer, view, items_view, Value, the_tables, the_integers}

pub tables_of : (vs : List Value) → the_tables (items_view vs) ≡ filter_map (λ v. as_table (view v)) vs
tables_of [] = refl
tables_of (v ∷ vs) = first (view v) (items_view vs) ∙ ap (cons_option (as_table (view v))) (tables_of vs)
  where
    first : (d : Data) (ds : Items) → the_tables (item d ds) ≡ cons_option (as_table d) (the_tables ds)
    first (table ms) ds = refl
    first _ ds = refl

pub integers_of : (vs : List Value) → the_integers (items_view vs) ≡ filter_map (λ v. as_integer (view v)) vs
integers_of [] = refl
integers_of (v ∷ vs) = first (view v) (items_view vs) ∙ ap (cons_option (as_integer (view v))) (integers_of vs)
  where
    first : (d : Data) (ds : Items) → the_integers (item d ds) ≡ cons_option (as_integer d) (the_integers ds)
    first (integer z) ds = refl
    first _ ds = refl

module _ {Y : Type 0} (f : Value → Option Y) (vs : List Value) (i : ℕ) (v : Value) (low : i < length vs) (is : v ≡ get_or vs i v) where
  cut : filter_map f (take (i + 1) vs) ≡ filter_map f (take i vs) ++ cons_option (f v) []
  cut = ap (filter_map f) (take_more vs i v low) ∙ (filter_map-append f (take i vs) (get_or vs i v ∷ []) ∙ ap (λ w. filter_map f (take i vs) ++ cons_option (f w) []) (sym is))

  -- one value more is one of the kind, or isn't
  pub one_there : (y : Y) → Some y ≡ f v → filter_map f (take (i + 1) vs) ≡ filter_map f (take i vs) ++ y ∷ []
  one_there y e = cut ∙ ap (λ o. filter_map f (take i vs) ++ cons_option o []) (sym e)

  pub none_there : None ≡ f v → filter_map f (take (i + 1) vs) ≡ filter_map f (take i vs)
  none_there e = cut ∙ (ap (λ o. filter_map f (take i vs) ++ cons_option o []) (sym e) ∙ append-nil (filter_map f (take i vs)))
