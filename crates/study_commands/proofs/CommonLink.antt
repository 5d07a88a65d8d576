-- Links of pairs' own, as they are looked for.
use Rattle.study_commands.proofs.Words.{◌≡◌, ◌∙◌, ap, sym, refl, ℕ, suc, ◌+◌, ◌-◌, ◌<◌, ◌≤◌, ◌==◌, ◌&&◌, ◌||◌, Bool, true, false, not, cond, List, [], ◌∷◌, map, filter, arith, Option, Some, None, if◌then◌else◌, cons_option, filter_map, list_any, range_with_len, option_and_then, option_map, option_map_or, pair_of, same_pair, ends_from, is_no_end, pair_in, tables_in, goes_by_link, sends_by_link, Data, Items, Members, as_array, as_table, get_member, items_view, view, Value}
use Rattle.{scenario.proofs.Among.{tables_of}, scenario.specs.Table.{all_items, is_of, is_table, tables_at, the_tables}}
use Rattle.scenario.specs.declared.field.Kind.TheVariants as kind

-- the tables of `links`, by what stands there
pub tables_there : (key : List ℕ) (t : Members) (d : Data) → Some d ≡ get_member key t → tables_in d ≡ tables_at key t
unfolding tables_at
tables_there key t d is = ap (λ o. option_map_or among (option_and_then as_array o) []) is
  where
    among : Items → List Members
    among ds = if all_items is_table ds then the_tables ds else []

pub tables_nowhere : (key : List ℕ) (t : Members) → None ≡ get_member key t → [] ≡ tables_at key t
unfolding tables_at
tables_nowhere key t is = ap (λ o. option_map_or among (option_and_then as_array o) []) is
  where
    among : Items → List Members
    among ds = if all_items is_table ds then the_tables ds else []

-- a value is an array of tables, or none
pub no_tables : (d : Data) → is_of kind.Tables d ≡ false → [] ≡ tables_in d
no_tables d is = by (as_array d) is
  where
    by : (o : Option Items) → option_map_or (all_items is_table) o false ≡ false
        → [] ≡ option_map_or (λ ds. if all_items is_table ds then the_tables ds else []) o []
    by None none = refl
    by (Some ds) none = sym (ap (λ b. cond b (the_tables ds) []) none)

pub no_array : (d : Data) → None ≡ as_array d → [] ≡ tables_in d
no_array d is = ap (λ o. option_map_or (λ ds. if all_items is_table ds then the_tables ds else []) o []) is

pub all_tables : (d : Data) (ds : Items) → Some ds ≡ as_array d → is_of kind.Tables d ≡ true → the_tables ds ≡ tables_in d
all_tables d ds there is =
    let all : all_items is_table ds ≡ true = ap (λ o. option_map_or (all_items is_table) o false) there ∙ is in
    sym (ap (λ b. cond b (the_tables ds) []) all)
    ∙ ap (λ o. option_map_or (λ ds. if all_items is_table ds then the_tables ds else []) o []) there

-- what is found and then changed
map_found : {X Y Z : Type 0} (f : Y → Z) (h : X → Option Y) (xs : List X)
    → map f (filter_map h xs) ≡ filter_map (λ x. option_map f (h x)) xs
map_found f h [] = refl
map_found {X} {Y} {Z} f h (x ∷ xs) = one (h x) ∙ ap (cons_option (option_map f (h x))) (map_found f h xs)
  where
    one : (o : Option Y) → map f (cons_option o (filter_map h xs)) ≡ cons_option (option_map f o) (map f (filter_map h xs))
    one None = refl
    one (Some y) = refl

pub pairs_are : (vs : List Value) → filter_map (λ v. pair_in (view v)) vs ≡ map pair_of (the_tables (items_view vs))
pairs_are vs = sym (ap (map pair_of) (tables_of vs) ∙ map_found pair_of (λ v. as_table (view v)) vs)

-- a pair is among those that have links of their own: its second process is an end of these
one_end : (from to : ℕ) (linked : List (ℕ × ℕ))
    → list_any (λ end. end == to) (ends_from linked from) ≡ list_any (λ pair. same_pair pair (from, to)) linked
one_end from to [] = refl
one_end from to (pair ∷ linked) =
    by (pair.0 == from) ∙ ap (λ b. (pair.0 == from && pair.1 == to) || b) (one_end from to linked)
  where
    rest : List (ℕ × ℕ)
    rest = filter (λ p. p.0 == from) linked

    by : (b : Bool) → list_any (λ end. end == to) (map (λ p. p.1) (cond b (pair ∷ rest) rest))
        ≡ ((b && pair.1 == to) || list_any (λ end. end == to) (ends_from linked from))
    by true = refl
    by false = refl

any_same : {X : Type 0} (p q : X → Bool) (xs : List X) → ((x : X) → p x ≡ q x) → list_any p xs ≡ list_any q xs
any_same p q [] same = refl
any_same p q (x ∷ xs) same = ap (λ b. b || list_any p xs) (same x) ∙ ap (λ b. q x || b) (any_same p q xs same)

pub sends_where : (linked : List (ℕ × ℕ)) (processes from : ℕ) → list_any (is_no_end (ends_from linked from) from) (range_with_len 1 processes)
    ≡ sends_by_link linked processes from
sends_where linked processes from =
    any_same (is_no_end (ends_from linked from) from) (goes_by_link linked from) (range_with_len 1 processes)
    (λ to. ap (λ b. not (from == to) && not b) (one_end from to linked))

-- one of a range passes a test, or none does
module _ (test : ℕ → Bool) (n at : ℕ) (before : list_any test (range_with_len 1 n) ≡ list_any test (range_with_len at (n + 1 - at))) where
  split : (left : ℕ) → n + 1 - at ≡ suc left → list_any test (range_with_len 1 n) ≡ (test at || list_any test (range_with_len (at + 1) left))
  split left is = before ∙ ap (λ m. list_any test (range_with_len at m)) is

  pub one_passes : at < n + 1 → test at ≡ true → true ≡ list_any test (range_with_len 1 n)
  one_passes low holds =
      sym (split (n - at) (omega (arith, low)) ∙ ap (λ b. b || list_any test (range_with_len (at + 1) (n - at))) holds)

  pub one_fails : at < n + 1 → test at ≡ false
      → list_any test (range_with_len 1 n) ≡ list_any test (range_with_len (at + 1) (n + 1 - (at + 1)))
  one_fails low fails =
      let left : n - at ≡ n + 1 - (at + 1) = omega (arith, low) in
      split (n - at) (omega (arith, low)) ∙ ap (λ b. b || list_any test (range_with_len (at + 1) (n - at))) fails
      ∙ ap (λ m. list_any test (range_with_len (at + 1) m)) left

  pub none_passes : n + 1 ≤ at → false ≡ list_any test (range_with_len 1 n)
  none_passes past =
      let none : n + 1 - at ≡ 0 = omega (arith, past) in
      sym (before ∙ ap (λ m. list_any test (range_with_len at m)) none)
