-- What a change of the code's tables does to the members that they stand for.
use Rattle.study.proofs.Basics.{◌≡◌, ℕ, zero, suc, ◌<◌, ◌≤◌, List, [], ◌∷◌, length, get_or, set, BTreeMap, Result, Ok, IfOk, MatchResult, String, Global, Ordering, Less, string_bytes, refl, sym, ap, ◌∙◌, arith, Err, ◌-◌, ◌++◌, ◌+◌, drop, match_ordering, AllZip, drop_more, Data, Items, no_items, item, table, array, Members, get_member, view, members_view, items_view, table_view, Value, put, every, PlaceError}
use Rattle.{std.specs.{BTreeMap.{insert_entry}, String.{string_cmp}}, std.proofs.Math.ListN.{drop_of_length-le}}
use Rattle.toml.proofs.Views.{Entry, get_item_within, get_item_past, view-Table}
use Rattle.study.specs.Placed.{put_item, put_in_each, put_in_all, set_in_file, items_of, table_of, table_there, element_of, then}
use Rattle.study.specs.declared.error.PlaceError.TheVariants as error

by_order : (o : Ordering) (a b c : List Entry)
    → members_view (match_ordering o a b c) ≡ match_ordering o (members_view a) (members_view b) (members_view c)
by_order Less a b c = refl
by_order _ a b c = refl

-- an insert into a map
pub inserted : (es : List Entry) (k : String Global) (v : Value)
    → members_view (insert_entry string_cmp es k v) ≡ put (string_bytes k) (view v) (members_view es)
inserted [] k v = refl
inserted (e ∷ es) k v = by_order (string_cmp k e.0) _ _ _ ∙ rw (inserted es k v)

-- a write into an array
pub written : (vs : List Value) (i : ℕ) (v : Value) → items_view (set vs i v) ≡ put_item i (view v) (items_view vs)
written [] i v = refl
written (w ∷ vs) zero v = refl
written (w ∷ vs) (suc i) v = ap (item (view w)) (written vs i v)

-- entries that are clones of others
pub cloned : (es fs : List Entry) → AllZip (λ p q. (string_bytes q.0 ≡ string_bytes p.0) × (view q.1 ≡ view p.1)) es fs
    → members_view fs ≡ members_view es
cloned [] [] all = refl
cloned [] (f ∷ fs) all = absurd all
cloned (e ∷ es) [] all = absurd all
cloned (e ∷ es) (f ∷ fs) all = rw (all.0.0, all.0.1, cloned es fs all.1)

pub element_zero : (ds : Items) (place : ℕ) → place ≡ 0 → element_of place ds ≡ Err error.NoElement
element_zero ds zero e = refl
element_zero ds (suc i) e = absurd (omega arith)

pub element_past : (vs : List Value) (place : ℕ) → length vs < place → element_of place (items_view vs) ≡ Err error.NoElement
element_past vs zero past = refl
element_past vs (suc i) past = ap table_there (sym (get_item_past vs i (omega arith)))

pub element_at : (vs : List Value) (place : ℕ) (v : Value) → 1 ≤ place → place ≤ length vs → v ≡ get_or vs (place - 1) v
    → element_of place (items_view vs) ≡ table_of (view v)
element_at vs zero v low high is = absurd (omega arith)
element_at vs (suc i) v low high is =
    let same : suc i - 1 ≡ i = omega arith in
    ap table_there (sym (get_item_within vs i v (omega arith)))
    ∙ ap (λ w. table_of (view w)) (sym (is ∙ ap (λ k. get_or vs k v) same))

-- a table at a place of an array, and one that is written there
pub ruleset elements = (element_zero, element_past, element_at)

pub ruleset writing = (written, view-Table)

-- a clone of a map
pub on_clone : {E : Type 0} (m : BTreeMap (String Global) Value) (r : Result (BTreeMap (String Global) Value) E) (N : E → Type 0)
    → MatchResult r (λ n. AllZip (λ p q. (string_bytes q.0 ≡ string_bytes p.0) × (view q.1 ≡ view p.1)) m.entries n.entries) N
    → IfOk r (λ t. table_view t ≡ table_view m)
on_clone m (Ok n) N all = cloned m.entries n.entries all
on_clone m (Err e) N all = tt

-- ---- every table of an array

abbrev pub prepend : List Value → Items → Items
prepend [] es = es
prepend (v ∷ vs) es = item (view v) (prepend vs es)

prepend_push : (vs : List Value) (v : Value) (es : Items) → prepend (vs ++ (v ∷ [])) es ≡ prepend vs (item (view v) es)
prepend_push [] v es = refl
prepend_push (w ∷ vs) v es = ap (item (view w)) (prepend_push vs v es)

prepend_all : (vs : List Value) → prepend vs no_items ≡ items_view vs
prepend_all [] = refl
prepend_all (v ∷ vs) = ap (item (view v)) (prepend_all vs)

-- what is done of some items, and what is left of them
abbrev pub after : List Value → Result Items PlaceError → Result Items PlaceError
after done r = then r (λ es. Ok (prepend done es))

module _ (k : List ℕ) (d : Data) where
  each_from : (vs : List Value) (i : ℕ) (v : Value) → i < length vs → v ≡ get_or vs i v
      → put_in_each k d (items_view (drop i vs)) ≡ put_in_each k d (item (view v) (items_view (drop (i + 1) vs)))
  each_from vs i v within is =
      ap (λ rest. put_in_each k d (items_view rest)) (drop_more vs i v within)
      ∙ ap (λ w. put_in_each k d (item (view w) (items_view (drop (i + 1) vs)))) (sym is)

  shift : (r : Result Items PlaceError) (done : List Value) (w : Value) (e : Data) → view w ≡ e
      → after (done ++ (w ∷ [])) r ≡ after done (then r (λ es. Ok (item e es)))
  shift (Ok es) done w e same = ap Ok (prepend_push done w es ∙ ap (λ x. prepend done (item x es)) same)
  shift (Err f) done w e same = refl

  pub put_more : (vs : List Value) (i : ℕ) (v : Value) (done : List Value) (w : Value) (ms : Members)
      (all : Result Items PlaceError)
      → i < length vs → v ≡ get_or vs i v → table_of (view v) ≡ Ok ms → view w ≡ table (put k d ms)
      → after done (put_in_each k d (items_view (drop i vs))) ≡ all
      → after (done ++ (w ∷ [])) (put_in_each k d (items_view (drop (i + 1) vs))) ≡ all
  put_more vs i v done w ms all within is there changed so_far =
      let rest : Result Items PlaceError = put_in_each k d (items_view (drop (i + 1) vs)) in
      shift rest done w (table (put k d ms)) changed
      ∙ (ap (λ r. after done (then r (λ n. then rest (λ es. Ok (item (table (put k d n)) es))))) (sym there)
      ∙ (ap (after done) (sym (each_from vs i v within is)) ∙ so_far))

  pub put_fails : (vs : List Value) (i : ℕ) (v : Value) (done : List Value) (e : PlaceError) (all : Result Items PlaceError)
      → i < length vs → v ≡ get_or vs i v → table_of (view v) ≡ Err e
      → after done (put_in_each k d (items_view (drop i vs))) ≡ all → all ≡ Err e
  put_fails vs i v done e all within is none so_far =
      sym so_far ∙ (ap (after done) (each_from vs i v within is) ∙ rw none)

  pub put_all : (vs : List Value) (i : ℕ) (done : List Value) (all : Result Items PlaceError) → length vs ≤ i
      → after done (put_in_each k d (items_view (drop i vs))) ≡ all → all ≡ Ok (items_view done)
  put_all vs i done all past so_far =
      sym so_far ∙ (ap (λ rest. after done (put_in_each k d (items_view rest))) (drop_of_length-le vs past)
      ∙ ap Ok (prepend_all done))

  pub some_in_all : (vs : List Value) → 1 ≤ length vs → put_in_all k d (items_view vs) ≡ put_in_each k d (items_view vs)
  some_in_all [] some = absurd (omega arith)
  some_in_all (v ∷ vs) some = refl

pub every_set : (k a : List ℕ) (d : Data) (t new : Members) (vs done : List Value)
    → items_of (get_member a t) ≡ Ok (items_view vs) → 1 ≤ length vs
    → put_in_each k d (items_view vs) ≡ Ok (items_view done) → new ≡ put a (array (items_view done)) t
    → set_in_file (every a k) d t ≡ Ok new
every_set k a d t new vs done there some each is =
    ap (λ r. then r (λ ds. then (put_in_all k d ds) (λ es. Ok (put a (array es) t)))) there
    ∙ (ap (λ r. then r (λ es. Ok (put a (array es) t))) (some_in_all k d vs some ∙ each) ∙ ap Ok (sym is))
