-- A file with drawn outages, beside the file.
use Rattle.scenario.proofs.Words.{◌≡◌, ℕ, List, [], ◌∷◌, map, Bool, true, false, not, ◌||◌, cond, Option, Some, None, is_some, refl, ap, sym, ◌∙◌, codes, or-false, not-false, not-true, list_any, option_map_or, append-nil, list_any-append, Data, array, table, Members, get_member, items_of, Field, tables_at, is_of, is_listed, has_unlisted, is_lacking, has_lacking, is_mistyped, has_mistyped, some_table, top_fields, outages_field, outage_fields, is_second, processes_of, outages_among, record_of, are_bad_outages, outages_refused, key_refusals, put, outage_table, all_outages, lacks_outages, with_outages, LinkOutage}
use Rattle.scenario.proofs.{Alike.{is_other, inner, tables, second, processes, record_alike}, Within.{neither}}
use Rattle.scenario.proofs.DrawnTables.{listed_drawn, whole_drawn, typed_drawn, read_put, keep_put, unlisted_put, unlisted_there, all_tables, back, none_drawn}

-- ---- the fields of the top table

any_alike : (p q : Field → Bool) → ((f : Field) → is_other f.key ≡ false → p f ≡ q f) → (fs : List Field) → list_any (λ f. is_other f.key) fs ≡ false → list_any p fs ≡ list_any q fs
any_alike p q same [] other = refl
any_alike p q same (f ∷ fs) other =
    let both = neither (is_other f.key) (list_any (λ g. is_other g.key) fs) other in
    rw (same f both.0, any_alike p q same fs both.1) refl

others : list_any (λ f. is_other f.key) (top_fields false) ≡ false
unfolding top_fields
others = refl

-- those of version 2 are those of version 1, and behind them that of outages
with_last : (p : Field → Bool) → list_any p (top_fields true) ≡ (list_any p (top_fields false) || p outages_field)
unfolding top_fields
with_last p = list_any-append p (top_fields false) (outages_field ∷ []) ∙ ap (λ b. list_any p (top_fields false) || b) (or-false (p outages_field))

listed : is_listed (top_fields true) (codes "outage") ≡ true
unfolding is_listed top_fields
listed = refl

unlisted : is_listed (top_fields false) (codes "outage") ≡ false
unfolding is_listed top_fields
unlisted = refl

-- ---- tables that are put at `outage`

module _ (t : Members) (ts : List Members) where
  abbrev put_tables : Members
  put_tables = put (codes "outage") (array (items_of (map table ts))) t

  put_kept : (key : List ℕ) → is_other key ≡ false → get_member key put_tables ≡ get_member key t
  put_kept key other = keep_put (codes "outage") key _ t other

  put_there : tables_at (codes "outage") put_tables ≡ ts
  unfolding tables_at
  put_there = rw (read_put (codes "outage") (array (items_of (map table ts))) t, all_tables ts) (back ts)

  put_typed : is_mistyped outages_field put_tables ≡ false
  unfolding is_mistyped
  put_typed = rw (read_put (codes "outage") (array (items_of (map table ts))) t, all_tables ts) refl

  lacking_put : has_lacking (top_fields true) put_tables ≡ has_lacking (top_fields true) t
  unfolding has_lacking is_lacking
  lacking_put =
      with_last (λ f. is_lacking f put_tables)
      ∙ (ap (λ b. b || false) (any_alike (λ f. is_lacking f put_tables) (λ f. is_lacking f t) (λ f other. rw (put_kept f.key other) refl) (top_fields false) others)
      ∙ sym (with_last (λ f. is_lacking f t)))

  mistyped_alike : (f : Field) → is_other f.key ≡ false → is_mistyped f put_tables ≡ is_mistyped f t
  unfolding is_mistyped
  mistyped_alike f other = rw (put_kept f.key other) refl

  mistyped_put : is_mistyped outages_field t ≡ false → has_mistyped (top_fields true) put_tables ≡ has_mistyped (top_fields true) t
  unfolding has_mistyped
  mistyped_put typed =
      with_last (λ f. is_mistyped f put_tables)
      ∙ (rw (any_alike (λ f. is_mistyped f put_tables) (λ f. is_mistyped f t) mistyped_alike (top_fields false) others, put_typed, with_last (λ f. is_mistyped f t), typed) refl)

  listed_put : has_unlisted (top_fields true) put_tables ≡ has_unlisted (top_fields true) t
  listed_put = unlisted_put (top_fields true) (codes "outage") (array (items_of (map table ts))) t ∙ ap (λ b. not b || has_unlisted (top_fields true) t) listed

-- ---- the keys

module _ (t : Members) (drawn : List LinkOutage) where
  abbrev put_drawn : Members
  put_drawn = put_tables t (all_outages drawn t)

  some_alike : (fault : List Field → Members → Bool) → is_second t ≡ true → fault (top_fields true) put_drawn ≡ fault (top_fields true) t
      → ((o : LinkOutage) → fault outage_fields (outage_table o) ≡ false) → some_table fault put_drawn ≡ some_table fault t
  unfolding some_table
  some_alike fault is top good =
      let kept = put_kept t (all_outages drawn t) in
      let behind : list_any (fault outage_fields) (all_outages drawn t) ≡ list_any (fault outage_fields) (tables_at (codes "outage") t) =
      list_any-append (fault outage_fields) (tables_at (codes "outage") t) (map outage_table drawn)
      ∙ (ap (λ b. list_any (fault outage_fields) (tables_at (codes "outage") t) || b) (none_drawn (fault outage_fields) good drawn) ∙ or-false (list_any (fault outage_fields) (tables_at (codes "outage") t))) in
      rw (
        second t put_drawn kept,
        is,
        top,
        inner t put_drawn kept (codes "detector") refl,
        inner t put_drawn kept (codes "share") refl,
        inner t put_drawn kept (codes "link") refl,
        tables t put_drawn kept (codes "links") refl,
        tables t put_drawn kept (codes "crash") refl,
        put_there t (all_outages drawn t),
        behind,
      ) refl

  keys_put : is_second t ≡ true → is_mistyped outages_field t ≡ false → key_refusals put_drawn ≡ key_refusals t
  keys_put is typed =
      let ts = all_outages drawn t in
      rw (
        some_alike has_unlisted is (listed_put t ts) listed_drawn,
        some_alike has_lacking is (lacking_put t ts) whole_drawn,
        some_alike has_mistyped is (mistyped_put t ts typed) typed_drawn,
      ) refl

-- ---- the file with them

pub kept : (drawn : List LinkOutage) (t : Members) (key : List ℕ) → is_other key ≡ false → get_member key (with_outages drawn t) ≡ get_member key t
unfolding with_outages
kept [] t key other = refl
kept (o ∷ os) t key other =
    elim (is_mistyped outages_field t) as (λ b. get_member key (cond b t (put_drawn t (o ∷ os))) ≡ get_member key t)
    [ true ↦ refl | false ↦ put_kept t (all_outages (o ∷ os) t) key other ]

pub keys_alike : (drawn : List LinkOutage) (t : Members) → lacks_outages drawn t ≡ false → key_refusals (with_outages drawn t) ≡ key_refusals t
unfolding with_outages
keys_alike [] t fits = refl
keys_alike (o ∷ os) t fits = by (is_mistyped outages_field t) refl
  where
    by : (b : Bool) → is_mistyped outages_field t ≡ b → key_refusals (cond b t (put_drawn t (o ∷ os))) ≡ key_refusals t
    by true e = refl
    by false e = keys_put t (o ∷ os) (not-false (is_second t) fits) e

-- ---- a file that has no key for them

unknown : (u : Members) → is_second u ≡ false → has_unlisted (top_fields false) u ≡ true → some_table has_unlisted u ≡ true
unfolding some_table
unknown u is there = rw (is, there) refl

older : (os : List LinkOutage) (t : Members) → lacks_outages os t ≡ true → is_second t ≡ false
older [] t e = cc
older (o ∷ os) t e = not-true (is_second t) e

some_value : (o : Option Data) → option_map_or (λ d. not (is_of outages_field.kind d)) o false ≡ true → is_some o ≡ true
some_value None e = cc
some_value (Some d) e = refl

there_already : (t : Members) → is_mistyped outages_field t ≡ true → is_some (get_member (codes "outage") t) ≡ true
unfolding is_mistyped
there_already t e = some_value (get_member (codes "outage") t) e

unlisted_with : (os : List LinkOutage) (t : Members) → lacks_outages os t ≡ true → has_unlisted (top_fields false) (with_outages os t) ≡ true
unfolding with_outages
unlisted_with [] t e = cc
unlisted_with (o ∷ os) t e = by (is_mistyped outages_field t) refl
  where
    by : (b : Bool) → is_mistyped outages_field t ≡ b → has_unlisted (top_fields false) (cond b t (put_drawn t (o ∷ os))) ≡ true
    by true is = unlisted_there (top_fields false) (codes "outage") t unlisted (there_already t is)
    by false is =
        unlisted_put (top_fields false) (codes "outage") (array (items_of (map table (all_outages (o ∷ os) t)))) t
        ∙ ap (λ b. not b || has_unlisted (top_fields false) t) unlisted

pub key_unknown : (drawn : List LinkOutage) (t : Members) → lacks_outages drawn t ≡ true → some_table has_unlisted (with_outages drawn t) ≡ true
key_unknown drawn t lacks =
    let u = with_outages drawn t in
    unknown u (second t u (kept drawn t) ∙ older drawn t lacks) (unlisted_with drawn t lacks)

-- ---- the outages

-- where the keys are right it has the tables of all of them
pub all_there : (drawn : List LinkOutage) (t : Members) → lacks_outages drawn t ≡ false → some_table has_mistyped t ≡ false → tables_at (codes "outage") (with_outages drawn t) ≡ all_outages drawn t
unfolding with_outages some_table has_mistyped
all_there [] t fits typed = sym (append-nil (tables_at (codes "outage") t))
all_there (o ∷ os) t fits typed =
    let top : has_mistyped (top_fields true) t ≡ false = ap (λ b. has_mistyped (top_fields b) t) (sym (not-false (is_second t) fits)) ∙ (neither _ _ typed).0 in
    let right : is_mistyped outages_field t ≡ false = (neither _ _ (sym (with_last (λ f. is_mistyped f t)) ∙ top)).1 in
    rw right (put_there t (all_outages (o ∷ os) t))

module _ (drawn : List LinkOutage) (t : Members) (fits : lacks_outages drawn t ≡ false) (typed : some_table has_mistyped t ≡ false) where
  pub outages_alike : outages_refused (with_outages drawn t) ≡ are_bad_outages (processes_of t) (all_outages drawn t)
  outages_alike = rw (processes t (with_outages drawn t) (kept drawn t), all_there drawn t fits typed) refl

  pub record_is : record_of (with_outages drawn t) ≡ record (record_of t) { outages = outages_among (all_outages drawn t) (processes_of t) }
  record_is = record_alike t (with_outages drawn t) (kept drawn t) ∙ ap (λ ts. record (record_of t) { outages = outages_among ts (processes_of t) }) (all_there drawn t fits typed)
