-- Tables put in places by their keys, and lists of tables of which two have the same key.
use Rattle.scenario.proofs.Words.{◌≡◌, ◌≢◌, ℕ, ◌+◌, ◌<◌, List, [], ◌∷◌, ◌++◌, length, take, drop, set, get_or, Bool, true, false, cond, ◌||◌, Option, Some, None, find, is_some, refl, ap, sym, ◌∙◌, subst, or-true, option_map, take_more, map-append, append-nil, take-append-drop, length-map, length-set, get_or-map, get_or-set_same, get_or-set_other, get_or_default, filter-append, list_any-append, list_any_at, Members, table_view, tables_in, has_repeat}
use Rattle.{scenario.proofs.{FieldFacts.{some_of_map}, Elements.{Lent, IsAt}}, std.specs.List.{filter, list_any}}

-- ---- tables of an array, one after the other

pub one_more : (tables : List Lent) (i : ℕ) (m : Lent) → IsAt tables i m → tables_in (take (i + 1) tables) ≡ tables_in (take i tables) ++ table_view m.now ∷ []
one_more tables i m spot =
    ap tables_in (take_more tables i m spot.low)
    ∙ (map-append (λ t. table_view t.now) (take i tables) (get_or tables i m ∷ []) ∙ ap (λ t. tables_in (take i tables) ++ table_view t.now ∷ []) (sym spot.is))

-- those before it, it, and those after it
cut : (tables : List Lent) (i : ℕ) (m : Lent) → IsAt tables i m → tables_in tables ≡ (tables_in (take i tables) ++ table_view m.now ∷ []) ++ tables_in (drop (i + 1) tables)
cut tables i m spot =
    ap tables_in (sym (take-append-drop (i + 1) tables))
    ∙ (map-append (λ t. table_view t.now) (take (i + 1) tables) (drop (i + 1) tables) ∙ ap (λ ts. ts ++ tables_in (drop (i + 1) tables)) (one_more tables i m spot))

pub bad_one : (bad : Members → Bool) (tables : List Lent) (i : ℕ) (m : Lent) → IsAt tables i m → bad (table_view m.now) ≡ true → list_any bad (tables_in tables) ≡ true
bad_one bad tables i m spot e =
    let its : get_or (tables_in tables) i (table_view m.now) ≡ table_view m.now = get_or-map (λ t. table_view t.now) tables i m (table_view m.now) spot.low ∙ ap (λ t. table_view t.now) (sym spot.is) in
    list_any_at bad (tables_in tables) i (table_view m.now) (simp length-map spot.low) (ap bad its ∙ e)

-- ---- keys

-- each key has a place of its own
pub record Keys (K : Type 0) : Type 1 where
  pub key : Members → K
  pub same : K → K → Bool
  pub alike : (a b : K) → same a b ≡ true → a ≡ b
  pub itself : (a : K) → same a a ≡ true
  pub IsKey : K → Type 0
  pub count : ℕ
  pub place : K → ℕ
  pub within : (a : K) → IsKey a → place a < count
  pub apart : (a b : K) → IsKey a → IsKey b → place a ≡ place b → a ≡ b

-- the tables of a key
abbrev pub of : {K : Type 0} → Keys K → K → List Members → List Members
of P k ts = filter (λ t. P.same (P.key t) k) ts

module _ {K X : Type 0} (P : Keys K) (whole : List Members → X) where
  -- each key's place holds what its tables are together
  pub record AreHeld (slots : List X) (done : List Members) : Type 0 where
    pub full : length slots ≡ P.count
    pub held : (k : K) → P.IsKey k → get_or slots (P.place k) (whole []) ≡ whole (of P k done)

  of_more : (done : List Members) (t : Members) (k : K) (b : Bool) → P.same (P.key t) k ≡ b → of P k (done ++ t ∷ []) ≡ of P k done ++ cond b (t ∷ []) []
  of_more done t k b e = filter-append (λ u. P.same (P.key u) k) done (t ∷ []) ∙ ap (λ c. of P k done ++ cond c (t ∷ []) []) e

  -- one more table is put at its key's place
  pub put : (slots : List X) (done : List Members) (t : Members) (x : X) → AreHeld slots done → P.IsKey (P.key t) → x ≡ whole (of P (P.key t) done ++ t ∷ [])
      → AreHeld (set slots (P.place (P.key t)) x) (done ++ t ∷ [])
  put slots done t x hold good is = record { full = simp length-set hold.full; held = λ k its. by k its (P.same (P.key t) k) refl }
    where
      by : (k : K) → P.IsKey k → (b : Bool) → P.same (P.key t) k ≡ b → get_or (set slots (P.place (P.key t)) x) (P.place k) (whole []) ≡ whole (of P k (done ++ t ∷ []))
      by k its true e =
          let here : P.key t ≡ k = P.alike (P.key t) k e in
          ap (λ q. get_or (set slots (P.place (P.key t)) x) (P.place q) (whole [])) (sym here)
          ∙ (get_or-set_same slots (P.place (P.key t)) x (whole []) (subst (λ m. P.place (P.key t) < m) (sym hold.full) (P.within (P.key t) good))
          ∙ (is ∙ (ap (λ q. whole (of P q done ++ t ∷ [])) here ∙ ap whole (sym (of_more done t k true e)))))
      by k its false e =
          let differ : P.place k ≢ P.place (P.key t) = λ q. let both : true ≡ false = sym (P.itself (P.key t)) ∙ (ap (P.same (P.key t)) (sym (P.apart k (P.key t) its good q)) ∙ e) in cc in
          get_or-set_other slots (P.place (P.key t)) (P.place k) x (whole []) differ
          ∙ (hold.held k its ∙ ap whole (sym (of_more done t k false e ∙ append-nil (of P k done))))

-- ---- one table of each key

abbrev pub first : {X : Type 0} → List X → Option X
first [] = None
first (x ∷ xs) = Some x

-- what the one table of a key is
abbrev pub once : {V : Type 0} → (Members → V) → List Members → Option V
once value ts = option_map value (first ts)

pub find_first : {X : Type 0} (p : X → Bool) (xs : List X) → find p xs ≡ first (filter p xs)
find_first p [] = refl
find_first p (x ∷ xs) = elim (p x) as (λ b. cond b (Some x) (find p xs) ≡ first (cond b (x ∷ filter p xs) (filter p xs))) [ true ↦ refl | false ↦ find_first p xs ]

any_first : {X : Type 0} (p : X → Bool) (xs : List X) → is_some (first (filter p xs)) ≡ list_any p xs
any_first p [] = refl
any_first p (x ∷ xs) = elim (p x) as (λ b. is_some (first (cond b (x ∷ filter p xs) (filter p xs))) ≡ (b || list_any p xs)) [ true ↦ refl | false ↦ any_first p xs ]

-- a search finds something where some element passes
pub some_found : {X : Type 0} (p : X → Bool) (xs : List X) → is_some (find p xs) ≡ list_any p xs
some_found p xs = ap is_some (find_first p xs) ∙ any_first p xs

none_kept : {X : Type 0} (p : X → Bool) (xs : List X) → list_any p xs ≡ false → filter p xs ≡ []
none_kept p [] e = refl
none_kept p (x ∷ xs) e = elim (p x) as (λ b. (b || list_any p xs) ≡ false → cond b (x ∷ filter p xs) (filter p xs) ≡ []) [ true ↦ λ f. cc | false ↦ none_kept p xs ] e

-- ---- refused lists

regroup : (a b r s : Bool) → ((a || (b || false)) || (r || s)) ≡ ((a || r) || (b || s))
regroup true b r s = refl
regroup false true true s = refl
regroup false true false s = refl
regroup false false r s = refl

module _ {K : Type 0} (P : Keys K) where
  abbrev pub repeats : List Members → Bool
  repeats = has_repeat P.same P.key

  -- a table with a key has one before it
  abbrev pub is_there : K → List Members → Bool
  is_there k = list_any (λ u. P.same (P.key u) k)

  repeat_more : (ts : List Members) (t : Members) → repeats (ts ++ t ∷ []) ≡ (repeats ts || is_there (P.key t) ts)
  repeat_more [] t = refl
  repeat_more (u ∷ ts) t =
      ap (λ a. a || repeats (ts ++ t ∷ [])) (list_any-append (λ v. P.same (P.key u) (P.key v)) ts (t ∷ []))
      ∙ (ap (λ r. (list_any (λ v. P.same (P.key u) (P.key v)) ts || (P.same (P.key u) (P.key t) || false)) || r) (repeat_more ts t)
      ∙ regroup (list_any (λ v. P.same (P.key u) (P.key v)) ts) (P.same (P.key u) (P.key t)) (repeats ts) (is_there (P.key t) ts))

  repeat_kept : (ts us : List Members) → repeats ts ≡ true → repeats (ts ++ us) ≡ true
  repeat_kept [] us e = cc
  repeat_kept (t ∷ ts) us e =
      ap (λ a. a || repeats (ts ++ us)) (list_any-append (λ v. P.same (P.key t) (P.key v)) ts us)
      ∙ elim (list_any (λ v. P.same (P.key t) (P.key v)) ts) as (λ b. (b || repeats ts) ≡ true → ((b || list_any (λ v. P.same (P.key t) (P.key v)) us) || repeats (ts ++ us)) ≡ true)
      [ true ↦ λ h. refl | false ↦ λ h. rw (repeat_kept ts us h) (or-true (list_any (λ v. P.same (P.key t) (P.key v)) us)) ] e

-- ---- one more table, where each key has one

module _ {K V : Type 0} (P : Keys K) (bad : Members → Bool) (value : Members → V) where
  -- some table is refused by itself, or two have the same key
  abbrev pub refused : List Members → Bool
  refused ts = list_any bad ts || repeats P ts

  pub bad_among : (tables : List Lent) (i : ℕ) (m : Lent) → IsAt tables i m → bad (table_view m.now) ≡ true → refused (tables_in tables) ≡ true
  bad_among tables i m spot e = rw (bad_one bad tables i m spot e) refl

  module _ (tables : List Lent) (i : ℕ) (m : Lent) (spot : IsAt tables i m) (slots : List (Option V)) (hold : AreHeld P (once value) slots (tables_in (take i tables)))
      (k : K) (is : k ≡ P.key (table_view m.now)) (good : P.IsKey k) where
    -- whether a table before it has its key, by what its place holds
    before : (b : Bool) → is_some (get_or slots (P.place k) None) ≡ b → is_there P (P.key (table_view m.now)) (tables_in (take i tables)) ≡ b
    before b e =
        sym (any_first (λ u. P.same (P.key u) (P.key (table_view m.now))) (tables_in (take i tables)))
        ∙ (sym (some_of_map value (first (of P (P.key (table_view m.now)) (tables_in (take i tables)))))
        ∙ (ap is_some (sym (hold.held (P.key (table_view m.now)) (subst P.IsKey is good))) ∙ (ap (λ q. is_some (get_or slots (P.place q) None)) (sym is) ∙ e)))

    pub again : is_some (get_or slots (P.place k) None) ≡ true → refused (tables_in tables) ≡ true
    again e =
        let here : repeats P (tables_in (take i tables) ++ table_view m.now ∷ []) ≡ true = repeat_more P (tables_in (take i tables)) (table_view m.now) ∙ rw (before true e) (or-true (repeats P (tables_in (take i tables)))) in
        rw (cut tables i m spot, repeat_kept P (tables_in (take i tables) ++ table_view m.now ∷ []) (tables_in (drop (i + 1) tables)) here)
        (or-true (list_any bad ((tables_in (take i tables) ++ table_view m.now ∷ []) ++ tables_in (drop (i + 1) tables))))

    pub clean : is_some (get_or slots (P.place k) None) ≡ false → refused (tables_in (take i tables)) ≡ false → bad (table_view m.now) ≡ false → refused (tables_in (take (i + 1) tables)) ≡ false
    clean e so_far fine =
        rw (one_more tables i m spot, list_any-append, repeat_more, before false e, fine)
        (regroup (list_any bad (tables_in (take i tables))) false (repeats P (tables_in (take i tables))) false ∙ rw so_far refl)

    pub kept : (v : V) → v ≡ value (table_view m.now) → is_some (get_or slots (P.place k) None) ≡ false → AreHeld P (once value) (set slots (P.place k) (Some v)) (tables_in (take (i + 1) tables))
    kept v its e =
        rw (one_more tables i m spot, is, its)
        (put P (once value) slots (tables_in (take i tables)) (table_view m.now) (Some (value (table_view m.now))) hold (subst P.IsKey is good)
        (rw (none_kept (λ u. P.same (P.key u) (P.key (table_view m.now))) (tables_in (take i tables)) (before false e)) refl))

-- a place that was read
pub at_place : {V : Type 0} (xs : List (Option V)) (i : ℕ) (o : Option V) (b : Bool) → i < length xs → o ≡ get_or xs i o → is_some o ≡ b → is_some (get_or xs i None) ≡ b
at_place xs i o b lt is e = ap is_some (get_or_default xs i None o lt ∙ sym is) ∙ e
