-- What words say of a range, and of an axis' values, one after the other.
use Rattle.study.proofs.Basics.{◌≡◌, ℕ, ◌+◌, ◌-◌, ◌≤◌, ◌<◌, List, [], ◌∷◌, ◌++◌, append_assoc, map, length, length-append, get_or, drop, Bor, Bool, true, false, ◌==◌, nat_lt, Option, Some, None, if◌then◌else◌, refl, sym, ◌∙◌, ap, subst, arith, ◌*◌, ◌/◌, ℤ, pos, ◌≤ℤ◌, ◌-ℤ◌, ◌&&◌, ltb, le-ltb, lt-ltb, ltb-false, eqb-true, length-map, get_or-map, at_drop_more, at_drop_all, map_push, append-nil, All-nil, All-cons, All-append, All-map, length-map-range_with_len, map-range_with_len_more, Vec, option_or, option_and_then, Given, number, given_by, settings_in, Setting, Word, between, is_integer, integer, bounds, mul-le-mul_left, div-mul-le_self, ints, unsigned_abs}
use Rattle.{std.proofs.lemmas.Option.{none-some}, std.specs.List.{All, flat_map, range_with_len}}
use Rattle.study.specs.AxisWords.{RangeRecord, range_fault, steps, number_after, Piece, range, piece_said, values, part_fault, parts_fault, Entry, single, tied, entry_said, entries_said, rows, entry_fault, fault_within, first_fault, Adds, high_word, step_word, range_between, range_said}
use Rattle.study.specs.declared.error.AxisError.{AxisError}
use Rattle.study.specs.declared.error.AxisError.TheVariants as error

-- ---- words of a range

abbrev pub made : Word → Word → Word → Option RangeRecord
made low high step =
    if is_integer low && (is_integer high && is_integer step)
    then Some (record { low = integer low; high = integer high; step = integer step }) else None

pub said_made : (w low rest high step : Word) → Some (low, rest) ≡ bounds w → high ≡ high_word rest
    → step ≡ step_word rest → range_said w ≡ made low high step
said_made w low rest high step e same_high same_step =
    ap (λ b. option_and_then range_between b) (sym e)
    ∙ (ap (λ h. made low h (step_word rest)) (sym same_high) ∙ ap (λ s. made low high s) (sym same_step))

-- ---- numbers of a range

pub reached : (low high step : ℤ) (k : ℕ) → pos 1 ≤ℤ step → low ≤ℤ high → k ≤ unsigned_abs (high -ℤ low) / unsigned_abs step
    → pos (k * unsigned_abs step) ≤ℤ (high -ℤ low)
reached low high step k rises some within =
    let s : ℕ = unsigned_abs step in
    let d : ℕ = unsigned_abs (high -ℤ low) in
    let span : pos d ≡ high -ℤ low = omega (arith, ints) in
    let up : s * k ≤ s * (d / s) = mul-le-mul_left s within in
    let down : d / s * s ≤ d = div-mul-le_self d s in
    let all : k * s ≤ d = omega arith in
    omega (arith, ints)

-- ---- why an entry is refused

module _ (room : ℕ) (e : Entry) (fine : entry_fault e ≡ None) where
  within_ok : length (rows e) ≤ room → fault_within room e ≡ None
  within_ok le = rw (fine, le-ltb room (length (rows e)) le)

  within_many : room < length (rows e) → fault_within room e ≡ Some error.TooManyValues
  within_many lt = rw (fine, lt-ltb room (length (rows e)) lt)

-- ---- a range

range_length : (r : RangeRecord) → length (rows (single (range r))) ≡ steps r + 1
range_length r =
    length-map (values (range r)) (λ v. v ∷ []) ∙ length-map-range_with_len (λ k. number (number_after r k)) 0 (steps r + 1)

pub range_added : (old new : List (List Given)) (r s : RangeRecord) → range_fault r ≡ None → s ≡ r
    → steps s < 1000000 - length old → new ≡ old ++ rows (single (range s)) → Adds old new (single (range r))
range_added old new r s fine same room added = record {
  no_fault = within_ok (1000000 - length old) (single (range r)) fine (omega (arith, range_length r, ap steps same));
  rows = added ∙ ap (λ q. old ++ rows (single (range q))) same;
}

pub range_many : (old : List (List Given)) (r s : RangeRecord) → range_fault r ≡ None → s ≡ r
    → 1000000 - length old ≤ steps s → fault_within (1000000 - length old) (single (range r)) ≡ Some error.TooManyValues
range_many old r s fine same room =
    within_many (1000000 - length old) (single (range r)) fine (omega (arith, range_length r, ap steps same))

abbrev pub numbered : RangeRecord → ℕ → List (List Given)
numbered r n = map (λ v. v ∷ []) (map (λ k. number (number_after r k)) (range_with_len 0 n))

pub number_pushed : (old now new : List (List Given)) (r : RangeRecord) (k : ℕ) (row : List Given) → new ≡ now ++ (row ∷ [])
    → row ≡ number (number_after r k) ∷ [] → now ≡ old ++ numbered r k → new ≡ old ++ numbered r (k + 1)
number_pushed old now new r k row pushed is so_far =
    let more = map-range_with_len_more (λ j. number (number_after r j)) 0 k k (omega arith) in
    rw (pushed, is, so_far, append_assoc, more, map_push) refl

-- ---- one part of a value after the other

abbrev parts_in : List (Bor (List ℕ)) → List Piece
parts_in ws = map piece_said (map (λ x. x.now) ws)

module _ (ws : List (Bor (List ℕ))) (i : ℕ) (d : Bor (List ℕ)) (within : i < length ws) where
  parts_left : parts_in (drop i ws) ≡ piece_said (get_or ws i d).now ∷ parts_in (drop (i + 1) ws)
  parts_left = at_drop_more parts_in ws i d within

  pub part_fails : (e : AxisError) → part_fault (piece_said (get_or ws i d).now) ≡ Some e
      → parts_fault (parts_in (drop i ws)) ≡ Some e
  part_fails e here = rw (parts_left, here)

  pub part_more : (old new : List Setting) (s : Setting) → part_fault (piece_said (get_or ws i d).now) ≡ None
      → values (piece_said (get_or ws i d).now) ≡ given_by s ∷ [] → new ≡ old ++ (s ∷ [])
      → (parts_fault (parts_in (drop (i + 1) ws)) ≡ parts_fault (parts_in (drop i ws)))
      × (map given_by new ++ flat_map values (parts_in (drop (i + 1) ws))
      ≡ map given_by old ++ flat_map values (parts_in (drop i ws)))
  part_more old new s fine is pushed =
      (rw (parts_left, fine) refl, rw (parts_left, pushed, map_push, is, append_assoc) refl)

-- ---- one entry after the other

or_none : (f g : Option AxisError) → option_or f g ≡ None → (f ≡ None) × (g ≡ None)
or_none None g none = (refl, none)
or_none (Some e) g none = absurd (none-some e (sym none))

none_room : (b : Bool) → (if b then Some error.TooManyValues else None) ≡ None → b ≡ false
none_room false none = refl
none_room true none = absurd (none-some error.TooManyValues (sym none))

within_room : (room : ℕ) (e : Entry) → fault_within room e ≡ None → length (rows e) ≤ room
within_room room e none =
    ltb-false room (length (rows e)) (none_room (ltb room (length (rows e)))
    (or_none (entry_fault e) (if nat_lt room (length (rows e)) then Some error.TooManyValues else None) none).1)

some_row : (e : Entry) → 1 ≤ length (rows e)
some_row (single (range r)) = omega (arith, range_length r)
some_row (single _) = omega arith
some_row (tied keys ps) = omega arith

module _ (keys : ℕ) where
  -- what is left of the entries of some words, from one on
  abbrev left : List (Bor (List ℕ)) → ℕ → List Entry
  left ws i = entries_said keys (map (λ x. x.now) (drop i ws))

  left_more : (ws : List (Bor (List ℕ))) (i : ℕ) (d : Bor (List ℕ)) → i < length ws
      → left ws i ≡ entry_said keys (get_or ws i d).now ∷ left ws (i + 1)
  left_more ws i d = at_drop_more (λ rest. entries_said keys (map (λ (x : Bor (List ℕ)). x.now) rest)) ws i d

  -- the values of the entries before one are read
  pub record AreRead (ws : List (Bor (List ℕ))) (i : ℕ) (got : List (List Given)) : Type 0 where
    pub fault : first_fault (1000000 - length got) (left ws i) ≡ first_fault 1000000 (entries_said keys (map (λ x. x.now) ws))
    pub same : got ++ flat_map rows (left ws i) ≡ flat_map rows (entries_said keys (map (λ x. x.now) ws))
    pub room : length got ≤ 1000000
    pub some : i ≤ length got

  module _ (ws : List (Bor (List ℕ))) (i : ℕ) (d : Bor (List ℕ)) (within : i < length ws) where
    pub fault_at : (got : List (List Given)) (e : AxisError) → AreRead ws i got
        → fault_within (1000000 - length got) (entry_said keys (get_or ws i d).now) ≡ Some e
        → first_fault 1000000 (entries_said keys (map (λ x. x.now) ws)) ≡ Some e
    unfolding first_fault
    fault_at got e read here =
        sym read.fault ∙ (ap (first_fault (1000000 - length got)) (left_more ws i d within) ∙ rw here)

    pub read_more : (old new : List (List Given)) → AreRead ws i old → Adds old new (entry_said keys (get_or ws i d).now)
        → AreRead ws (i + 1) new
    unfolding first_fault
    read_more old new read added =
        let e : Entry = entry_said keys (get_or ws i d).now in
        let most : length (rows e) ≤ 1000000 - length old = within_room (1000000 - length old) e added.no_fault in
        let all : length new ≡ length old + length (rows e) = ap length added.rows ∙ length-append old (rows e) in
        let room : 1000000 - length new ≡ 1000000 - length old - length (rows e) = omega arith in
        let step : first_fault (1000000 - length old) (e ∷ left ws (i + 1)) ≡ first_fault (1000000 - length new)
        (left ws (i + 1)) =
        rw (added.no_fault, room) in
        record {
          fault = sym step ∙ (ap (first_fault (1000000 - length old)) (sym (left_more ws i d within)) ∙ read.fault);
          same =
              ap (λ v. v ++ flat_map rows (left ws (i + 1))) added.rows
              ∙ (append_assoc old (rows e) (flat_map rows (left ws (i + 1)))
              ∙ (ap (λ es. old ++ flat_map rows es) (sym (left_more ws i d within)) ∙ read.same));
          room = omega (arith, read.room);
          some = omega (arith, read.some, some_row e);
        }

  pub all_read : (ws : List (Bor (List ℕ))) (i : ℕ) (got : List (List Given)) → length ws ≤ i → AreRead ws i got
      → (first_fault 1000000 (entries_said keys (map (λ x. x.now) ws)) ≡ None)
      × (got ≡ flat_map rows (entries_said keys (map (λ x. x.now) ws)))
  unfolding first_fault
  all_read ws i got past read =
      let none : left ws i ≡ [] = at_drop_all (λ rest. entries_said keys (map (λ (x : Bor (List ℕ)). x.now) rest)) ws i past in (
        sym read.fault ∙ ap (first_fault (1000000 - length got)) none,
        sym (append-nil got) ∙ (ap (λ es. got ++ flat_map rows es) (sym none) ∙ read.same),
      )

  -- ---- each value has one setting for each key

  abbrev Fits : List Given → Type 0
  Fits row = length row ≡ keys

  one_value : (p : Piece) → part_fault p ≡ None → length (values p) ≡ 1
  one_value (range r) fine = cc fine
  one_value _ fine = refl

  all_parts : (ps : List Piece) → parts_fault ps ≡ None → length (flat_map values ps) ≡ length ps
  all_parts [] fine = refl
  all_parts (p ∷ ps) fine =
      let both = or_none (part_fault p) (parts_fault ps) fine in
      omega (arith, one_value p both.0, all_parts ps both.1, length-append (values p) (flat_map values ps))

  tied_fit : (ps : List Piece) (b : Bool) → (length ps == keys) ≡ b
      → (if b then parts_fault ps else Some error.PartsPerKey) ≡ None → All Fits (flat_map values ps ∷ [])
  tied_fit ps true is fine =
      All-cons Fits (flat_map values ps) [] (all_parts ps fine ∙ eqb-true (length ps) keys is) (All-nil Fits)
  tied_fit ps false is fine = absurd (cc fine)

  entry_fits : (p : Piece) (ps : List Piece) (b : Bool) → (keys == 1) ≡ b
      → entry_fault (if b then single p else tied keys ps) ≡ None
      → All Fits (rows (if b then single p else tied keys ps))
  entry_fits p ps true is fine = All-map Fits (λ v. v ∷ []) (values p) (λ k d within. sym (eqb-true keys 1 is))
  entry_fits p ps false is fine = tied_fit ps (length ps == keys) refl fine

  rows_fit : (ws : List Word) (room : ℕ) → first_fault room (entries_said keys ws) ≡ None
      → All Fits (flat_map rows (entries_said keys ws))
  unfolding first_fault
  rows_fit [] room fine = All-nil Fits
  rows_fit (w ∷ ws) room fine =
      let e : Entry = entry_said keys w in
      let both = or_none (fault_within room e) (first_fault (room - length (rows e)) (entries_said keys ws)) fine in
      let here = or_none (entry_fault e) (if nat_lt room (length (rows e)) then Some error.TooManyValues else None) both.0 in
      All-append Fits (rows e) (flat_map rows (entries_said keys ws))
      (entry_fits (piece_said w) (map piece_said (between 58 w)) (keys == 1) refl here.0)
      (rows_fit ws (room - length (rows e)) both.1)

  pub matched : (vs : List (Vec Setting)) (ws : List Word) → first_fault 1000000 (entries_said keys ws) ≡ None
      → map settings_in vs ≡ flat_map rows (entries_said keys ws) → All (λ v. length v.items ≡ keys) vs
  matched vs ws fine is k d within =
      let fit = subst (All Fits) (sym is) (rows_fit ws 1000000 fine) in
      sym (length-map (get_or vs k d).items given_by)
      ∙ subst Fits (get_or-map settings_in vs k d (settings_in d) within)
      (fit k (settings_in d) (omega (arith, length-map vs settings_in)))
