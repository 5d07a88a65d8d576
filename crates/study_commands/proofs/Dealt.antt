-- Crash ticks that an axis deals.
use Rattle.study_commands.proofs.Words.{◌≡◌, ◌∙◌, ap, sym, refl, subst, ℕ, zero, suc, ◌+◌, ◌<◌, ◌≤◌, Bool, true, false, List, [], ◌∷◌, ◌++◌, length, map, get_or, take, drop, drop-cons, ◌||◌, option_to_list, arith, All, zip, drop_all, length-map, get_or-map, take_all, get_or-range_with_len, length-range_with_len, get_or-zip, length-zip, filter_map, list_any, range_with_len, Chosen, Given, Path, choices, path_of, set_to, settings_in, Axis, tick_said, dealt_to, dealt_by, keys_of, tick_in}
use Rattle.{study_commands.proofs.AddedItems.{filter_map_more}, std.specs.Global.{Vec}, study.proofs.Points.{paths_set}}
use Rattle.study.specs.declared.{key.Key.{Key}, setting.Setting.{Setting}}

said_in : (paths : List Path) (givens : List Given) (place : ℕ) → length givens ≡ length paths
    → tick_in place (set_to paths givens) ≡ tick_said place givens
said_in [] [] place same = refl
said_in [] (g ∷ gs) place same = absurd (omega (arith, same))
said_in (p ∷ ps) [] place same = absurd (omega (arith, same))
said_in (p ∷ ps) (g ∷ gs) zero same = refl
said_in (p ∷ ps) (g ∷ gs) (suc place) same = said_in ps gs place (omega (arith, same))

-- one of the keys passes a test, or none does
module _ (test : Path → Bool) (keys : List Key) (k : ℕ) where
  pub any_here : (key : Key) → k < length keys → key ≡ get_or keys k key → test (path_of key) ≡ true
      → list_any test (map path_of keys) ≡ list_any test (map path_of (drop k keys))
      → true ≡ list_any test (map path_of keys)
  any_here key low is holds before =
      sym (before ∙ ap (λ l. list_any test (map path_of l)) (drop-cons keys k key low)
      ∙ ap (λ x. test (path_of x) || list_any test (map path_of (drop (suc k) keys))) (sym is)
      ∙ ap (λ b. b || list_any test (map path_of (drop (suc k) keys))) holds)

  pub none_there : length keys ≤ k → list_any test (map path_of keys) ≡ list_any test (map path_of (drop k keys))
      → false ≡ list_any test (map path_of keys)
  none_there past before = sym (before ∙ ap (λ l. list_any test (map path_of l)) (drop_all k keys past))

first_paths : (ps : List Path) (n : ℕ) (vs : List (Vec Setting)) → length ps ≡ n → 1 ≤ length vs
    → All (λ v. length v.items ≡ n) vs → keys_of (map (λ v. set_to ps (settings_in v)) vs) ≡ ps
first_paths ps n [] long some matched = absurd (omega (arith, some))
first_paths ps n (v ∷ vs) long some matched =
    let here : length v.items ≡ n = matched 0 v (omega arith) in
    let same : length (settings_in v) ≡ length v.items = length-map v.items _ in
    paths_set ps (settings_in v) (omega (arith, long, here, same))

module _ (a : Axis) where
  -- what one of its values sets
  abbrev set_by : Vec Setting → List Chosen
  set_by v = set_to (map path_of a.keys.items) (settings_in v)

  pub keys_are : keys_of (choices a) ≡ map path_of a.keys.items
  keys_are =
      first_paths (map path_of a.keys.items) (length a.keys.items) a.values.items (length-map a.keys.items path_of)
      a.some a.matched

  pub ticks_more : (place k : ℕ) (v : Vec Setting) → k < length a.values.items → v ≡ get_or a.values.items k v
      → filter_map (tick_in place) (take (k + 1) (choices a))
      ≡ filter_map (tick_in place) (take k (choices a)) ++ option_to_list (tick_said place (settings_in v))
  ticks_more place k v low is =
      let within : k < length (choices a) = omega (arith, low, length-map a.values.items set_by) in
      let at : get_or (choices a) k (set_by v) ≡ set_by v =
      get_or-map set_by a.values.items k v (set_by v) low ∙ ap set_by (sym is) in
      let same : length (settings_in v) ≡ length v.items = length-map v.items _ in
      let matched : length v.items ≡ length a.keys.items =
      subst (λ (u : Vec Setting). length u.items ≡ length a.keys.items) (sym is) (a.matched k v low) in
      let paths : length (map path_of a.keys.items) ≡ length a.keys.items = length-map a.keys.items path_of in
      let long : length (settings_in v) ≡ length (map path_of a.keys.items) = omega (arith, same, matched, paths) in
      filter_map_more (tick_in place) (choices a) k (set_by v) within
      ∙ ap (λ c. filter_map (tick_in place) (take k (choices a)) ++ option_to_list (tick_in place c)) at
      ∙ ap (λ o. filter_map (tick_in place) (take k (choices a)) ++ option_to_list o)
      (said_in (map path_of a.keys.items) (settings_in v) place long)

  -- its keys with their places
  abbrev pub keyed : List (ℕ × Path)
  keyed = zip (range_with_len 0 (length (keys_of (choices a)))) (keys_of (choices a))

  many : length (keys_of (choices a)) ≡ length a.keys.items
  many = ap length keys_are ∙ length-map a.keys.items path_of

  long_keyed : length keyed ≡ length a.keys.items
  long_keyed =
      length-zip (range_with_len 0 (length (keys_of (choices a)))) (keys_of (choices a))
      ∙ omega (arith, length-range_with_len 0 (length (keys_of (choices a))), many)

  pub dealt_more : (k : ℕ) (key : Key) → k < length a.keys.items → key ≡ get_or a.keys.items k key
      → filter_map (dealt_to (choices a)) (take (k + 1) keyed)
      ≡ filter_map (dealt_to (choices a)) (take k keyed) ++ option_to_list (dealt_to (choices a) (k, path_of key))
  dealt_more k key low is =
      let n = length (keys_of (choices a)) in
      let within : k < n = omega (arith, low, many) in
      let first : k < length (range_with_len 0 n) = omega (arith, within, length-range_with_len 0 n) in
      let inside : k < length keyed = omega (arith, low, long_keyed) in
      let path : get_or (keys_of (choices a)) k (path_of key) ≡ path_of key =
      ap (λ ps. get_or ps k (path_of key)) keys_are
      ∙ get_or-map path_of a.keys.items k key (path_of key) low ∙ ap path_of (sym is) in
      let place : get_or (range_with_len 0 n) k k ≡ k = get_or-range_with_len 0 n k k within ∙ omega arith in
      let at : get_or keyed k (k, path_of key) ≡ (k, path_of key) =
      get_or-zip (range_with_len 0 n) (keys_of (choices a)) k (k, path_of key) first within
      ∙ ap (λ (i : ℕ). (i, get_or (keys_of (choices a)) k (path_of key))) place ∙ ap (λ (p : Path). (k, p)) path in
      filter_map_more (dealt_to (choices a)) keyed k (k, path_of key) inside
      ∙ ap (λ e. filter_map (dealt_to (choices a)) (take k keyed) ++ option_to_list (dealt_to (choices a) e)) at

  pub all_dealt : (k : ℕ) → length a.keys.items ≤ k
      → filter_map (dealt_to (choices a)) (take k keyed) ≡ dealt_by (choices a)
  all_dealt k past = ap (filter_map (dealt_to (choices a))) (take_all k keyed (omega (arith, past, long_keyed)))
