-- Two files that have the same at each key but `outage`.
use Rattle.scenario.proofs.Words.{◌≡◌, ℕ, ℤ, List, Bool, false, refl, ap, ◌∙◌, codes, option_and_then, is_some, unwrap_or, nat_cmp, is_eq, slice_cmp, Members, get_member, as_integer, as_str, as_table, Record, number_or, text_or, integers_at, has_key, table_at, tables_at, number_at, is_second, processes_of, outages_among, record_of, is_outside, is_negative, pair_below, number_refusals, part_refusals}

-- the key is another one
abbrev pub is_other : List ℕ → Bool
is_other key = is_eq (slice_cmp nat_cmp (codes "outage") key)

module _ (t u : Members) (kept : (key : List ℕ) → is_other key ≡ false → get_member key u ≡ get_member key t) where
  number : (key : List ℕ) (default : ℤ) → is_other key ≡ false → number_or key default u ≡ number_or key default t
  unfolding number_or
  number key default other = ap (λ o. unwrap_or (option_and_then as_integer o) default) (kept key other)

  pub natural : (key : List ℕ) (default : ℕ) → is_other key ≡ false → number_at key default u ≡ number_at key default t
  unfolding number_at
  natural key default other = rw (number key _ other) refl

  outside : (low high : ℕ) (key : List ℕ) (default : ℕ) → is_other key ≡ false → is_outside low high key default u ≡ is_outside low high key default t
  unfolding is_outside
  outside low high key default other = rw (number key _ other) refl

  text : (key default : List ℕ) → is_other key ≡ false → text_or key default u ≡ text_or key default t
  unfolding text_or
  text key default other = ap (λ o. unwrap_or (option_and_then as_str o) default) (kept key other)

  pub inner : (key : List ℕ) → is_other key ≡ false → table_at key u ≡ table_at key t
  unfolding table_at
  inner key other = ap (λ o. option_and_then as_table o) (kept key other)

  pub tables : (key : List ℕ) → is_other key ≡ false → tables_at key u ≡ tables_at key t
  unfolding tables_at
  tables key other = rw (kept key other) refl

  integers : (key : List ℕ) → is_other key ≡ false → integers_at key u ≡ integers_at key t
  unfolding integers_at
  integers key other = rw (kept key other) refl

  there : (key : List ℕ) → is_other key ≡ false → has_key key u ≡ has_key key t
  unfolding has_key
  there key other = ap is_some (kept key other)

  pub second : is_second u ≡ is_second t
  unfolding is_second
  second = rw (number (codes "version") _ refl) refl

  pub processes : processes_of u ≡ processes_of t
  processes = natural (codes "processes") 0 refl

  seed : is_negative (codes "seed") 0 u ≡ is_negative (codes "seed") 0 t
  unfolding is_negative
  seed = rw (number (codes "seed") _ refl) refl

  -- the record is the same but for the outages
  pub record_alike : record_of u ≡ record (record_of t) { outages = outages_among (tables_at (codes "outage") u) (processes_of t) }
  record_alike = rw (
    natural (codes "processes") 0 refl,
    natural (codes "horizon") 0 refl,
    natural (codes "lookahead") 0 refl,
    natural (codes "limit") 1000000 refl,
    natural (codes "seed") 0 refl,
    text (codes "algorithm") _ refl,
    inner (codes "detector") refl,
    inner (codes "share") refl,
    integers (codes "proposals") refl,
    tables (codes "crash") refl,
    inner (codes "link") refl,
    tables (codes "links") refl,
  ) refl

  others : (s : Record) (outages : _) → pair_below (record s { outages = outages }) ≡ pair_below s
  unfolding pair_below
  others s outages = refl

  below_alike : pair_below (record_of u) ≡ pair_below (record_of t)
  below_alike = ap pair_below record_alike ∙ others (record_of t) (outages_among (tables_at (codes "outage") u) (processes_of t))

  pub numbers_alike : number_refusals u ≡ number_refusals t
  numbers_alike = rw (
    second,
    outside _ _ (codes "version") 0 refl,
    outside _ _ (codes "processes") 0 refl,
    outside _ _ (codes "horizon") 0 refl,
    outside _ _ (codes "lookahead") 0 refl,
    outside _ _ (codes "limit") 1000000 refl,
    seed,
  ) refl

  pub parts_alike : part_refusals u ≡ part_refusals t
  parts_alike = rw (
    below_alike,
    text (codes "algorithm") _ refl,
    natural (codes "processes") 0 refl,
    there (codes "proposals") refl,
    integers (codes "proposals") refl,
    inner (codes "detector") refl,
    inner (codes "share") refl,
    inner (codes "link") refl,
    tables (codes "links") refl,
    tables (codes "crash") refl,
  ) refl
