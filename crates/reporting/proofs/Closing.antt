-- Meters, as they open, as they are fed with one more entry, and at the close.
use Rattle.reporting.proofs.Words.{◌≡◌, ℕ, arith, None, Some, ◌≢◌, ◌<◌, ◌≤◌, min, cond, sym, ap, ◌∙◌, List, [], ◌∷◌, ◌++◌, suc, ◌+◌, ◌-◌, ◌*◌, refl, subst, map, get_or, add-one, nat_tests, EntryRecord, Record, crash_tick, end_of, all_turned, opened, kept_at, noted_turns, entry_turns, Pair, fed_more, turns_own, turns_late, turns_other, in_order_more, is_measured, pair_measures, layer_measures, crash_between, closed, counted, new_tally, told, Tally, others, suspects, ArePairs, fed, Pairs, IsKnown, fed_known, pair, metered, closed_row, closed_rows}
use Rattle.reporting.proofs.{Passes.{Knows, tallies_keep, none_known, told_is}, EachProcess.{others_same, rows_same}}
use Rattle.{judges.specs.Pairs.{AreUntil}, reporting.specs.{Meter.{IsFed}, declared.meter.Meter.{Meter}}}

-- ---- one more entry

pub crash_is : (S : Record) (q p a b n : ℕ) → a ≡ min (crash_tick S q) S.horizon → b ≡ min (crash_tick S p) S.horizon → n ≡ S.horizon
    → crash_between a b n ≡ cond (is_measured S q p) (Some (crash_tick S p)) None
crash_is S q p a b n is_a is_b is_n = grind (arith, nat_tests)

module _ (S : Record) (layer q p : ℕ) (trace : List EntryRecord) (entry : EntryRecord) (m : Meter) (h : IsFed S layer q p trace m) (until : AreUntil trace entry.key.tick) where
  meter_turned : (pair : Pair Tally) → pair ≡ all_turned counted m.pair (entry_turns layer q p S.horizon entry) → IsFed S layer q p (trace ++ entry ∷ []) (record m { pair = pair })
  meter_turned pair is = record {
    same_layer = h.same_layer;
    observer = h.observer;
    subject = h.subject;
    horizon = h.horizon;
    crash = h.crash;
    in_order = in_order_more trace 0 entry h.in_order until (omega arith);
    pair = is ∙ ap (λ x. all_turned counted x (entry_turns layer q p S.horizon entry)) h.pair ∙ fed_more counted S layer q p new_tally trace entry;
  }

  -- an entry of its observer below the horizon
  pub meter_fed : entry.key.receiver ≡ m.observer → entry.key.tick < m.horizon → (pair : Pair Tally) → pair ≡ all_turned counted m.pair (noted_turns m.layer m.subject entry.key.tick entry.notes)
      → IsFed S layer q p (trace ++ entry ∷ []) (record m { pair = pair })
  meter_fed own below pair is =
      meter_turned pair
      (is
      ∙ ap (λ l. all_turned counted m.pair (noted_turns l m.subject entry.key.tick entry.notes)) h.same_layer
      ∙ ap (λ w. all_turned counted m.pair (noted_turns layer w entry.key.tick entry.notes)) h.subject
      ∙ ap (all_turned counted m.pair) (sym (turns_own layer q p S.horizon entry (own ∙ h.observer) (omega (arith, h.horizon)))))

  -- any other
  pub meter_late : m.horizon ≤ entry.key.tick → IsFed S layer q p (trace ++ entry ∷ []) m
  meter_late late = meter_turned m.pair (ap (all_turned counted m.pair) (sym (turns_late layer q p S.horizon entry (omega (arith, h.horizon)))))

  pub meter_other : entry.key.receiver ≢ m.observer → IsFed S layer q p (trace ++ entry ∷ []) m
  meter_other other = meter_turned m.pair (ap (all_turned counted m.pair) (sym (turns_other layer q p S.horizon entry (λ e. other (e ∙ sym h.observer)))))

-- ---- the measures at the close

abbrev pub known_of : (S : Record) (layer q p : ℕ) (trace : List EntryRecord) (horizon : ℕ) → Pair Tally → Type 0
known_of S layer q p trace horizon = IsKnown counted (λ (t : Tally). t.tick) Knows tallies_keep (suspects layer trace q p) horizon (end_of S q p)

pair_known : (S : Record) (layer q p : ℕ) (trace : List EntryRecord) (m : Meter) → IsFed S layer q p trace m → known_of S layer q p trace m.horizon m.pair
pair_known S layer q p trace m h =
    subst (λ n. known_of S layer q p trace n m.pair) (sym h.horizon)
    (subst (known_of S layer q p trace S.horizon) (sym h.pair) (fed_known counted (λ (t : Tally). t.tick) Knows tallies_keep S layer q p new_tally trace refl none_known h.in_order))

module _ (S : Record) (layer q p : ℕ) (trace : List EntryRecord) (m : Meter) (h : IsFed S layer q p trace m) where
  abbrev t : Tally
  t = kept_at counted m.horizon m.pair

  at_horizon : t.tick ≡ S.horizon
  at_horizon = (pair_known S layer q p trace m h).behind ∙ h.horizon

  knows : Knows (suspects layer trace q p) (end_of S q p) t
  knows = (pair_known S layer q p trace m h).knows

  pub closed_is : closed m ≡ pair_measures S trace layer q p
  unfolding pair_measures
  closed_is =
      (λ i. told (h.same_layer i) (h.observer i) (h.subject i) (h.crash i) t)
      ∙ told_is S layer q p (suspects layer trace q p) t knows at_horizon

module _ (S : Record) (layer : ℕ) (trace : List EntryRecord) (pairs : Pairs Tally) (h : ArePairs counted S layer new_tally trace pairs) where
  module _ (i j : ℕ) (l : i < S.processes) (m : j < S.processes) where
    pair_is : pair pairs i j ≡ fed counted S layer (suc i) (suc j) new_tally trace
    pair_is = ap (λ n. get_or pairs.pairs.items (i * n + j) (opened 0 new_tally)) h.processes ∙ h.each i j (opened 0 new_tally) l m

    end_is : (pair pairs i j).end ≡ end_of S (suc i) (suc j)
    end_is = ap (λ (x : Pair Tally). x.end) pair_is ∙ (fed_known counted (λ (t : Tally). t.tick) Knows tallies_keep S layer (suc i) (suc j) new_tally trace refl none_known h.in_order).same_end

  metered_fed : (i j : ℕ) → i < S.processes → j < S.processes → IsFed S layer (suc i) (suc j) trace (metered pairs i j)
  metered_fed i j l m = record {
    same_layer = h.same_layer;
    observer = add-one i;
    subject = add-one j;
    horizon = h.horizon;
    crash = crash_is S (suc i) (suc j) (pair pairs i i).end (pair pairs j j).end pairs.horizon (omega (arith, end_is i i l l)) (omega (arith, end_is j j m m)) h.horizon;
    in_order = h.in_order;
    pair = pair_is i j l m;
  }

  row_is : (i : ℕ) → i < S.processes → closed_row pairs i ≡ map (pair_measures S trace layer (suc i)) (others S.processes (suc i))
  row_is i l =
      ap (λ n. map (λ p. closed (metered pairs i (p - 1))) (others n (suc i))) h.processes
      ∙ others_same (λ p. closed (metered pairs i (p - 1))) (pair_measures S trace layer (suc i)) S.processes (suc i)
      (λ j m. ap (λ k. closed (metered pairs i k)) (omega arith) ∙ closed_is S layer (suc i) (suc j) trace (metered pairs i j) (metered_fed i j l m))

  pub metering_closed : closed_rows pairs pairs.processes ≡ layer_measures S trace layer
  unfolding layer_measures
  metering_closed =
      ap (closed_rows pairs) h.processes
      ∙ rows_same (λ q. closed_row pairs (q - 1)) (λ q. map (pair_measures S trace layer q) (others S.processes q)) S.processes
      (λ j l. ap (closed_row pairs) (omega arith) ∙ row_is j l)
