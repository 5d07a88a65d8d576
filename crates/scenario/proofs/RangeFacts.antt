-- The record of a table to which no rule applies is in its ranges.
use Rattle.scenario.proofs.Words.{◌≡◌, ◌≢◌, ℕ, zero, suc, ◌-◌, ◌<◌, ◌≤◌, ◌^◌, ◌==◌, ℤ, List, [], ◌∷◌, ◌++◌, map, filter, find, length, get_or, Bool, true, false, not, ◌&&◌, ◌||◌, Option, Some, None, is_some, is_none, refl, ap, sym, ◌∙◌, arith, subst, codes, cond, IfSome, option_map, option_map_or, unwrap_or, ForSome, range_with_len, flat_map, list_any, slice_get, ltb-false, ne_eqb, eqb-true, not-false, length-map, get_or_past, slice_get-get_or, slice_get_past, length-range_with_len, get_or-range_with_len, length-map-range_with_len, list_any-append, Members, Record, proposal, crash, link, no_link, IsLink, IsInRange, has_key, integers_at, table_at, table_or_empty, tables_at, natural_of, natural, number_at, is_second, algorithm_in, processes_of, is_fresh, timeout_of, freshness_of, detector_of, share_of, delays_of, pair_of, same_pair, link_among, crash_process, crash_tick, crash_among, crashes_among, record_of, is_bad_proposal, are_other_than, are_bad_proposals, is_bad_detector, is_bad_timeout, is_bad_freshness, is_bad_share, is_bad_link, is_bad_pair, are_bad_pairs, is_bad_crash, are_bad_crashes, is_below, pairs, pairs_from, pair_below, most_in, key_refusals, number_refusals, part_refusals, outage_refusals, refusal_of, AreProcesses}
use Rattle.scenario.proofs.{Firsts.{are_none, untrue, no_pair}, Within.{neither, within, within_of, first_inside}, Slots.{some_found}, Taking.{link_at, links_length}, Cuts.{outages_in_range}, ProposalFacts.{no_key}}
use Rattle.process_api.specs.declared.numbers.DetectorNumbers.TheVariants as numbers
use Rattle.scenario_record.specs.{Ranges.{AreInRange, AreTimeoutInRange, AreFreshnessInRange, is_idle}, declared.algorithm.AlgorithmKind.{AlgorithmKind}}
use Rattle.scenario_record.specs.declared.algorithm.AlgorithmKind.TheVariants as kind
use Rattle.process_api.specs.Place.{last_tick, most_processes, most_ticks}

-- the same fact in two forms
for_some : {T : Type 0} (o : Option T) (P : T → Type 0) → IfSome o P → ForSome o P
for_some None P p = λ x e. cc
for_some (Some y) P p = λ x e. let same : y ≡ x = cc in subst P same p

-- ---- the detector and the shares

timeout_in_range : (d : Members) → is_bad_timeout d ≡ false → AreTimeoutInRange (timeout_of d)
unfolding is_bad_timeout
timeout_in_range d e =
    let period = first_inside _ _ _ _ _ _ e in
    let check = first_inside _ _ _ _ _ _ period.2 in
    let timeout = first_inside _ _ _ _ _ _ check.2 in
    let grow = first_inside _ _ _ _ _ _ timeout.2 in
    record {
      period_low = period.0;
      period_high = period.1;
      check_low = check.0;
      check_high = check.1;
      timeout_low = timeout.0;
      timeout_high = timeout.1;
      grow_low = grow.0;
      grow_high = grow.1;
    }

freshness_in_range : (d : Members) → is_bad_freshness d ≡ false → AreFreshnessInRange (freshness_of d)
unfolding is_bad_freshness
freshness_in_range d e =
    let eta = first_inside _ _ _ _ _ _ e in
    let delta = first_inside _ _ _ _ _ _ eta.2 in
    record { eta_low = eta.0; eta_high = eta.1; delta_low = delta.0; delta_high = delta.1 }

detector_in_range : (d : Members) → is_bad_detector d ≡ false → AreInRange (detector_of d)
unfolding is_bad_detector
detector_in_range d e =
    elim (is_fresh d) as (λ b. cond b (is_bad_freshness d) (is_bad_timeout d) ≡ false → AreInRange (cond b (numbers.Freshness (freshness_of d)) (numbers.Timeout (timeout_of d)))) [
      | true ↦ freshness_in_range d
      | false ↦ timeout_in_range d
    ] (neither _ _ e).1

share_in_range : (o : Option Members) → option_map_or is_bad_share o false ≡ false → IfSome (option_map share_of o) (λ period. (1 ≤ period) × (period ≤ most_ticks))
share_in_range None e = tt
share_in_range (Some s) e = within 1 most_ticks (codes "period") 0 s e

-- ---- the proposals

proposal_high : (z : ℤ) → is_bad_proposal z ≡ false → natural z < 2 ^ 32
proposal_high z e = let ends = within_of 0 4294967295 (natural_of z) e in omega arith

proposals_high : (zs : List ℤ) (i : ℕ) → list_any is_bad_proposal zs ≡ false → IfSome (slice_get (map natural zs) i) (λ value. value < 2 ^ 32)
proposals_high [] i e = tt
proposals_high (z ∷ zs) zero e = proposal_high z (neither _ _ e).0
proposals_high (z ∷ zs) (suc i) e = proposals_high zs i (neither _ _ e).1

-- ---- the links and the crashes

link_in_range : (l : Members) → is_bad_link l ≡ false → IsLink (delays_of l)
unfolding is_bad_link
link_in_range l e =
    let min = first_inside _ _ _ _ _ _ e in
    let max = first_inside _ _ _ _ _ _ min.2 in
    let rest = neither _ _ max.2 in
    let loss = within _ _ _ _ _ rest.1 in
    record { min_low = min.0; min_high = ltb-false _ _ rest.0; max_high = max.1; loss_high = loss.1 }

good_pair : (n : ℕ) (l : Members) → is_bad_pair n l ≡ false → is_bad_link l ≡ false
unfolding is_bad_pair
good_pair n l e = (neither _ _ e).0

good_crash : (n : ℕ) (c : Members) → is_bad_crash n c ≡ false → crash_tick c ≤ last_tick
unfolding is_bad_crash
good_crash n c e = (within 0 last_tick (codes "at") 0 c (neither _ _ e).1).1

-- what a search finds passes where all do
found_good : (p bad : Members → Bool) (P : Members → Type 0) → ((t : Members) → bad t ≡ false → P t) → (ts : List Members) → list_any bad ts ≡ false → IfSome (find p ts) P
found_good p bad P from [] e = tt
found_good p bad P from (t ∷ ts) e =
    let a = neither (bad t) (list_any bad ts) e in
    elim (p t) as (λ b. IfSome (cond b (Some t) (find p ts)) P) [ true ↦ from t a.0 | false ↦ found_good p bad P from ts a.1 ]

chosen_link : (common : Members) (o : Option Members) → is_bad_link common ≡ false → IfSome o (λ l. IsLink (delays_of l)) → IsLink (unwrap_or (option_map delays_of o) (delays_of common))
chosen_link common None good found = link_in_range common good
chosen_link common (Some l) good found = found

pair_in_range : (n : ℕ) (common : Members) (tables : List Members) (pair : ℕ × ℕ) → is_bad_link common ≡ false → are_bad_pairs n tables ≡ false → IsLink (link_among (delays_of common) tables pair)
unfolding link_among
pair_in_range n common tables pair good clean =
    chosen_link common (find (λ l. same_pair (pair_of l) pair) tables) good
    (found_good (λ l. same_pair (pair_of l) pair) (is_bad_pair n) (λ l. IsLink (delays_of l)) (λ l e. link_in_range l (good_pair n l e)) tables (neither _ _ clean).0)

crash_in_range : (n : ℕ) (tables : List Members) (p : ℕ) → are_bad_crashes n tables ≡ false → IfSome (crash_among tables p) (λ at. at ≤ last_tick)
unfolding crash_among
crash_in_range n tables p clean =
    its (find (λ c. crash_process c == p) tables) (found_good (λ c. crash_process c == p) (is_bad_crash n) (λ c. crash_tick c ≤ last_tick) (good_crash n) tables (neither _ _ clean).0)
  where
    its : (o : Option Members) → IfSome o (λ c. crash_tick c ≤ last_tick) → IfSome (option_map crash_tick o) (λ at. at ≤ last_tick)
    its None found = tt
    its (Some c) found = found

each_in_range : (f : ℕ → Option ℕ) → ((p : ℕ) → IfSome (f p) (λ at. at ≤ last_tick)) → (xs : List ℕ) (i : ℕ) → IfSome (get_or (map f xs) i None) (λ at. at ≤ last_tick)
each_in_range f good [] i = tt
each_in_range f good (x ∷ xs) zero = good x
each_in_range f good (x ∷ xs) (suc i) = each_in_range f good xs i

crashes_in_range : (n : ℕ) (tables : List Members) (i : ℕ) → are_bad_crashes n tables ≡ false → IfSome (get_or (crashes_among tables n) i None) (λ at. at ≤ last_tick)
unfolding crashes_among
crashes_in_range n tables i clean = each_in_range (crash_among tables) (λ p. crash_in_range n tables p clean) (range_with_len 1 n) i

no_crash_above : (n : ℕ) (tables : List Members) (p : ℕ) → n < p → get_or (crashes_among tables n) (p - 1) None ≡ None
unfolding crashes_among
no_crash_above n tables p above = get_or_past (map (crash_among tables) (range_with_len 1 n)) (p - 1) None (simp length-map-range_with_len (omega arith))

-- ---- pairs

none_in_range : (p : ℕ → Bool) (n i : ℕ) → list_any p (range_with_len 1 n) ≡ false → 1 ≤ i → i ≤ n → p i ≡ false
none_in_range p n i e low high =
    let its : get_or (range_with_len 1 n) (i - 1) 0 ≡ i = get_or-range_with_len 1 n (i - 1) 0 (omega arith) ∙ omega arith in
    ap p (sym its) ∙ none_at (range_with_len 1 n) (i - 1) e (simp length-range_with_len (omega arith))
  where
    none_at : (xs : List ℕ) (k : ℕ) → list_any p xs ≡ false → k < length xs → p (get_or xs k 0) ≡ false
    none_at [] k e lt = absurd (omega arith)
    none_at (x ∷ xs) zero e lt = (neither _ _ e).0
    none_at (x ∷ xs) (suc k) e lt = none_at xs k (neither _ _ e).1 (omega arith)

any_flat : {X : Type 0} (P : X → Bool) (g : ℕ → List X) (xs : List ℕ) → list_any P (flat_map g xs) ≡ list_any (λ x. list_any P (g x)) xs
any_flat P g [] = refl
any_flat P g (x ∷ xs) = list_any-append P (g x) (flat_map g xs) ∙ ap (λ b. list_any P (g x) || b) (any_flat P g xs)

any_kept : {X : Type 0} (P : X → Bool) (h : ℕ → X) (q : ℕ → Bool) (xs : List ℕ) → list_any P (map h (filter q xs)) ≡ list_any (λ x. q x && P (h x)) xs
any_kept P h q [] = refl
any_kept P h q (x ∷ xs) = elim (q x) as (λ b. list_any P (map h (cond b (x ∷ filter q xs) (filter q xs))) ≡ ((b && P (h x)) || list_any (λ y. q y && P (h y)) xs))
    [ true ↦ ap (λ b. P (h x) || b) (any_kept P h q xs) | false ↦ any_kept P h q xs ]

-- where no pair is below the lookahead, a pair isn't
not_below : (s : Record) (from to : ℕ) → is_some (pair_below s) ≡ false → 1 ≤ from → from ≤ s.processes → 1 ≤ to → to ≤ s.processes → from ≢ to → s.lookahead ≤ (link s from to).min
unfolding pair_below
not_below s from to e from_low from_high to_low to_high differ =
    let P : ℕ × ℕ → Bool = is_below (λ pair. link s pair.0 pair.1) s.lookahead in
    let none : list_any P (pairs s.processes) ≡ false = sym (some_found P (pairs s.processes)) ∙ e in
    let row : list_any P (pairs_from s.processes from) ≡ false =
    none_in_range (λ x. list_any P (pairs_from s.processes x)) s.processes from (sym (any_flat P (pairs_from s.processes) (range_with_len 1 s.processes)) ∙ none) from_low from_high in
    let cell : (not (to == from) && P (from, to)) ≡ false =
    none_in_range (λ x. not (x == from) && P (from, x)) s.processes to (sym (any_kept P (λ x. (from, x)) (λ x. not (x == from)) (range_with_len 1 s.processes)) ∙ row) to_low to_high in
    let other : (to == from) ≡ false = ne_eqb to from (λ f. differ (sym f)) in
    ltb-false _ _ (rw other at cell)

-- ---- the algorithm

algorithm_is : (t : Members) → is_none (algorithm_in t) ≡ false → algorithm_in t ≡ Some (unwrap_or (algorithm_in t) kind.Idle)
algorithm_is t e = some_of (algorithm_in t) kind.Idle e
  where
    some_of : {T : Type 0} (o : Option T) (d : T) → is_none o ≡ false → o ≡ Some (unwrap_or o d)
    some_of None d e = cc
    some_of (Some x) d e = refl

not_other : (n : ℕ) (b : Bool) (zs : List ℤ) → are_other_than n b zs ≡ false → (length zs ≡ n) × (list_any is_bad_proposal zs ≡ false)
unfolding are_other_than
not_other n b zs e =
    let first = neither (not b) (not (length zs == n) || list_any is_bad_proposal zs) e in
    let second = neither (not (length zs == n)) (list_any is_bad_proposal zs) first.1 in
    (eqb-true (length zs) n (not-false (length zs == n) second.0), second.1)

module _ (n : ℕ) (t : Members) where
  abbrev pub values : List ℕ
  values = map natural (integers_at (codes "proposals") t)

  -- they are in their range, and there is one of each process unless there is no algorithm
  pub record AreProposals (k : AlgorithmKind) : Type 0 where
    pub high : (i : ℕ) → IfSome (slice_get values i) (λ value. value < 2 ^ 32)
    pub each : (i : ℕ) → i < n → is_some (slice_get values i) ≡ not (is_idle k)
    pub above : (i : ℕ) → n ≤ i → slice_get values i ≡ None

  one_of_each : (k : AlgorithmKind) → is_idle k ≡ false → are_other_than n (has_key (codes "proposals") t) (integers_at (codes "proposals") t) ≡ false → AreProposals k
  one_of_each k other e =
      let good = not_other n (has_key (codes "proposals") t) (integers_at (codes "proposals") t) e in
      let count : length values ≡ n = length-map (integers_at (codes "proposals") t) natural ∙ good.0 in
      record {
        high = λ i. proposals_high (integers_at (codes "proposals") t) i good.1;
        each = λ i lt. ap is_some (slice_get-get_or values i 0 (omega arith)) ∙ ap not (sym other);
        above = λ i le. slice_get_past values i (omega arith);
      }

  accepted_proposals : (k : AlgorithmKind) → are_bad_proposals (Some k) n (has_key (codes "proposals") t) (integers_at (codes "proposals") t) ≡ false → AreProposals k
  accepted_proposals kind.Idle e =
      let none : values ≡ [] = ap (map natural) (no_key (codes "proposals") t e) in
      record { high = λ i. rw none tt; each = λ i lt. rw none refl; above = λ i le. rw none refl }
  accepted_proposals kind.Strong e = one_of_each kind.Strong refl e
  accepted_proposals kind.EventuallyStrong e = one_of_each kind.EventuallyStrong refl e

-- ---- all of it

most_few : (second : Bool) → most_in second ≤ most_processes
most_few true = omega arith
most_few false = omega arith

pub in_range : (t : Members) → refusal_of t ≡ None → number_at (codes "seed") 0 t < 2 ^ 63 → IsInRange (record_of t)
unfolding refusal_of
in_range t none seed =
    let passes = are_none (key_refusals t ++ (number_refusals t ++ (part_refusals t ++ outage_refusals t))) none in
    let n : ℕ = processes_of t in
    let numbers = passes.1.1.1 in
    let parts = numbers.1.1.1.1.1.1 in
    let processes = within 1 (most_in (is_second t)) (codes "processes") 0 t (untrue _ _ numbers.1.0) in
    let few : most_in (is_second t) ≤ most_processes = most_few (is_second t) in
    let horizon = within 1 last_tick (codes "horizon") 0 t (untrue _ _ numbers.1.1.0) in
    let lookahead = within 1 most_ticks (codes "lookahead") 0 t (untrue _ _ numbers.1.1.1.0) in
    let limit = within 1 100000000 (codes "limit") 1000000 t (untrue _ _ numbers.1.1.1.1.0) in
    let algorithm : algorithm_in t ≡ Some (unwrap_or (algorithm_in t) kind.Idle) = algorithm_is t (untrue _ _ parts.0) in
    let proposals : AreProposals n t (unwrap_or (algorithm_in t) kind.Idle) =
    accepted_proposals n t (unwrap_or (algorithm_in t) kind.Idle) (ap (λ a. are_bad_proposals a n (has_key (codes "proposals") t) (integers_at (codes "proposals") t)) (sym algorithm) ∙ untrue _ _ parts.1.0) in
    let links = neither (is_bad_link (table_or_empty (codes "link") t)) (are_bad_pairs (processes_of t) (tables_at (codes "links") t)) (untrue _ _ parts.1.1.1.1.0) in
    record {
      processes_low = processes.0;
      processes_high = omega arith;
      horizon_low = horizon.0;
      horizon_high = horizon.1;
      lookahead_low = lookahead.0;
      lookahead_high = lookahead.1;
      limit_low = limit.0;
      limit_high = limit.1;
      seed_high = seed;
      numbers = detector_in_range (table_or_empty (codes "detector") t) (untrue _ _ parts.1.1.0);
      share = for_some (option_map share_of (table_at (codes "share") t)) (λ period. (1 ≤ period) × (period ≤ most_ticks)) (share_in_range (table_at (codes "share") t) (untrue _ _ parts.1.1.1.0));
      proposals = λ p. for_some (proposal (record_of t) p) (λ value. value < 2 ^ 32) (proposals.high (p - 1));
      proposed = λ p low high. proposals.each (p - 1) (omega arith);
      crashes = λ p. for_some (crash (record_of t) p) (λ at. at ≤ last_tick) (crashes_in_range (processes_of t) (tables_at (codes "crash") t) (p - 1) (untrue _ _ parts.1.1.1.1.1.1.0));
      proposed_above = λ p above. proposals.above (p - 1) (omega arith);
      crashed_above = λ p above. no_crash_above (processes_of t) (tables_at (codes "crash") t) p above;
      linked = links_length (delays_of (table_or_empty (codes "link") t)) (tables_at (codes "links") t) (processes_of t);
      links = λ from to from_low from_high to_low to_high.
          let good : AreProcesses (processes_of t) (from, to) = record { from = record { low = from_low; high = from_high }; to = record { low = to_low; high = to_high } } in
          subst (λ l. IsLink l) (sym (link_at (delays_of (table_or_empty (codes "link") t)) (tables_at (codes "links") t) (processes_of t) (from, to) no_link good))
          (pair_in_range (processes_of t) (table_or_empty (codes "link") t) (tables_at (codes "links") t) (from, to) links.0 links.1);
      ahead = λ from to from_low from_high to_low to_high differ. not_below (record_of t) from to (no_pair _ parts.1.1.1.1.1.0) from_low from_high to_low to_high differ;
      outages = λ from to from_low from_high to_low to_high.
          outages_in_range (processes_of t) (tables_at (codes "outage") t) (from, to)
          (record { from = record { low = from_low; high = from_high }; to = record { low = to_low; high = to_high } }) (untrue _ _ parts.1.1.1.1.1.1.1.0);
    }
