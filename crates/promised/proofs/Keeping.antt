-- The numbers of a scenario say of its traces what they are to.
use Rattle.promised.proofs.Words.{◌≡◌, ◌∙◌, sym, ap, refl, ℕ, ◌+◌, ◌-◌, ◌<◌, ◌≤◌, suc, nat_le, nat_lt, Bool, true, false, true≢false, not, ◌&&◌, Option, Some, None, List, [], map, filter_map, arith, unwrap_or, option_map, if◌then◌else◌, le-leb, leb-true, ltb-true, range_with_len, both_true, and_true, is_watched, is_other, is_chosen, DetectorNumbers, Timeout, Freshness, Record, crash, link, outages_on, Link, IsIn, trusts, detected_by, Watches, IsReliable, IsTimely, watch_of, HasNotGrown, IsToDetect, IsLossless, AlwaysSuspects, KeepsPromises, waiting, crash_for, watched_link, watched_by, links_to, watched_links, loses, needed, patience, is_reliable, latency, is_late, lossless, promised, WatchedLink}
use Rattle.promised.proofs.{Elements.{in_range, in_each, in_chosen, below_greatest, none_passes, all_pass, of_range, of_each, of_filter, of_chosen, greatest_in, some_passes}, Reliable.{timely_from, is_lossless, lossless_keeps, reliable_is}}
use Rattle.{std.specs.Option.{option_map_or}, process_api.specs.{Order.{EntryRecord}, Place.{is_process}}}
use Rattle.{scenario_record.specs.Ranges.{IsInRange}, trace_laws.specs.{Setting.{setting_of}, World.{IsTrace}}}
use Rattle.judges.specs.{Out.{crash_tick, is_correct, is_crashed}, Verdicts.{IsProcess, strong_accuracy}}
use Rattle.{judges.proofs.Members.{in_filter, in_image, of_image}, detector_bounds.specs.Bounds.{HasNoMistake}}
use Rattle.detector_bounds.proofs.Kept.{bounds_kept}

-- a bound without a trust is the bound, where it hasn't grown
same_bound : (d : DetectorNumbers) (l : Link) (trusts c : ℕ) → HasNotGrown d trusts → detected_by d l trusts c ≡ detected_by d l 0 c
same_bound (Timeout its) l trusts c none = ap (λ t. detected_by (Timeout its) l t c) (omega (arith, none))
same_bound (Freshness its) l trusts c any = refl

same_some : {a b : ℕ} → Some a ≡ Some b → a ≡ b
same_some e = cc

not_late : (horizon at : ℕ) → nat_le horizon at ≡ false → at < horizon
not_late horizon at h = grind (arith, h)

not_early : (at horizon : ℕ) → not (nat_lt at horizon) ≡ true → horizon ≤ at
not_early at horizon h = grind (arith, h)

-- where a number is made of one that there may be, there is one
made_of : (h : ℕ → ℕ) (o : Option ℕ) (made : ℕ) → option_map h o ≡ Some made → (c : ℕ) × (o ≡ Some c) × (made ≡ h c)
made_of h None made is = absurd (cc)
made_of h (Some c) made is = (c, refl, sym (same_some is))

passes_with : (test : ℕ → Bool) (o : Option ℕ) → option_map_or test o false ≡ true → (c : ℕ) × (o ≡ Some c) × (test c ≡ true)
passes_with test None is = absurd (true≢false (sym is))
passes_with test (Some c) is = (c, refl, is)

some_where : (b : Bool) (o : Option ℕ) (c : ℕ) → (if b then o else None) ≡ Some c → (b ≡ true) × (o ≡ Some c)
some_where true o c is = (refl, is)
some_where false o c is = absurd (cc)

-- what a link needs doesn't depend on how long the detector waits
timely_with : (d : DetectorNumbers) (l : Link) (ticks : ℕ) → needed d l ≤ ticks → IsTimely (waiting d ticks) l
timely_with (Timeout its) l ticks low = (omega (arith, low), omega (arith, low))
timely_with (Freshness its) l ticks low = low

needs_no_more : (d : DetectorNumbers) (l : Link) (ticks : ℕ) → IsTimely (waiting d ticks) l → needed d l ≤ ticks
needs_no_more (Timeout its) l ticks is = omega (arith, is.0, is.1)
needs_no_more (Freshness its) l ticks is = is

module _ (s : Record) where
  watched_process : (q p : ℕ) → Watches s q p → IsProcess s p
  watched_process q p watches =
      let other = (both_true (is_other q s.processes p) (is_chosen q s.processes (watch_of s.detector) p) watches.1).0 in
      let within = (both_true (is_process s.processes p) _ other).0 in
      let parts = both_true (nat_le 1 p) (nat_le p s.processes) within in
      (leb-true 1 p parts.0, leb-true p s.processes parts.1)

  -- each link by which one watches another is among those that are
  watched_there : (q p : ℕ) → Watches s q p → IsIn (watched_link s q p) (watched_links s)
  watched_there q p watches =
      let subject = watched_process q p watches in
      in_each (links_to s) q (watched_link s q p) (range_with_len 1 s.processes)
      (in_range q 1 s.processes watches.0.0 (omega (arith, watches.0.1)))
      (in_image (watched_link s q) (watched_by s q) p
      (in_filter (is_watched q s.processes (watch_of s.detector)) (range_with_len 1 s.processes) p
      (in_range p 1 s.processes subject.0 (omega (arith, subject.1))) watches.1))

  -- and there are no others
  watched_is : (w : WatchedLink) → IsIn w (watched_links s) → (q p : ℕ) × Watches s q p × (w ≡ watched_link s q p)
  watched_is w there =
      let to = of_each (links_to s) w (range_with_len 1 s.processes) there in
      let within = of_range to.0 1 s.processes to.1 in
      let from = of_image (watched_link s to.0) (watched_by s to.0) w to.2 in
      let chosen = of_filter (is_watched to.0 s.processes (watch_of s.detector)) from.0 (range_with_len 1 s.processes) from.1 in
      (to.0, from.0, ((within.0, omega (arith, within.1)), chosen.1), from.2)

  -- a crash that is to be detected is the one of its link
  crash_there : (q p c : ℕ) → IsToDetect s q p c → crash_for s q p ≡ Some c
  crash_there q p c is =
      let tick : crash_tick s p ≡ c = ap (λ o. unwrap_or o (suc s.horizon)) is.crashes in
      let correct : is_correct s q ≡ true = grind (arith, is.correct) in
      let crashed : is_crashed s p ≡ true = le-leb (suc (crash_tick s p)) s.horizon (omega (arith, tick, is.below)) in
      ap (λ b. if b then crash s p else None) (and_true (is_correct s q) (is_crashed s p) correct crashed) ∙ is.crashes

  crash_is : (q p c : ℕ) → Watches s q p → crash_for s q p ≡ Some c → IsToDetect s q p c
  crash_is q p c watches is =
      let its = some_where (is_correct s q && is_crashed s p) (crash s p) c is in
      let both = both_true (is_correct s q) (is_crashed s p) its.0 in
      let tick : crash_tick s p ≡ c = ap (λ o. unwrap_or o (suc s.horizon)) its.1 in
      let late : s.horizon ≤ crash_tick s q = not_early (crash_tick s q) s.horizon both.0 in
      let early : crash_tick s p < s.horizon = ltb-true (crash_tick s p) s.horizon both.1 in
      record {
        correct = (watches.0, omega (arith, late));
        watches = watches;
        crashes = its.1;
        below = omega (arith, tick, early);
      }

  its_latency : (q p c : ℕ) → IsToDetect s q p c
      → latency s.detector (watched_link s q p) ≡ Some (detected_by s.detector (link s p q) 0 c - c)
  its_latency q p c is = ap (option_map (λ at. detected_by s.detector (link s p q) 0 at - at)) (crash_there q p c is)

  at_most : (q p l : ℕ) → Watches s q p → latency s.detector (watched_link s q p) ≡ Some l
      → (most : ℕ) × ((promised s).detection ≡ Some most) × (l ≤ most)
  at_most q p l watches is =
      below_greatest l (filter_map (latency s.detector) (watched_links s))
      (in_chosen (latency s.detector) (watched_link s q p) l (watched_links s) (watched_there q p watches) is)

  in_time : (promised s).is_late ≡ false → (q p c l : ℕ) → IsToDetect s q p c
      → latency s.detector (watched_link s q p) ≡ Some l → c + l < s.horizon
  in_time none q p c l is its =
      let late = is_late s.detector s.horizon in
      let at = detected_by s.detector (link s p q) 0 c in
      let passes : late (watched_link s q p) ≡ false = none_passes late (watched_link s q p) (watched_links s) (watched_there q p is.watches) none in
      let same : nat_le s.horizon at ≡ late (watched_link s q p) =
      ap (λ o. option_map_or (λ crash. nat_le s.horizon (detected_by s.detector (link s p q) 0 crash)) o false) (sym (crash_there q p c is)) in
      let early : at < s.horizon = not_late s.horizon at (same ∙ passes) in
      let length : l ≡ at - c = same_some (sym its ∙ its_latency q p c is) in
      omega (arith, early, is.below, length)

  attained : (most : ℕ) → (promised s).detection ≡ Some most
      → (q p c : ℕ) × IsToDetect s q p c × (most ≡ detected_by s.detector (link s p q) 0 c - c)
  attained most is =
      let of = of_chosen (latency s.detector) most (watched_links s) (greatest_in most (filter_map (latency s.detector) (watched_links s)) is) in
      let by = watched_is of.0 of.1 in
      let its : latency s.detector (watched_link s by.0 by.1) ≡ Some most = ap (latency s.detector) (sym by.3) ∙ of.2 in
      let made = made_of (λ at. detected_by s.detector (link s by.1 by.0) 0 at - at) (crash_for s by.0 by.1) most its in
      (by.0, by.1, made.0, crash_is by.0 by.1 made.0 by.2 made.1, made.2)

  late : (promised s).is_late ≡ true
      → (q p c : ℕ) × IsToDetect s q p c × (s.horizon ≤ detected_by s.detector (link s p q) 0 c)
  late is =
      let of = some_passes (is_late s.detector s.horizon) (watched_links s) is in
      let by = watched_is of.0 of.1 in
      let its : is_late s.detector s.horizon (watched_link s by.0 by.1) ≡ true = ap (is_late s.detector s.horizon) (sym by.3) ∙ of.2 in
      let test : ℕ → Bool = λ at. nat_le s.horizon (detected_by s.detector (link s by.1 by.0) 0 at) in
      let with_one = passes_with test (crash_for s by.0 by.1) its in
      (by.0, by.1, with_one.0, crash_is by.0 by.1 with_one.0 by.2 with_one.1, leb-true s.horizon (detected_by s.detector (link s by.1 by.0) 0 with_one.0) with_one.2)

  suffices : (q p : ℕ) → IsLossless s q p
      → (ticks : ℕ) × ((promised s).needed ≡ Some ticks) × IsTimely (waiting s.detector ticks) (link s p q)
  suffices q p is =
      let w = watched_link s q p in
      let need : WatchedLink → ℕ = λ x. needed s.detector x.link in
      let there = in_filter (λ x. not (loses x)) (watched_links s) w (watched_there q p is.watches) (is_lossless s q p is.no_loss is.no_outage) in
      let most = below_greatest (need w) (map need (lossless s)) (in_image need (lossless s) w there) in
      (most.0, most.1, timely_with s.detector (link s p q) most.0 most.2)

  least : (ticks : ℕ) → (promised s).needed ≡ Some ticks
      → (q p : ℕ) × IsLossless s q p × ((fewer : ℕ) → IsTimely (waiting s.detector fewer) (link s p q) → ticks ≤ fewer)
  least ticks told =
      let need : WatchedLink → ℕ = λ x. needed s.detector x.link in
      let of = of_image need (lossless s) ticks (greatest_in ticks (map need (lossless s)) told) in
      let chosen = of_filter (λ x. not (loses x)) of.0 (watched_links s) of.1 in
      let by = watched_is of.0 chosen.0 in
      let kept = lossless_keeps s by.0 by.1 (ap (λ x. not (loses x)) (sym by.3) ∙ chosen.1) in
      let same : ticks ≡ needed s.detector (link s by.1 by.0) = of.2 ∙ ap need by.3 in (
        by.0,
        by.1,
        record { watches = by.2; no_loss = kept.0; no_outage = kept.1 },
        λ fewer timely. let low = needs_no_more s.detector (link s by.1 by.0) fewer timely in omega (arith, same, low),
      )

  wants_no_more : (ticks : ℕ) → (promised s).needed ≡ Some ticks → ticks ≤ patience s.detector → (q p : ℕ) → Watches s q p
      → (link s p q).loss ≡ 0 → outages_on s p q ≡ [] → IsReliable s p q
  wants_no_more ticks told enough q p watches loss outages =
      let w = watched_link s q p in
      let there = in_filter (λ x. not (loses x)) (watched_links s) w (watched_there q p watches) (is_lossless s q p loss outages) in
      let most = below_greatest (needed s.detector w.link) (map (λ x. needed s.detector x.link) (lossless s)) (in_image (λ x. needed s.detector x.link) (lossless s) w there) in
      let same : ticks ≡ most.0 = same_some (sym told ∙ most.1) in
      record {
        no_loss = loss;
        no_outage = outages;
        timely = timely_from s.detector (link s p q) (omega (arith, same, enough, most.2));
      }

  module _ (ranges : IsInRange s) where
    detects : (q p c : ℕ) → IsToDetect s q p c → AlwaysSuspects s q p (detected_by s.detector (link s p q) 0 c)
    detects q p c is trace is_trace not_grown u since below =
        let kept = bounds_kept s ranges trace is_trace in
        let same = same_bound s.detector (link s p q) (trusts trace q p) c not_grown in
        kept.detects q p c is.correct is.watches (watched_process q p is.watches, is.crashes, is.below) u
        (omega (arith, same, since)) below

    no_mistake : (q p : ℕ) → Watches s q p → is_reliable s.detector (watched_link s q p) ≡ true
        → (trace : List EntryRecord) → IsTrace (setting_of s) trace → HasNoMistake s trace q p
    no_mistake q p watches is trace is_trace = (bounds_kept s ranges trace is_trace).accurate q p watches ((reliable_is s q p).0 is)

    accurate : (promised s).reliable ≡ (promised s).watched → (trace : List EntryRecord) → IsTrace (setting_of s) trace
        → strong_accuracy s trace 1 ≡ true
    accurate all trace is_trace =
        (bounds_kept s ranges trace is_trace).all_accurate (λ q p watches.
        (reliable_is s q p).0
        (all_pass (is_reliable s.detector) (watched_link s q p) (watched_links s) (watched_there q p watches) all))

    pub promises_kept : KeepsPromises s (promised s)
    promises_kept = record {
      reliable = λ q p watches. reliable_is s q p;
      no_mistake = no_mistake;
      accurate = accurate;
      detects = λ q p c is. (
        detected_by s.detector (link s p q) 0 c - c,
        its_latency q p c is,
        λ trace is_trace not_grown u since below. detects q p c is trace is_trace not_grown u (omega (arith, since)) below,
      );
      at_most = λ q p l watches is. let it = at_most q p l watches is in (it.0, it.1, omega (arith, it.2));
      attained = attained;
      in_time = λ none q p c l is its. omega (arith, in_time none q p c l is its);
      late = late;
      needed = λ ticks told enough. wants_no_more ticks told (omega (arith, enough));
      suffices = suffices;
      least = least;
    }
