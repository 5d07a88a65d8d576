-- Every trace of a scenario with time-outs keeps their bounds.
use Rattle.std.proofs.Common.{◌≡◌, ◌≢◌, ℕ, zero, suc, ◌+◌, ◌-◌, ◌*◌, ◌<◌, ◌≤◌, refl, sym, ap, ◌∙◌, subst, true, false, Option, Some, List, arith, leb-false, ◌/◌}
use Rattle.std.specs.FinSet as set
use Rattle.detector_bounds.proofs.Words.{suspected_by, EntryRecord, Mind, is_process, is_watched, Timeout, TimeoutNumbers, AreInRange, AreTimeoutInRange, IsInRange, Record, crash, link, fate_of, Delay, setting_of, IsSound, has_crashed, World, NoneBelow, IsTrace, entries, setting_sound, crash_tick, out, detected_at, HasNoMistake, CrashesAt, KeepsBounds, trusts, last_letter, grown, detected_by, longest, Watches, IsReliable, IsTimely, watch_of}
use Rattle.detector_bounds.proofs.{Ending.{IsKept, IsEnd, ending, holds_at}, Fates.{fate_within, delivers}, Instances.{runs_timeout, timeout_step, timeout_suspects, timeout_seen}}
use Rattle.detector_bounds.proofs.{Multiples.{from_tick, soon_from, at_most_last, last_is_before}, Standing.{Stands, stands_first, stands_next, out_is}}
use Rattle.detector_bounds.proofs.Timeouts.{Joined.{RunsTimeout, place_of}, Detecting.{IsPair, AreTicks, suspected_then, Awaits, awaits_kept, firm}, Trusted.{trusts-append}, Watched.{suspects_watched}, Stepping.{state_in}}
use Rattle.detector_bounds.proofs.{Watching.{process_is, watched_is, up_until, down_from}, Verdicts.{pairs_keep}}
use Rattle.process_api.specs.Timeout.{watches, opening_timeout}
use Rattle.judges.specs.Verdicts.{IsProcess, IsCorrect, From, Suspects}
use Rattle.detector_bounds.proofs.Timeouts.Trusting as trusting

module _ (s : Record) (ranges : IsInRange s) (its : TimeoutNumbers) (kind : s.detector ≡ Timeout its) where
  abbrev pub sound : IsSound (setting_of s)
  sound = setting_sound s ranges

  abbrev pub runs : RunsTimeout (setting_of s) its
  runs = runs_timeout s its kind

  in_range : AreTimeoutInRange its
  in_range = subst AreInRange kind ranges.numbers

  -- ---- who watches whom

  module _ (q p : ℕ) (watching : Watches s q p) where
    watched : watches (place_of (setting_of s) q) its p ≡ true
    watched = ap (λ k. is_watched q s.processes (watch_of k) p) (sym kind) ∙ watching.1

    apart : q ≢ p
    apart = (watched_is s q p watching).2

    subject : IsProcess s p
    subject = let other = watched_is s q p watching in (other.0, other.1)

    subject_is : is_process s.processes p ≡ true
    subject_is = process_is s.processes p subject.0 subject.1

  -- ---- at the end of a tick

  module _ (trace : List EntryRecord) (is_trace : IsTrace (setting_of s) trace) (t : ℕ) (below : t < s.horizon) where
    at_end : IsEnd (setting_of s) sound trace (t + 1)
    at_end = ending (setting_of s) sound trace is_trace (t + 1) (omega (arith, below))

    stands : Stands (setting_of s) sound (opening_timeout its) (timeout_step s its) (timeout_suspects s its) runs t at_end.world (entries at_end.history)
    stands = holds_at (setting_of s) sound trace (t + 1) at_end (Stands (setting_of s) sound (opening_timeout its) (timeout_step s its) (timeout_suspects s its) runs t) (record {
      opens = stands_first (setting_of s) sound (opening_timeout its) (timeout_step s its) (timeout_suspects s its) runs t;
      keeps = λ w past key x is holds least early. stands_next (setting_of s) sound (opening_timeout its) (timeout_step s its) (timeout_suspects s its) runs t w past key x is holds least (omega (arith, early));
    })

    -- OUT is the detector's set
    out_then : (q p : ℕ) → is_process s.processes p ≡ true → out 1 trace q t p ≡ set.contains (state_in (setting_of s) sound its runs at_end.world q).suspects p
    out_then q p one = out_is (setting_of s) sound (opening_timeout its) (timeout_step s its) (timeout_suspects s its) runs trace t at_end stands q p one

    few_trusts : (q p : ℕ) → trusts (entries at_end.history) q p ≤ trusts trace q p
    few_trusts q p = omega (arith, ap (λ xs. trusts xs q p) at_end.whole, trusts-append (entries at_end.history) at_end.later q p)

  -- ---- crashes

  up_before : (o : Option ℕ) (c t : ℕ) → o ≡ Some c → has_crashed o t ≡ false → t < c
  up_before o c t is up = leb-false c t (ap (λ z. has_crashed z t) (sym is) ∙ up)

  -- ---- detection

  module _ (trace : List EntryRecord) (q p c : ℕ) (watching : Watches s q p) (crashes : CrashesAt s trace p c) where
    abbrev pub last : ℕ
    last = last_letter its (link s p q) c

    abbrev pub total : ℕ
    total = trusts trace q p

    abbrev pub until : ℕ
    until = detected_by (Timeout its) (link s p q) total c

    pub until_is : detected_at s trace q p c ≡ until
    until_is = ap (λ k. detected_by k (link s p q) total c) kind

    delays : (link s p q).min ≤ (link s p q).max
    delays = let of_p = subject q p watching in (ranges.links p q of_p.0 of_p.1 watching.0.0 watching.0.1).min_high

    by_last : (t j number delay : ℕ) → t ≡ j * its.period → t < s.horizon → has_crashed (crash s p) t ≡ false → 1 ≤ number → fate_of s p q number t ≡ Delay delay → t + delay ≤ last
    by_last t j number delay at below up some f = go c (up_before (crash s p) c t crashes.1 up)
      where
        go : (c : ℕ) → t < c → t + delay ≤ last_letter its (link s p q) c
        go zero none = absurd (omega (arith, none))
        go (suc before) early = omega (arith, at, at_most_last its.period (suc before) in_range.period_low j (omega (arith, at, early)), (fate_within s p q delays number t delay f).1)

    pub ticks : until < s.horizon → AreTicks (setting_of s) sound its runs q p last until total
    ticks below = record {
      by_last = by_last;
      number = (last + grown its total + (its.check - 1)) / its.check;
      multiple = refl;
      after_last = omega (arith, from_tick its.check (last + grown its total) in_range.check_low);
      below = below;
      some_timeout = in_range.timeout_low;
    }

    pub pair : IsCorrect s q → IsPair (setting_of s) sound its runs q p
    pair correct = record {
      watching = watching.0;
      watched = watched q p watching;
      apart = apart q p watching;
      up = λ u early. up_until s q u (omega (arith, early, correct.1)) u (omega arith);
    }

    pub timeout_detects : IsTrace (setting_of s) trace → IsCorrect s q → From s (Suspects s trace 1 q p) (detected_at s trace q p c)
    timeout_detects is_trace correct t behind below =
        let e = at_end trace is_trace t below in
        let since : until ≤ t = omega (arith, behind, until_is) in
        out_then trace is_trace t below q p (subject_is q p watching)
        ∙ suspected_then (setting_of s) sound its runs q p (pair correct) last until total (ticks (omega (arith, since, below))) t e.history e.world e.run since (few_trusts trace is_trace t below q p)

    -- for layer 2: at every step from then on
    module _ (correct : IsCorrect s q) (early : until < s.horizon) where
      abbrev pub Firmly : World Mind → List EntryRecord → Type 0
      Firmly = Awaits (setting_of s) sound its runs q p (pair correct) last until total (ticks early)

      pub firmly_kept : (end : ℕ) → IsKept (setting_of s) sound end Firmly
      firmly_kept = awaits_kept (setting_of s) sound its runs q p (pair correct) last until total (ticks early)

      pub firmly : (v : World Mind) (past : List EntryRecord) → Firmly v past → trusts past q p ≤ total → NoneBelow (detected_at s trace q p c + 1) v.pending
          → set.contains (suspected_by (v.process q).mind.lower.place (v.process q).mind.lower.detector) p ≡ true
      firmly v past k few none =
          ap (λ z. set.contains z p) (timeout_seen s its kind q (v.process q).mind ((k few).1.based.fits q))
          ∙ firm (setting_of s) sound its runs q p (pair correct) last until total (ticks early) v past k few (subst (λ n. NoneBelow (n + 1) v.pending) until_is none)

    pub timeout_soon : detected_at s trace q p c ≤ c + longest s.detector (link s p q) total c
    timeout_soon = subst (λ k. detected_by k (link s p q) total c ≤ c + longest k (link s p q) total c) (sym kind) (go c)
      where
        go : (c : ℕ) → detected_by (Timeout its) (link s p q) total c ≤ c + longest (Timeout its) (link s p q) total c
        go zero = omega (arith, soon_from its.check (0 + grown its total) in_range.check_low, in_range.check_low, in_range.timeout_low)
        go (suc before) = omega (
          arith,
          soon_from its.check (last_letter its (link s p q) (suc before) + grown its total) in_range.check_low,
          last_is_before its.period (suc before) in_range.period_low,
          in_range.check_low,
          in_range.timeout_low,
        )

  -- ---- accuracy

  module _ (q p : ℕ) (watching : Watches s q p) (reliable : IsReliable s p q) where
    timely_is : IsTimely (Timeout its) (link s p q)
    timely_is = subst (λ k. IsTimely k (link s p q)) kind reliable.timely

    link_delays : (1 ≤ (link s p q).min) × ((link s p q).min ≤ (link s p q).max)
    link_delays = let of_p = subject q p watching in let of = ranges.links p q of_p.0 of_p.1 watching.0.0 watching.0.1 in (of.min_low, of.min_high)

    watches_it : trusting.IsWatching (setting_of s) sound its runs q p (crash_tick s p) (crash_tick s q)
    watches_it = record {
      watching = watching.0;
      subject = subject q p watching;
      watched = watched q p watching;
      apart = apart q p watching;
      p_up = λ t below down. down_from s p t down;
      q_up = λ t below down. down_from s q t down;
    }

    timely : trusting.IsTimely (setting_of s) sound its runs q p (link s p q).min (link s p q).max
    timely = record {
      comes = λ number sent_at some.
          let d = delivers s p q link_delays.1 reliable.no_loss reliable.no_outage sent_at number in
          let within = fate_within s p q link_delays.1 number sent_at d.0 d.1 in
          (d.0, d.1, within.0, within.1);
      some_delay = omega (arith, link_delays);
      first_in_time = timely_is.0;
      next_in_time = omega (arith, timely_is.1, link_delays);
    }

    pub timeout_accurate : (trace : List EntryRecord) → IsTrace (setting_of s) trace → HasNoMistake s trace q p
    timeout_accurate trace is_trace t early suspected =
        let below : t < s.horizon = omega (arith, early) in
        let e = at_end trace is_trace t below in
        trusting.trusted_then (setting_of s) sound its runs q p (crash_tick s p) (crash_tick s q) watches_it (link s p q).min (link s p q).max timely
        t e.history e.world e.run (omega (arith, early)) (omega (arith, early)) (sym (out_then trace is_trace t below q p (subject_is q p watching)) ∙ suspected)

  -- nobody suspects whom it doesn't watch
  pub timeout_watched : (trace : List EntryRecord) → IsTrace (setting_of s) trace → (q p t : ℕ) → IsProcess s q → IsProcess s p → t < s.horizon → Suspects s trace 1 q p t → Watches s q p
  timeout_watched trace is_trace q p t of_q of_p below suspected =
      let e = at_end trace is_trace t below in
      let one : is_process s.processes p ≡ true = process_is s.processes p of_p.0 of_p.1 in (
        of_q,
        ap (λ k. is_watched q s.processes (watch_of k) p) kind
            ∙ suspects_watched (setting_of s) sound its runs q p e.history (t + 1) e.world e.run (sym (out_then trace is_trace t below q p one) ∙ suspected),
      )

  pub timeout_keeps : (trace : List EntryRecord) → IsTrace (setting_of s) trace → KeepsBounds s trace
  timeout_keeps trace is_trace = pairs_keep s trace (record {
    detects = λ q p c correct watching crashes. timeout_detects trace q p c watching crashes is_trace correct;
    soon = λ q p c watching crashes. timeout_soon trace q p c watching crashes;
    accurate = λ q p watching reliable. timeout_accurate q p watching reliable trace is_trace;
    watched = timeout_watched trace is_trace;
  })
