-- Whom q suspects at the end of a tick, with freshness points.
use Rattle.detector_bounds.proofs.Words.{◌≡◌, ◌≢◌, ℕ, zero, suc, ◌+◌, ◌*◌, ◌<◌, ◌≤◌, inl, inr, sym, ap, ◌∙◌, subst, Bool, true, false, not, ◌&&◌, nat_le, List, arith, Some, cases_lt, cases_Bool, lt-leb, and_right, EntryRecord, suspected_by, Mind, FreshnessNumbers, contains-suspected, and_true, IsInRange, Record, crash, link, place_in, setting_of, has_crashed, World, IsTrace, NoneBelow, start_of, entries, setting_sound, out, is_watched, AreInRange, Link, detected_at, HasNoMistake, KeepsBounds, trusts, detected_by, longest, last_before, watch_of, IsTimely, Watches, IsReliable}
use Rattle.detector_bounds.proofs.{Fates.{delivers}, Verdicts.{pairs_keep}, Added.{Delivers}, Ending.{IsKept, IsEnd, ending, holds_at}, Freshness.Known.{Knows, kept, firm, state}}
use Rattle.detector_bounds.proofs.{Instances.{fresh_step, fresh_suspects, runs_freshness, fresh_seen}, Machines.{state_of}, Multiples.{mul-next, less_multiple, last_is_before}, Standing.{stands_kept, out_is}}
use Rattle.detector_bounds.proofs.Watching.{process_is, watched_is, up_until}
use Rattle.std.specs.FinSet as set
use Rattle.process_api.specs.Freshness.{FreshnessState, opening_freshness, watches, is_stale}
use Rattle.process_api.specs.declared.message.StepInput.TheVariants as input
use Rattle.process_api.specs.declared.numbers.DetectorNumbers.TheVariants as numbers
use Rattle.judges.specs.Verdicts.{IsProcess, Suspects}

-- nobody is suspected who isn't watched
module _ (s : Record) (is : IsInRange s) (its : FreshnessNumbers) (kind : s.detector ≡ numbers.Freshness its) (trace : List EntryRecord) (is_trace : IsTrace (setting_of s) trace) (t : ℕ) (below : t < s.horizon) (q p : ℕ)
    (p_low : 1 ≤ p) (p_high : p ≤ s.processes) where
  abbrev at_end : IsEnd (setting_of s) (setting_sound s is) trace (t + 1)
  at_end = ending (setting_of s) (setting_sound s is) trace is_trace (t + 1) (omega (arith, below))

  abbrev observer : FreshnessState
  observer = state_of (setting_of s) opening_freshness (fresh_step s its) (fresh_suspects s its) (runs_freshness s its kind) at_end.world q

  out_stale : out 1 trace q t p ≡ is_stale (place_in s q) its observer p
  out_stale =
      out_is (setting_of s) (setting_sound s is) opening_freshness (fresh_step s its) (fresh_suspects s its) (runs_freshness s its kind) trace t at_end
      (holds_at (setting_of s) (setting_sound s is) trace (t + 1) at_end _ (stands_kept (setting_of s) (setting_sound s is) opening_freshness (fresh_step s its) (fresh_suspects s its) (runs_freshness s its kind) t)) q p (process_is s.processes p p_low p_high)
      ∙ (contains-suspected (place_in s q) its observer p ∙ ap (λ b. b && is_stale (place_in s q) its observer p) (process_is s.processes p p_low p_high))

  pub unwatched : watches (place_in s q) its p ≡ false → out 1 trace q t p ≡ false
  unwatched free = out_stale ∙ ap (λ b. b && (nat_le 1 observer.reached && not (observer.came p observer.reached))) free

  -- of a pair that watches
  module _ (q_low : 1 ≤ q) (q_high : q ≤ s.processes) (apart : q ≢ p) (watched : watches (place_in s q) its p ≡ true) (eta_low : 1 ≤ its.eta) where
    abbrev Known : Type 0
    Known = Knows s is its kind q p q_low q_high p_low p_high apart watched eta_low t at_end.world (entries at_end.history)

    known : Known
    known = holds_at (setting_of s) (setting_sound s is) trace (t + 1) at_end (Knows s is its kind q p q_low q_high p_low p_high apart watched eta_low t) (kept s is its kind q p q_low q_high p_low p_high apart watched eta_low t below)

    abbrev subject : FreshnessState
    subject = state_of (setting_of s) opening_freshness (fresh_step s its) (fresh_suspects s its) (runs_freshness s its kind) at_end.world p

    -- the next heartbeat comes later
    beat_later : ((u : ℕ) → u ≤ t → has_crashed (crash s p) u ≡ false) → t < subject.sent * its.eta + its.eta
    beat_later up = elim (known.beats.there up) [
      | inl start ↦ absurd (omega (arith, at_end.none_left (start_of p) input.Start start))
      | inr (inl late) ↦ omega (arith, below, late)
      | inr (inr (key, wake)) ↦ omega (arith, at_end.none_left key _ wake.1, known.beats.only key wake)
    ]

    -- p crashed, and the point after its last heartbeat was reached
    pub suspected_from : (c : ℕ) → crash s p ≡ Some c → ((u : ℕ) → u ≤ t → has_crashed (crash s q) u ≡ false) → (last_before its.eta c + 1) * its.eta + its.delta ≤ t → out 1 trace q t p ≡ true
    suspected_from c crashes up late = out_stale ∙ firm s is its kind q p q_low q_high p_low p_high apart watched eta_low t at_end.world (entries at_end.history) known t c below up crashes late at_end.none_left

    -- both are up, and the link delivers in time
    pub trusted : (most : ℕ) → most ≤ its.delta → ((u : ℕ) → u ≤ t → has_crashed (crash s p) u ≡ false) → ((u : ℕ) → u ≤ t → has_crashed (crash s q) u ≡ false)
        → ((now : ℕ) → Delivers (setting_of s) p now q most) → out 1 trace q t p ≡ false
    trusted most timely p_up q_up delivers = out_stale ∙ (and_right (watches (place_in s q) its p) _ fresh)
      where
        heard : 1 ≤ observer.reached → observer.came p observer.reached ≡ true
        heard first = elim known.reached_low [
          | inl none ↦ absurd (omega (arith, none, first))
          | inr point ↦
              let within : observer.reached ≤ subject.sent = (let l = less_multiple observer.reached (subject.sent + 1) its.eta (omega (arith, beat_later p_up, point, mul-next subject.sent its.eta)) in omega (arith, l)) in
              elim (known.arrives most q_up delivers observer.reached first within) [
                | inl came ↦ came
                | inr (inl late) ↦ absurd (omega (arith, late, below, point, timely))
                | inr (inr (key, at, there, tick)) ↦ absurd (omega (arith, at_end.none_left key _ there, tick, point, timely))
              ]
        ]

        fresh : (nat_le 1 observer.reached && not (observer.came p observer.reached)) ≡ false
        fresh = elim (cases_lt 0 observer.reached) [
          | inl first ↦ and_right (nat_le 1 observer.reached) _ (ap not (heard (omega (arith, first))))
          | inr none ↦ ap (λ b. b && not (observer.came p observer.reached)) (lt-leb 1 observer.reached (omega (arith, none)))
        ]

-- ---- so a scenario with freshness points keeps the bounds

module _ (s : Record) (is : IsInRange s) (its : FreshnessNumbers) (kind : s.detector ≡ numbers.Freshness its) (trace : List EntryRecord) (is_trace : IsTrace (setting_of s) trace) where
  pub eta_low : 1 ≤ its.eta
  eta_low = (subst AreInRange kind is.numbers).eta_low

  pub watches_is : (q p : ℕ) (b : Bool) → is_watched q s.processes (watch_of s.detector) p ≡ b → watches (place_in s q) its p ≡ b
  watches_is q p b h = ap (λ k. is_watched q s.processes (watch_of k) p) (sym kind) ∙ h

  detected_is : (q p c : ℕ) → detected_at s trace q p c ≡ (last_before its.eta c + 1) * its.eta + its.delta
  detected_is q p c = ap (λ k. detected_by k (link s p q) (trusts trace q p) c) kind

  soon_after : (c : ℕ) (l : Link) (n : ℕ) → (last_before its.eta c + 1) * its.eta + its.delta ≤ c + longest (numbers.Freshness its) l n c
  soon_after zero l n = omega (arith, mul-next (last_before its.eta 0) its.eta, last_is_before its.eta 0 eta_low)
  soon_after (suc before) l n = omega (arith, mul-next (last_before its.eta (suc before)) its.eta, last_is_before its.eta (suc before) eta_low, eta_low)

  no_mistake : (q p : ℕ) → Watches s q p → IsReliable s p q → HasNoMistake s trace q p
  no_mistake q p w r t early suspects =
      let below : t < s.horizon = omega (arith, early) in
      let other = watched_is s q p w in
      let linked = is.links p q other.0 other.1 w.0.0 w.0.1 in
      cc (
        suspects,
        trusted s is its kind trace is_trace t below q p other.0 other.1 w.0.0 w.0.1 other.2 (watches_is q p true w.1) eta_low (link s p q).max (subst (λ k. IsTimely k (link s p q)) kind r.timely)
            (up_until s p t (omega (arith, early))) (up_until s q t (omega (arith, early))) (delivers s p q linked.min_high r.no_loss r.no_outage),
      )

  watched_alone : (q p t : ℕ) → IsProcess s q → IsProcess s p → t < s.horizon → Suspects s trace 1 q p t → Watches s q p
  watched_alone q p t of_q of_p below suspects = elim (cases_Bool (is_watched q s.processes (watch_of s.detector) p)) [
    | inl w ↦ (of_q, w)
    | inr free ↦ absurd (cc (suspects, unwatched s is its kind trace is_trace t below q p of_p.0 of_p.1 (watches_is q p false free)))
  ]

  pub freshness_keeps : KeepsBounds s trace
  freshness_keeps = pairs_keep s trace (record {
    detects = λ q p c correct w crashes t late below.
        let other = watched_is s q p w in
        suspected_from s is its kind trace is_trace t below q p other.0 other.1 w.0.0 w.0.1 other.2 (watches_is q p true w.1) eta_low c crashes.1 (up_until s q t (omega (arith, below, correct.1))) (omega (arith, late, detected_is q p c));
    soon = λ q p c w crashes. omega (arith, detected_is q p c, soon_after c (link s p q) (trusts trace q p), ap (λ k. longest k (link s p q) (trusts trace q p) c) kind);
    accurate = no_mistake;
    watched = watched_alone;
  })

  -- for layer 2: at every step from then on
  module _ (t : ℕ) (below : t < s.horizon) (q p c : ℕ) (w : Watches s q p) (crashes : crash s p ≡ Some c) (up : (u : ℕ) → u ≤ t → has_crashed (crash s q) u ≡ false) (late : detected_at s trace q p c ≤ t) where
    abbrev pub Firmly : World Mind → List EntryRecord → Type 0
    Firmly = let other = watched_is s q p w in Knows s is its kind q p w.0.0 w.0.1 other.0 other.1 other.2 (watches_is q p true w.1) eta_low t

    pub firmly_kept : IsKept (setting_of s) (setting_sound s is) (t + 1) Firmly
    firmly_kept = let other = watched_is s q p w in kept s is its kind q p w.0.0 w.0.1 other.0 other.1 other.2 (watches_is q p true w.1) eta_low t below

    pub firmly : (v : World Mind) (past : List EntryRecord) → Firmly v past → NoneBelow (detected_at s trace q p c + 1) v.pending → set.contains (suspected_by (v.process q).mind.lower.place (v.process q).mind.lower.detector) p ≡ true
    firmly v past k none =
        let other = watched_is s q p w in
        ap (λ z. set.contains z p) (fresh_seen s its kind q (v.process q).mind (k.stands.has q))
        ∙ (contains-suspected (place_in s q) its (state s is its kind q p w.0.0 w.0.1 other.0 other.1 other.2 (watches_is q p true w.1) eta_low v q) p
        ∙ and_true _ _ (process_is s.processes p other.0 other.1)
        (firm s is its kind q p w.0.0 w.0.1 other.0 other.1 other.2 (watches_is q p true w.1) eta_low t v past k (detected_at s trace q p c) c (omega (arith, below, late)) up crashes (omega (arith, detected_is q p c)) none))
