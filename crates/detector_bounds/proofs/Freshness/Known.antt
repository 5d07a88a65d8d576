-- Through a run with freshness points: p sends heartbeat i at tick i * eta while it is up, q reaches point i delta ticks later, and
-- no heartbeat that p didn't send is on its way or came to q.
use Rattle.detector_bounds.proofs.Words.{◌≡◌, ◌≢◌, ◌⊎◌, ℕ, ◌+◌, ◌*◌, ◌<◌, ◌≤◌, inl, inr, refl, sym, ap, ◌∙◌, subst, true, false, not, nat_le, Some, List, [], ◌∷◌, ◌++◌, arith, cases_lt, cases_Bool, le-leb, leb-false, Answer, EntryRecord, Key, StepInput, FreshnessNumbers, IsInRange, Record, crash, place_in, IsIn, setting_of, Setting, IsSound, has_crashed, Mind, World, Has, IsLeast, NoneBelow, IsWorld, made, taken, opening, start_of, one_input, setting_sound, taken_cases, taken_old, taken_new, same_or_not, and_true, last_before}
use Rattle.detector_bounds.proofs.{Added.{Delivers}, Clock.{Clock, due_after, clock_first, clock_still, clock_takes}, Ending.{IsKept}}
use Rattle.detector_bounds.proofs.{Freshness.Steps.{asks_beats, asks_checks, sent_after, reached_after, sent_is, reached_is, came_from, came_stays, came_now, sends, sends_beat}, Instances.{fresh_step, fresh_suspects, runs_freshness}}
use Rattle.detector_bounds.proofs.{Machines.{RunsDetector, state_of, moved, own, own_up, own_down, letter_new, letter_there}, Multiples.{mul-next, le-mul, less_multiple, after_last}, Others.{in_others}}
use Rattle.detector_bounds.proofs.Standing.{Stands, stands_first, stands_next, at_start, only_starts}
use Rattle.process_api.specs.Freshness.{FreshnessState, opening_freshness, next, watches, is_stale}
use Rattle.process_api.specs.declared.action.Action.TheVariants as action
use Rattle.process_api.specs.declared.message.Payload.TheVariants as payload
use Rattle.process_api.specs.declared.message.StepInput.TheVariants as input
use Rattle.process_api.specs.declared.message.Tag.TheVariants as tag
use Rattle.process_api.specs.declared.numbers.DetectorNumbers.TheVariants as numbers

module _ (s : Record) (is : IsInRange s) (its : FreshnessNumbers) (kind : s.detector ≡ numbers.Freshness its) (q p : ℕ)
    (q_low : 1 ≤ q) (q_high : q ≤ s.processes) (p_low : 1 ≤ p) (p_high : p ≤ s.processes) (apart : q ≢ p) (watched : watches (place_in s q) its p ≡ true) (eta_low : 1 ≤ its.eta) where
  abbrev S : Setting Mind
  S = setting_of s

  abbrev sound : IsSound (setting_of s)
  sound = setting_sound s is

  abbrev R : RunsDetector 1 (setting_of s) opening_freshness (fresh_step s its) (fresh_suspects s its)
  R = runs_freshness s its kind

  abbrev pub state : World Mind → ℕ → FreshnessState
  state w r = state_of (setting_of s) opening_freshness (fresh_step s its) (fresh_suspects s its) R w r

  abbrev pub Beats : ℕ → World Mind → ℕ → Type 0
  Beats t w due = Clock S sound opening_freshness (fresh_step s its) (fresh_suspects s its) R tag.Beat tt its.eta its.eta p (λ d now x. asks_beats (place_in s p) its d x) t w due

  abbrev pub Checks : ℕ → World Mind → ℕ → Type 0
  Checks t w due = Clock S sound opening_freshness (fresh_step s its) (fresh_suspects s its) R tag.Check tt (its.eta + its.delta) its.eta q (λ d now x. asks_checks (place_in s q) its d x) t w due

  -- a process is up to a tick
  abbrev pub IsUp : (r t : ℕ) → Type 0
  IsUp r t = (u : ℕ) → u ≤ t → has_crashed (crash s r) u ≡ false

  -- heartbeat j came, or is on its way and comes in time, or would come too late
  abbrev pub Arrives : World Mind → (most j : ℕ) → Type 0
  Arrives w most j = ((state w q).came p j ≡ true) ⊎ ((s.horizon ≤ j * its.eta + most) ⊎ ((key : Key) × (key.receiver ≡ q) × Has w.pending key (input.Letter p (payload.Heartbeat j)) × (key.tick ≤ j * its.eta + most)))

  pub record Knows (t : ℕ) (w : World Mind) (past : List EntryRecord) : Type 0 where
    pub stands : Stands S sound opening_freshness (fresh_step s its) (fresh_suspects s its) R t w past
    pub beats : Beats t w ((state w p).sent * its.eta + its.eta)
    pub checks : Checks t w ((state w q).reached * its.eta + (its.eta + its.delta))
    pub sent_low : ((state w p).sent ≡ 0) ⊎ (((state w p).sent * its.eta ≤ t) × (has_crashed (crash s p) ((state w p).sent * its.eta) ≡ false))
    pub reached_low : ((state w q).reached ≡ 0) ⊎ ((state w q).reached * its.eta + its.delta ≤ t)
    pub on_way : (key : Key) (j : ℕ) → Has w.pending key (input.Letter p (payload.Heartbeat j)) → j ≤ (state w p).sent
    pub came : (j : ℕ) → (state w q).came p j ≡ true → j ≤ (state w p).sent
    pub arrives : (most : ℕ) → IsUp q t → ((now : ℕ) → Delivers S p now q most) → (j : ℕ) → 1 ≤ j → j ≤ (state w p).sent → Arrives w most j

  few : (n m : ℕ) → n * its.eta ≤ m → n ≤ m
  few n m h = omega (arith, h, le-mul n its.eta eta_low)

  next_is : (n : ℕ) → n ≤ 10000000 → next n ≡ n + 1
  next_is n h = omega arith

  module _ (t : ℕ) (below : t < s.horizon) (w : World Mind) (past : List EntryRecord) (key : Key) (x : StepInput) (is_world : IsWorld S w) (k : Knows t w past) (least : IsLeast w.pending key x) (low : key.tick ≤ t) where
    abbrev new : World Mind
    new = taken S w key x

    abbrev Moved : ℕ → Type 0
    Moved r = (((r ≢ key.receiver) ⊎ (has_crashed (crash s key.receiver) key.tick ≡ true)) × (state new r ≡ state w r))
        ⊎ (((r ≡ key.receiver) × (has_crashed (crash s key.receiver) key.tick ≡ false)) × (state new r ≡ (fresh_step s its r (state w r) key.tick x).state))

    has_moved : (r : ℕ) → Moved r
    has_moved r = moved S opening_freshness (fresh_step s its) (fresh_suspects s its) R w key x k.stands.has r

    sent_few : (state w p).sent ≤ 10000000
    sent_few = elim k.sent_low [ inl none ↦ omega (arith, none) | inr h ↦ omega (arith, few (state w p).sent t h.0, below, is.horizon_high) ]

    reached_few : (state w q).reached ≤ 10000000
    reached_few = elim k.reached_low [ inl none ↦ omega (arith, none) | inr h ↦ let l : (state w q).reached ≤ t = few (state w q).reached t (omega (arith, h)) in omega (arith, l, below, is.horizon_high) ]

    start_tick : x ≡ input.Start → key.tick ≡ 0
    start_tick e = (at_start S sound opening_freshness (fresh_step s its) (fresh_suspects s its) R t w past key x is_world k.stands least e).0

    start_state : (r : ℕ) → r ≡ key.receiver → x ≡ input.Start → state w r ≡ opening_freshness
    start_state r at e = ap (state w) at ∙ (at_start S sound opening_freshness (fresh_step s its) (fresh_suspects s its) R t w past key x is_world k.stands least e).1

    -- ---- p's heartbeats

    beat_tick : p ≡ key.receiver → x ≡ input.Wake tag.Beat → key.tick ≡ (state w p).sent * its.eta + its.eta
    beat_tick at e = k.beats.only key (sym at, subst (Has w.pending key) e least.there)

    beat_due : p ≡ key.receiver → (y : StepInput) → x ≡ y → due_after tag.Beat its.eta its.eta key.tick y ((state w p).sent * its.eta + its.eta) ≡ sent_after (place_in s p) its y (state w p).sent * its.eta + its.eta
    beat_due at input.Start e = omega (arith, start_tick e, ap (λ (d : FreshnessState). d.sent * its.eta) (start_state p at e))
    beat_due at (input.Wake tag.Beat) e = omega (arith, beat_tick at e, ap (λ n. n * its.eta) (next_is (state w p).sent sent_few), mul-next (state w p).sent its.eta)
    beat_due at (input.Wake tag.Check) e = refl
    beat_due at (input.Wake tag.Share) e = refl
    beat_due at (input.Letter from y) e = refl

    sent_moved : (p ≡ key.receiver) → state new p ≡ (fresh_step s its p (state w p) key.tick x).state → (state new p).sent ≡ sent_after (place_in s p) its x (state w p).sent
    sent_moved at e = ap (λ (d : FreshnessState). d.sent) e ∙ sent_is (place_in s p) its (state w p) x

    next_beats : Beats t new ((state new p).sent * its.eta + its.eta)
    next_beats = elim (has_moved p) [
      | inl h ↦ subst (λ (d : FreshnessState). Beats t new (d.sent * its.eta + its.eta)) (sym h.1)
          (clock_still S sound opening_freshness (fresh_step s its) (fresh_suspects s its) R tag.Beat tt its.eta its.eta p (λ d now x. asks_beats (place_in s p) its d x) t w past key x is_world k.stands least _ k.beats low h.0)
      | inr h ↦ subst (Beats t new) (beat_due h.0.0 x refl ∙ ap (λ n. n * its.eta + its.eta) (sym (sent_moved h.0.0 h.1)))
          (clock_takes S sound opening_freshness (fresh_step s its) (fresh_suspects s its) R tag.Beat tt its.eta its.eta p (λ d now x. asks_beats (place_in s p) its d x) t w past key x is_world k.stands least _ k.beats h.0)
    ]

    abbrev SentLow : ℕ → Type 0
    SentLow n = (n ≡ 0) ⊎ ((n * its.eta ≤ t) × (has_crashed (crash s p) (n * its.eta) ≡ false))

    low_after : p ≡ key.receiver → has_crashed (crash s key.receiver) key.tick ≡ false → (y : StepInput) → x ≡ y → SentLow (sent_after (place_in s p) its y (state w p).sent)
    low_after at up input.Start e = k.sent_low
    low_after at up (input.Wake tag.Beat) e =
        let when : next (state w p).sent * its.eta ≡ key.tick = omega (arith, beat_tick at e, ap (λ n. n * its.eta) (next_is (state w p).sent sent_few), mul-next (state w p).sent its.eta) in
        inr (omega (arith, when, low), (λ i. has_crashed (crash s (at i)) (when i)) ∙ up)
    low_after at up (input.Wake tag.Check) e = k.sent_low
    low_after at up (input.Wake tag.Share) e = k.sent_low
    low_after at up (input.Letter from y) e = k.sent_low

    next_sent_low : SentLow (state new p).sent
    next_sent_low = elim (has_moved p) [
      | inl h ↦ subst (λ (d : FreshnessState). SentLow d.sent) (sym h.1) k.sent_low
      | inr h ↦ subst SentLow (sym (sent_moved h.0.0 h.1)) (low_after h.0.0 h.0.1 x refl)
    ]

    after_up : (y : StepInput) → (state w p).sent ≤ sent_after (place_in s p) its y (state w p).sent
    after_up input.Start = omega arith
    after_up (input.Wake tag.Beat) = omega (arith, sent_few)
    after_up (input.Wake tag.Check) = omega arith
    after_up (input.Wake tag.Share) = omega arith
    after_up (input.Letter from y) = omega arith

    sent_up : (state w p).sent ≤ (state new p).sent
    sent_up = elim (has_moved p) [
      | inl h ↦ subst (λ (d : FreshnessState). (state w p).sent ≤ d.sent) (sym h.1) (omega arith)
      | inr h ↦ subst (λ n. (state w p).sent ≤ n) (sym (sent_moved h.0.0 h.1)) (after_up x)
    ]

    -- ---- q's points

    check_tick : q ≡ key.receiver → x ≡ input.Wake tag.Check → key.tick ≡ (state w q).reached * its.eta + (its.eta + its.delta)
    check_tick at e = k.checks.only key (sym at, subst (Has w.pending key) e least.there)

    check_due : q ≡ key.receiver → (y : StepInput) → x ≡ y → due_after tag.Check (its.eta + its.delta) its.eta key.tick y ((state w q).reached * its.eta + (its.eta + its.delta)) ≡ reached_after (place_in s q) its y (state w q).reached * its.eta + (its.eta + its.delta)
    check_due at input.Start e = omega (arith, start_tick e, ap (λ (d : FreshnessState). d.reached * its.eta) (start_state q at e))
    check_due at (input.Wake tag.Beat) e = refl
    check_due at (input.Wake tag.Check) e = omega (arith, check_tick at e, ap (λ n. n * its.eta) (next_is (state w q).reached reached_few), mul-next (state w q).reached its.eta)
    check_due at (input.Wake tag.Share) e = refl
    check_due at (input.Letter from y) e = refl

    reached_moved : (q ≡ key.receiver) → state new q ≡ (fresh_step s its q (state w q) key.tick x).state → (state new q).reached ≡ reached_after (place_in s q) its x (state w q).reached
    reached_moved at e = ap (λ (d : FreshnessState). d.reached) e ∙ reached_is (place_in s q) its (state w q) x

    next_checks : Checks t new ((state new q).reached * its.eta + (its.eta + its.delta))
    next_checks = elim (has_moved q) [
      | inl h ↦ subst (λ (d : FreshnessState). Checks t new (d.reached * its.eta + (its.eta + its.delta))) (sym h.1)
          (clock_still S sound opening_freshness (fresh_step s its) (fresh_suspects s its) R tag.Check tt (its.eta + its.delta) its.eta q (λ d now x. asks_checks (place_in s q) its d x) t w past key x is_world k.stands least _ k.checks low h.0)
      | inr h ↦ subst (Checks t new) (check_due h.0.0 x refl ∙ ap (λ n. n * its.eta + (its.eta + its.delta)) (sym (reached_moved h.0.0 h.1)))
          (clock_takes S sound opening_freshness (fresh_step s its) (fresh_suspects s its) R tag.Check tt (its.eta + its.delta) its.eta q (λ d now x. asks_checks (place_in s q) its d x) t w past key x is_world k.stands least _ k.checks h.0)
    ]

    abbrev ReachedLow : ℕ → Type 0
    ReachedLow n = (n ≡ 0) ⊎ (n * its.eta + its.delta ≤ t)

    point_after : q ≡ key.receiver → (y : StepInput) → x ≡ y → ReachedLow (reached_after (place_in s q) its y (state w q).reached)
    point_after at input.Start e = k.reached_low
    point_after at (input.Wake tag.Beat) e = k.reached_low
    point_after at (input.Wake tag.Check) e = inr (omega (arith, low, check_tick at e, ap (λ n. n * its.eta) (next_is (state w q).reached reached_few), mul-next (state w q).reached its.eta))
    point_after at (input.Wake tag.Share) e = k.reached_low
    point_after at (input.Letter from y) e = k.reached_low

    next_reached_low : ReachedLow (state new q).reached
    next_reached_low = elim (has_moved q) [
      | inl h ↦ subst (λ (d : FreshnessState). ReachedLow d.reached) (sym h.1) k.reached_low
      | inr h ↦ subst ReachedLow (sym (reached_moved h.0.0 h.1)) (point_after h.0.0 x refl)
    ]

    -- ---- the heartbeats on their way, and those that came

    sent_now : (to j : ℕ) → p ≡ key.receiver → IsIn (action.Send to (payload.Heartbeat j)) (own S opening_freshness (fresh_step s its) (fresh_suspects s its) R w key x k.stands.has).actions → j ≤ (state new p).sent
    sent_now to j at i = elim (has_moved p) [
      | inl (inl other, same) ↦ absurd (other at)
      | inl (inr down, same) ↦ absurd (subst (λ (a : Answer FreshnessState). IsIn (action.Send to (payload.Heartbeat j)) a.actions) (own_down S opening_freshness (fresh_step s its) (fresh_suspects s its) R w key x k.stands.has down) i)
      | inr h ↦
          let r = sends (place_in s p) its (state w p) x to j (subst (λ r. IsIn (action.Send to (payload.Heartbeat j)) (fresh_step s its r (state w r) key.tick x).actions) (sym at)
          (subst (λ (a : Answer FreshnessState). IsIn (action.Send to (payload.Heartbeat j)) a.actions) (own_up S opening_freshness (fresh_step s its) (fresh_suspects s its) R w key x k.stands.has h.0.1) i)) in
          let now : (state new p).sent ≡ next (state w p).sent = sent_moved h.0.0 h.1 ∙ ap (λ y. sent_after (place_in s p) its y (state w p).sent) r.0 in
          omega (arith, r.1, now)
    ]

    next_on_way : (l : Key) (j : ℕ) → Has new.pending l (input.Letter p (payload.Heartbeat j)) → j ≤ (state new p).sent
    next_on_way l j h = elim (taken_cases S w key x l (input.Letter p (payload.Heartbeat j)) h) [
      | inl i ↦ let r = letter_new S opening_freshness (fresh_step s its) (fresh_suspects s its) R w key x k.stands.has (payload.Heartbeat j) tt l p i in sent_now l.receiver j r.0 r.1
      | inr old ↦ omega (arith, k.on_way l j old.1, sent_up)
    ]

    next_came : (j : ℕ) → (state new q).came p j ≡ true → j ≤ (state new p).sent
    next_came j h = elim (has_moved q) [
      | inl m ↦ omega (arith, k.came j (ap (λ (d : FreshnessState). d.came p j) (sym m.1) ∙ h), sent_up)
      | inr m ↦ elim (came_from (place_in s q) its (state w q) p j x (ap (λ (d : FreshnessState). d.came p j) (sym m.1) ∙ h)) [
        | inl old ↦ omega (arith, k.came j old, sent_up)
        | inr (i, e, l) ↦ omega (arith, k.on_way key i (subst (Has w.pending key) e least.there), l, sent_up)
      ]
    ]

    -- ---- each heartbeat arrives, on a link that delivers

    module _ (most : ℕ) (up : IsUp q t) (delivers : (now : ℕ) → Delivers S p now q most) (j : ℕ) where
      still_came : (state w q).came p j ≡ true → (state new q).came p j ≡ true
      still_came h = elim (has_moved q) [
        | inl m ↦ ap (λ (d : FreshnessState). d.came p j) m.1 ∙ h
        | inr m ↦ ap (λ (d : FreshnessState). d.came p j) m.1 ∙ came_stays (place_in s q) its (state w q) p j x h
      ]

      comes_now : key.receiver ≡ q → x ≡ input.Letter p (payload.Heartbeat j) → (state new q).came p j ≡ true
      comes_now at e = elim (has_moved q) [
        | inl (inl other, same) ↦ absurd (other (sym at))
        | inl (inr down, same) ↦ absurd (cc (down, subst (λ r. has_crashed (crash s r) key.tick ≡ false) (sym at) (up key.tick low)))
        | inr m ↦ ap (λ (d : FreshnessState). d.came p j) m.1 ∙ (ap (λ y. (fresh_step s its q (state w q) key.tick y).state.came p j) e ∙ came_now (place_in s q) its (state w q) p j watched)
      ]

      old_arrives : Arrives w most j → Arrives new most j
      old_arrives (inl h) = inl (still_came h)
      old_arrives (inr (inl late)) = inr (inl late)
      old_arrives (inr (inr (l, at, there, tick))) = elim (same_or_not l key) [
        | inl same ↦
            let here : Has w.pending key (input.Letter p (payload.Heartbeat j)) = subst (λ z. Has w.pending z (input.Letter p (payload.Heartbeat j))) same there in
            inl (comes_now (ap (λ (z : Key). z.receiver) (sym same) ∙ at) (one_input w.pending key x (input.Letter p (payload.Heartbeat j)) least.there here))
        | inr other ↦ inr (inr (l, at, taken_old S w key x sound is_world least.there l (input.Letter p (payload.Heartbeat j)) other there, tick))
      ]

      new_arrives : (state w p).sent < j → j ≤ (state new p).sent → Arrives new most j
      new_arrives above within = elim (has_moved p) [
        | inl m ↦ absurd (omega (arith, above, within, ap (λ (d : FreshnessState). d.sent) m.1))
        | inr m ↦ by m.0.0 m.0.1 (sent_moved m.0.0 m.1) x refl
      ]
        where
          by : p ≡ key.receiver → has_crashed (crash s key.receiver) key.tick ≡ false → (state new p).sent ≡ sent_after (place_in s p) its x (state w p).sent → (y : StepInput) → x ≡ y → Arrives new most j
          by at alive moved input.Start e = absurd (omega (arith, above, within, moved ∙ ap (λ y. sent_after (place_in s p) its y (state w p).sent) e))
          by at alive moved (input.Wake tag.Check) e = absurd (omega (arith, above, within, moved ∙ ap (λ y. sent_after (place_in s p) its y (state w p).sent) e))
          by at alive moved (input.Wake tag.Share) e = absurd (omega (arith, above, within, moved ∙ ap (λ y. sent_after (place_in s p) its y (state w p).sent) e))
          by at alive moved (input.Letter from y) e = absurd (omega (arith, above, within, moved ∙ ap (λ y. sent_after (place_in s p) its y (state w p).sent) e))
          by at alive moved (input.Wake tag.Beat) e =
              let now : (state new p).sent ≡ next (state w p).sent = moved ∙ ap (λ y. sent_after (place_in s p) its y (state w p).sent) e in
              let one : j ≡ next (state w p).sent = omega (arith, above, within, now, next_is (state w p).sent sent_few) in
              let when : key.tick ≡ j * its.eta = omega (arith, beat_tick at e, ap (λ n. n * its.eta) (one ∙ next_is (state w p).sent sent_few), mul-next (state w p).sent its.eta) in
              let does : own S opening_freshness (fresh_step s its) (fresh_suspects s its) R w key x k.stands.has ≡ fresh_step s its p (state w p) key.tick (input.Wake tag.Beat) =
              own_up S opening_freshness (fresh_step s its) (fresh_suspects s its) R w key x k.stands.has alive ∙ (λ i. fresh_step s its (sym at i) (state w (sym at i)) key.tick (e i)) in
              let sent : IsIn (action.Send q (payload.Heartbeat j)) (own S opening_freshness (fresh_step s its) (fresh_suspects s its) R w key x k.stands.has).actions =
              subst (λ (a : Answer FreshnessState). IsIn (action.Send q (payload.Heartbeat j)) a.actions) (sym does)
              (subst (λ i. IsIn (action.Send q (payload.Heartbeat i)) (fresh_step s its p (state w p) key.tick (input.Wake tag.Beat)).actions) (sym one)
              (sends_beat (place_in s p) its (state w p) q (in_others s.processes p q q_low q_high apart))) in
              elim (letter_there S opening_freshness (fresh_step s its) (fresh_suspects s its) R w key x k.stands.has (payload.Heartbeat j) q most (λ same. apart (same ∙ sym at)) (subst (λ r. Delivers S r key.tick q most) at (delivers key.tick)) sent) [
                | inl late ↦ inr (inl (omega (arith, late, when)))
                | inr r ↦ inr (inr (r.0, r.2, taken_new S w key x sound is_world least.there r.0 (input.Letter p (payload.Heartbeat j)) (subst (λ r'. IsIn (r.0, input.Letter r' (payload.Heartbeat j)) (made S w key x).added) (sym at) r.1), omega (arith, r.3, when)))
              ]

      next_arrives : 1 ≤ j → j ≤ (state new p).sent → Arrives new most j
      next_arrives first within = elim (cases_lt (state w p).sent j) [
        | inl above ↦ new_arrives above within
        | inr old ↦ old_arrives (k.arrives most up delivers j first old)
      ]

    knows_next : Knows t new (past ++ (made S w key x).entry ∷ [])
    knows_next = record {
      stands = stands_next S sound opening_freshness (fresh_step s its) (fresh_suspects s its) R t w past key x is_world k.stands least low;
      beats = next_beats;
      checks = next_checks;
      sent_low = next_sent_low;
      reached_low = next_reached_low;
      on_way = next_on_way;
      came = next_came;
      arrives = λ most up delivers j first within. next_arrives most up delivers j first within;
    }

  knows_first : (t : ℕ) → Knows t (opening S) []
  knows_first t =
      let none : (r : ℕ) → state (opening S) r ≡ opening_freshness = λ r. R.opens_with r in
      record {
        stands = stands_first S sound opening_freshness (fresh_step s its) (fresh_suspects s its) R t;
        beats = clock_first S sound opening_freshness (fresh_step s its) (fresh_suspects s its) R tag.Beat tt its.eta its.eta p (λ d now x. asks_beats (place_in s p) its d x) t _ p_low p_high;
        checks = clock_first S sound opening_freshness (fresh_step s its) (fresh_suspects s its) R tag.Check tt (its.eta + its.delta) its.eta q (λ d now x. asks_checks (place_in s q) its d x) t _ q_low q_high;
        sent_low = inl (ap (λ (d : FreshnessState). d.sent) (none p));
        reached_low = inl (ap (λ (d : FreshnessState). d.reached) (none q));
        on_way = λ key j h. absurd (cc (only_starts s.processes key (input.Letter p (payload.Heartbeat j)) h).0);
        came = λ j h. absurd (cc (h, ap (λ (d : FreshnessState). d.came p j) (none q)));
        arrives = λ most up delivers j first within. absurd (omega (arith, first, within, ap (λ (d : FreshnessState). d.sent) (none p)));
      }

  pub kept : (t : ℕ) → t < s.horizon → IsKept S sound (t + 1) (Knows t)
  kept t below = record { opens = knows_first t; keeps = λ w past key x is_world k least early. knows_next t below w past key x is_world k least (omega (arith, early)) }

  -- once the point after p's last heartbeat lies behind, q suspects p for good
  pub firm : (t : ℕ) (w : World Mind) (past : List EntryRecord) → Knows t w past → (from c : ℕ) → from < s.horizon → IsUp q t → crash s p ≡ Some c → (last_before its.eta c + 1) * its.eta + its.delta ≤ from → NoneBelow (from + 1) w.pending
      → is_stale (place_in s q) its (state w q) p ≡ true
  firm t w past k from c early up crashes late none =
      and_true _ _ watched (and_true _ _ (le-leb 1 (state w q).reached (omega (arith, beyond))) (ap not stale))
    where
      point_later : from < (state w q).reached * its.eta + (its.eta + its.delta)
      point_later = elim (k.checks.there up) [
        | inl start ↦ absurd (omega (arith, none (start_of q) input.Start start))
        | inr (inl over) ↦ omega (arith, early, over)
        | inr (inr (key, wake)) ↦ omega (arith, none key _ wake.1, k.checks.only key wake)
      ]

      beyond : last_before its.eta c + 1 ≤ (state w q).reached
      beyond = let l = less_multiple (last_before its.eta c + 1) ((state w q).reached + 1) its.eta (omega (arith, point_later, late, mul-next (state w q).reached its.eta)) in omega (arith, l)

      sent_before : (state w q).reached ≤ (state w p).sent → ⊥
      sent_before high = elim k.sent_low [
        | inl nothing ↦ omega (arith, nothing, high, beyond)
        | inr low ↦
            let alive : nat_le c ((state w p).sent * its.eta) ≡ false = ap (λ o. has_crashed o ((state w p).sent * its.eta)) (sym crashes) ∙ low.1 in
            let before : (state w p).sent * its.eta < c = leb-false c ((state w p).sent * its.eta) alive in
            let l = less_multiple (state w p).sent (last_before its.eta c + 1) its.eta (omega (arith, before, after_last its.eta c eta_low)) in
            omega (arith, l, high, beyond)
      ]

      stale : (state w q).came p (state w q).reached ≡ false
      stale = elim (cases_Bool ((state w q).came p (state w q).reached)) [ inl h ↦ absurd (sent_before (k.came (state w q).reached h)) | inr h ↦ h ]
