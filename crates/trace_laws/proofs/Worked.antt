-- Worked traces: what the definitions give for small scenarios of the time-out detector alone whose links lose nothing
-- and all take the same delay. There the plain program computes the trace.
use Rattle.trace_laws.proofs.Words.{◌≡◌, ℕ, zero, suc, ◌+◌, ◌-◌, ◌*◌, ◌%◌, ◌≤◌, refl, sym, ap, ◌∙◌, subst, false, cond, nat_lt, nat_cmp, List, [], ◌∷◌, replicate, get_or, length, Option, None, Some, arith, lit≤, Bool, true, map, filter, inl, inr, AllByRecursion, ForSome, get_or-replicate, get_or_past, length-replicate, EntryRecord, Mind, TimeoutNumbers, IsInRange, IsLink, Record, no_link, link, place_in, Link, fate_of, fate_by, word, Lost, Delay, plain_starts, plain_steps, plain_left, setting_of, Setting, IsSound, opening_process, entries, IsTrace, IsIn}
use Rattle.trace_laws.proofs.{Alike.{with_minds, same_plain}, Sets.{not_None, same_Some}, Simulate.{plain_trace}, Sound.{setting_sound}, Watching.{Watcher, watch, IsMindOf, watchers_alike}}
use Rattle.std.specs.FinSet as set
use Rattle.std.proofs.lemmas.Nat.{mul-add-lt}
use Rattle.process_api.specs.{Place.{last_tick, most_processes, most_ticks}, declared.{action.Note.{Note, TheVariants.{Suspect, Trust}}, entry.Kind.{Kind}, numbers.Watch.TheVariants.{All}}}
use Rattle.process_api.specs.declared.numbers.DetectorNumbers.TheVariants as kinds
use Rattle.scenario_record.specs.Ranges.{AreTimeoutInRange}
use Rattle.scenario_record.specs.declared.algorithm.AlgorithmKind.TheVariants as algorithms
use Rattle.process_api.specs.declared.entry.Kind.TheVariants as kind

abbrev steady_link : ℕ → Link
steady_link delay = record { min = delay; max = delay; loss = 0 }

abbrev pub steady : (processes horizon delay : ℕ) → TimeoutNumbers → (crashes : List (Option ℕ)) → Record
steady processes horizon delay numbers crashes = record {
  processes = processes;
  horizon = horizon;
  lookahead = delay;
  limit = 1000000;
  seed = 1;
  algorithm = algorithms.Idle;
  detector = kinds.Timeout numbers;
  share = None;
  proposals = [];
  crashes = crashes;
  links = replicate (processes * processes) (steady_link delay);
  outages = [];
}

-- ---- its fates

none_below_zero : (a : ℕ) → nat_lt a 0 ≡ false
none_below_zero a = grind arith

rest_by_one : (b : ℕ) → b % 1 ≡ 0
rest_by_one b = grind arith

loses_nothing : (l : Link) → l.max ≡ l.min → l.loss ≡ 0 → (a b : ℕ) → fate_by l a b ≡ Delay l.min
loses_nothing l same none a b =
    ap (λ c. cond c Lost (Delay (l.min + b % (l.max - l.min + 1)))) (ap (nat_lt (a % 1000)) none ∙ none_below_zero (a % 1000))
    ∙ ap Delay (delay (ap (λ n. b % n) one ∙ rest_by_one b))
  where
    one : l.max - l.min + 1 ≡ 1
    one = omega (arith, same)

    delay : b % (l.max - l.min + 1) ≡ 0 → l.min + b % (l.max - l.min + 1) ≡ l.min
    delay e = omega (arith, e)

is_steady : (n delay i : ℕ) → ((get_or (replicate n (steady_link delay)) i no_link).max ≡ (get_or (replicate n (steady_link delay)) i no_link).min) × ((get_or (replicate n (steady_link delay)) i no_link).loss ≡ 0)
is_steady zero delay i = (refl, refl)
is_steady (suc n) delay zero = (refl, refl)
is_steady (suc n) delay (suc i) = is_steady n delay i

crash_in : (crashes : List (Option ℕ)) → AllByRecursion (λ o. ForSome o (λ at. at ≤ last_tick)) crashes → (i : ℕ) → ForSome (get_or crashes i None) (λ at. at ≤ last_tick)
crash_in [] all i = λ at e. absurd (not_None at e)
crash_in (o ∷ os) all zero = all.0
crash_in (o ∷ os) all (suc i) = crash_in os all.1 i

module _ (processes horizon delay : ℕ) (numbers : TimeoutNumbers) (crashes : List (Option ℕ)) where
  abbrev s : Record
  s = steady processes horizon delay numbers crashes

  steady_fate : (from to number sent_at : ℕ) → fate_of s from to number sent_at ≡ Delay (link s from to).min
  unfolding fate_of
  steady_fate from to number sent_at =
      let is = is_steady (processes * processes) delay ((from - 1) * processes + (to - 1)) in
      loses_nothing (link s from to) is.0 is.1 (word 1 from to (2 * (number - 1))) (word 1 from to (2 * (number - 1) + 1))

  -- the scenario's setting, with its fates as they come out
  abbrev plainly : Setting Mind
  plainly = record (setting_of s) { fate = λ from to number sent_at. Delay (link s from to).min }

  same_setting : setting_of s ≡ plainly
  same_setting = λ i. record (setting_of s) { fate = λ from to number sent_at. steady_fate from to number sent_at i }

  abbrev watcher : ℕ → Watcher
  watcher p = record { place = place_in s p; numbers = numbers; last_heard = λ q. 0; bound = λ q. numbers.timeout; suspects = λ q. false }

  abbrev watchers : Setting Watcher
  watchers = with_minds plainly watcher watch

  -- what the plain program makes with watchers, and whether it has come to an end
  abbrev pub computed : ℕ → List EntryRecord
  computed n = entries (plain_steps watchers n (opening_process watchers) (plain_starts processes))

  abbrev pub IsOver : ℕ → Type 0
  IsOver n = plain_left watchers n (opening_process watchers) (plain_starts processes) ≡ []

  module _ (few : (1 ≤ processes) × (processes ≤ most_processes)) (lasts : (1 ≤ horizon) × (horizon ≤ last_tick)) (ahead : (1 ≤ delay) × (delay ≤ most_ticks)) (in_range : AreTimeoutInRange numbers)
      (one_each : length crashes ≡ processes) (crash_ticks : AllByRecursion (λ o. ForSome o (λ at. at ≤ last_tick)) crashes) where
    at_link : (from to : ℕ) → 1 ≤ from → from ≤ processes → 1 ≤ to → to ≤ processes → link s from to ≡ steady_link delay
    at_link from to a b c d = get_or-replicate (processes * processes) _ (steady_link delay) no_link (mul-add-lt (from - 1) processes (to - 1) processes (omega arith) (omega arith))

    steady_in_range : IsInRange s
    steady_in_range = record {
      processes_low = few.0;
      processes_high = few.1;
      horizon_low = lasts.0;
      horizon_high = lasts.1;
      lookahead_low = ahead.0;
      lookahead_high = ahead.1;
      limit_low = omega arith;
      limit_high = omega arith;
      seed_high = omega arith;
      numbers = in_range;
      share = λ period e. absurd (not_None _ e);
      proposals = λ p value e. absurd (not_None _ e);
      proposed = λ p low high. refl;
      crashes = λ p. crash_in crashes crash_ticks (p - 1);
      proposed_above = λ p above. refl;
      crashed_above = λ p above. get_or_past crashes (p - 1) None (omega (arith, one_each, above));
      linked = length-replicate (processes * processes) (steady_link delay);
      links = λ from to a b c d. subst IsLink (sym (at_link from to a b c d)) (record { min_low = ahead.0; min_high = omega arith; max_high = ahead.1; loss_high = omega arith });
      outages = λ from to a b c d. tt;
      ahead = λ from to a b c d apart. subst (λ (l : Link). delay ≤ l.min) (sym (at_link from to a b c d)) (omega arith);
    }

    -- what was computed up to the end is the trace
    pub computed_trace : (n : ℕ) → IsOver n → IsTrace (setting_of s) (computed n)
    computed_trace n over =
        let sound : IsSound plainly = subst IsSound same_setting (setting_sound s steady_in_range) in
        let same = same_plain plainly watcher watch IsMindOf watchers_alike n (opening_process plainly) (opening_process watchers) (λ p. ((set.empty, refl, λ q. set.contains-empty nat_cmp q), refl)) (plain_starts processes) in
        let trace = plain_trace plainly sound n (same.1 ∙ over) in
        subst (λ S. IsTrace S (computed n)) (sym same_setting) (subst (IsTrace plainly) (ap entries same.0) trace)

-- ---- worked traces

abbrev entry : (tick receiver sender number : ℕ) → Kind → (sent lost : ℕ) → List Note → EntryRecord
entry tick receiver sender number kind sent lost notes = record { key = record { tick = tick; receiver = receiver; sender = sender; number = number }; kind = kind; sent = sent; lost = lost; notes = notes }

no_crash : ForSome {T = ℕ} None (λ at. at ≤ last_tick)
no_crash = λ at e. absurd (not_None at e)

crash_at : (at : ℕ) → at ≤ last_tick → ForSome (Some at) (λ tick. tick ≤ last_tick)
crash_at at h = λ tick e. omega (arith, h, same_Some at tick e)

-- ---- two processes that beat every 4 ticks, check every 3, and wait for 5

abbrev patient : TimeoutNumbers
patient = record { period = 4; check = 3; timeout = 5; grow = 1; watch = All }

patient_in_range : AreTimeoutInRange patient
patient_in_range = omega arith

-- one process, for one tick: its start is all
one_process : IsTrace (setting_of (steady 1 1 1 patient (None ∷ []))) (entry 0 1 1 0 kind.Start 0 0 [] ∷ [])
one_process = computed_trace 1 1 1 patient (None ∷ []) (lit≤ tt, lit≤ tt) (lit≤ tt, lit≤ tt) (lit≤ tt, lit≤ tt) patient_in_range refl (no_crash, tt) 1 refl

-- process 2 crashes at tick 3, and process 1 suspects it at tick 9
one_crash : IsTrace (setting_of (steady 2 10 2 patient (None ∷ Some 3 ∷ []))) (
    entry 0 1 1 0 kind.Start 1 0 []
    ∷ entry 0 2 2 0 kind.Start 1 0 []
    ∷ entry 2 1 2 1 kind.Alive 0 0 []
    ∷ entry 2 2 1 1 kind.Alive 0 0 []
    ∷ entry 3 1 1 2 kind.Check 0 0 []
    ∷ entry 3 2 2 2 kind.Dead 0 0 []
    ∷ entry 4 1 1 1 kind.Beat 1 0 []
    ∷ entry 4 2 2 1 kind.Dead 0 0 []
    ∷ entry 6 1 1 3 kind.Check 0 0 []
    ∷ entry 6 2 1 2 kind.Dead 0 0 []
    ∷ entry 8 1 1 4 kind.Beat 1 0 []
    ∷ entry 9 1 1 5 kind.Check 0 0 (Suspect 1 2 ∷ [])
    ∷ []
    )
one_crash =
    computed_trace 2 10 2 patient (None ∷ Some 3 ∷ []) (lit≤ tt, lit≤ tt) (lit≤ tt, lit≤ tt) (lit≤ tt, lit≤ tt) patient_in_range refl (no_crash, (crash_at 3 (lit≤ tt), tt)) 12 refl

-- ---- of the next ones not every entry is told

abbrev crash_at_once : List EntryRecord
crash_at_once = computed 2 10 2 patient (None ∷ Some 0 ∷ []) 9

-- process 2 crashes at tick 0: nine entries, of which its start is dead; process 1 suspects it at tick 6
crashed_at_once : IsTrace (setting_of (steady 2 10 2 patient (None ∷ Some 0 ∷ []))) crash_at_once
    × (length crash_at_once ≡ 9)
    × IsIn (entry 0 2 2 0 kind.Dead 0 0 []) crash_at_once
    × IsIn (entry 6 1 1 3 kind.Check 0 0 (Suspect 1 2 ∷ [])) crash_at_once
crashed_at_once = (
  computed_trace 2 10 2 patient (None ∷ Some 0 ∷ []) (lit≤ tt, lit≤ tt) (lit≤ tt, lit≤ tt) (lit≤ tt, lit≤ tt) patient_in_range refl (no_crash, (crash_at 0 (lit≤ tt), tt)) 9 refl,
  refl,
  inr (inl refl),
  inr (inr (inr (inr (inr (inl refl))))),
)

abbrev crash_too_late : List EntryRecord
crash_too_late = computed 2 10 2 patient (None ∷ Some 10 ∷ []) 16

abbrev letters : List EntryRecord → ℕ
letters [] = 0
letters (e ∷ es) = e.sent + letters es

abbrev has_notes : EntryRecord → Bool
has_notes e = elim e.notes [ [] ↦ false | note ∷ notes ↦ true ]

-- process 2 crashes at the horizon: 16 entries, 6 letters, and nobody is suspected
crashed_too_late : IsTrace (setting_of (steady 2 10 2 patient (None ∷ Some 10 ∷ []))) crash_too_late
    × (length crash_too_late ≡ 16)
    × (letters crash_too_late ≡ 6)
    × (filter has_notes crash_too_late ≡ [])
crashed_too_late = (
  computed_trace 2 10 2 patient (None ∷ Some 10 ∷ []) (lit≤ tt, lit≤ tt) (lit≤ tt, lit≤ tt) (lit≤ tt, lit≤ tt) patient_in_range refl (no_crash, (crash_at 10 (lit≤ tt), tt)) 16 refl,
  refl,
  refl,
  refl,
)

-- ---- two processes that check every 2 ticks, and wait for 2

abbrev hasty : TimeoutNumbers
hasty = record { period = 100; check = 2; timeout = 2; grow = 5; watch = All }

hasty_in_range : AreTimeoutInRange hasty
hasty_in_range = omega arith

abbrev false_suspicion : List EntryRecord
false_suspicion = computed 2 8 2 hasty (None ∷ None ∷ []) 10

abbrev told : EntryRecord → (ℕ × ℕ × List Note)
told e = (e.key.tick, e.key.receiver, e.notes)

-- process 1 suspects 2 at tick 2, and takes it back in the same tick; process 2 suspects 1 at tick 4. Ten entries
suspected_and_trusted : IsTrace (setting_of (steady 2 8 2 hasty (None ∷ None ∷ []))) false_suspicion
    × (length false_suspicion ≡ 10)
    × (map told (filter has_notes false_suspicion) ≡ (2, 1, Suspect 1 2 ∷ []) ∷ (2, 1, Trust 1 2 ∷ []) ∷ (4, 2, Suspect 1 1 ∷ []) ∷ [])
    × IsIn (entry 2 1 1 2 kind.Check 0 0 (Suspect 1 2 ∷ [])) false_suspicion
    × IsIn (entry 2 1 2 1 kind.Alive 0 0 (Trust 1 2 ∷ [])) false_suspicion
suspected_and_trusted = (
  computed_trace 2 8 2 hasty (None ∷ None ∷ []) (lit≤ tt, lit≤ tt) (lit≤ tt, lit≤ tt) (lit≤ tt, lit≤ tt) hasty_in_range refl (no_crash, (no_crash, tt)) 10 refl,
  refl,
  refl,
  inr (inr (inl refl)),
  inr (inr (inr (inl refl))),
)
