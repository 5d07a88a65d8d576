-- A process that has crashed becomes suspected for good by a time-out detector that watches it.
--
-- What holds from step to step: a Beat of the subject lies at a multiple of the period, so that no Alive letter of it comes after
-- a tick, last; so the observer has heard of it at that tick at the latest; its bound is at most what the trusts made it; and a
-- Check of the observer is pending at a multiple of check up to the tick until, the last of which finds the subject silent
-- for its bound. From then on no letter can take the suspicion back.
use Rattle.std.proofs.Common.{◌≡◌, ◌≢◌, ◌⊎◌, ℕ, ◌+◌, ◌-◌, ◌*◌, ◌<◌, ◌≤◌, inl, inr, refl, sym, ap, ◌∙◌, subst, Bool, true, false, nat_le, List, [], ◌∷◌, arith, le-leb}
use Rattle.std.specs.FinSet as set
use Rattle.detector_bounds.proofs.Words.{cases_lt, Key, StepInput, TimeoutNumbers, same_or_not, World, Pair, Has, IsLeast, NoneBelow, Run, made, taken, opening, entries, start_of, starts_are, one_input, trusts, EntryRecord}
use Rattle.detector_bounds.proofs.{Ending.{IsKept, none_at}, Multiples.{mul-next, more_grown, fewer_grown, multiple_after}, Standing.{starts_there}}
use Rattle.detector_bounds.proofs.Timeouts.{Joined.{RunsTimeout, place_of}, Acting.{IsBeating, IsChecking}, Noticing.{by_input}}
use Rattle.detector_bounds.proofs.Timeouts.{Stepping.{state_in, IsBased, opening_based, is_down, later, next_based, next_state, alive_cases, beat_cases, check_pending, stays, trust_counted}, Trusted.{trusts-append}}
use Rattle.process_api.specs.Timeout.{TimeoutState, watches}
use Rattle.process_api.specs.declared.message.Payload.TheVariants as payload
use Rattle.process_api.specs.declared.message.StepInput.TheVariants as input
use Rattle.process_api.specs.declared.message.Tag.TheVariants as tag
use Rattle.streams.specs.declared.fate.Fate.TheVariants as fate
use Rattle.trace_laws.specs.Setting.{Setting, IsSound, IsProcess, has_crashed}
use Rattle.judges.proofs.Letters.{no_letter_first}

module _ {Mind : Type 0} (S : Setting Mind) (sound : IsSound S) (numbers : TimeoutNumbers) (R : RunsTimeout S numbers) (q p : ℕ) where
  -- what is asked of the pair: q watches p and does not crash below the horizon
  pub record IsPair : Type 0 where
    pub watching : IsProcess S q
    pub watched : watches (place_of S q) numbers p ≡ true
    pub apart : q ≢ p
    pub up : (t : ℕ) → t < S.horizon → has_crashed (S.crash q) t ≡ false

  -- what last and until have to be, where q trusts p again so often in the whole run: every letter of p comes by tick last, and
  -- until is the tick of a check, as long after that as the bound may be
  pub record AreTicks (last until total : ℕ) : Type 0 where
    pub by_last : (t j number delay : ℕ) → t ≡ j * numbers.period → t < S.horizon → has_crashed (S.crash p) t ≡ false → 1 ≤ number
        → S.fate p q number t ≡ fate.Delay delay → t + delay ≤ last
    pub number : ℕ
    pub multiple : until ≡ number * numbers.check
    pub after_last : last + (numbers.timeout + numbers.grow * total) ≤ until
    pub below : until < S.horizon
    pub some_timeout : 1 ≤ numbers.timeout

  module _ (pair : IsPair) (last until total : ℕ) (ticks : AreTicks last until total) where
    -- p is suspected for good
    abbrev pub IsOver : ℕ → World Mind → Type 0
    IsOver now w = (set.contains (state_in S sound numbers R w q).suspects p ≡ true) × (until ≤ now)

    -- a Check of q is pending, at until or before
    pub record IsComing (w : World Mind) : Type 0 where
      pub number : ℕ
      pub key : Key
      pub input_is : StepInput
      pub there : Has w.pending key input_is
      pub checks : IsChecking input_is
      pub starts : input_is ≡ input.Start → key.tick ≡ 0
      pub receiver : key.receiver ≡ q
      pub tick : key.tick ≡ number * numbers.check
      pub in_time : key.tick ≤ until

    pub record IsAwaiting (count now : ℕ) (w : World Mind) : Type 0 where
      pub based : IsBased S sound numbers R now w
      pub beats : (key : Key) (y : StepInput) → Has w.pending key y → IsBeating y → key.receiver ≡ p → (j : ℕ) × (key.tick ≡ j * numbers.period)
      pub letters : (key : Key) → Has w.pending key (input.Letter p payload.Alive) → key.receiver ≡ q → key.tick ≤ last
      pub heard : (state_in S sound numbers R w q).last_heard p ≤ last
      pub bounded : (state_in S sound numbers R w q).bound p ≤ numbers.timeout + numbers.grow * count
      pub checking : IsOver now w ⊎ IsComing w

    module _ (count now : ℕ) (w : World Mind) (v : IsAwaiting count now w) (k : Key) (x : StepInput) (least : IsLeast w.pending k x) (few : count ≤ total) where
      abbrev next : World Mind
      next = taken S w k x

      -- the trusts that the step notes
      abbrev here : ℕ
      here = trusts ((made S w k x).entry ∷ []) q p

      abbrev down : Bool
      down = is_down S sound numbers R now w v.based k x least

      next_beats : (key : Key) (y : StepInput) → Has next.pending key y → IsBeating y → key.receiver ≡ p → (j : ℕ) × (key.tick ≡ j * numbers.period)
      next_beats key y h is at = elim (beat_cases S sound numbers R now w v.based k x least key y h is) [
        | inl old ↦ v.beats key y old.1 is at
        | inr new ↦
            let j = v.beats k x least.there new.2 (sym new.0 ∙ at) in
            (j.0 + 1, new.3 ∙ ap (λ t. t + numbers.period) j.1 ∙ sym (mul-next j.0 numbers.period))
      ]

      below : k.tick < S.horizon
      below = v.based.is_world.below k x least.there

      next_letters : (key : Key) → Has next.pending key (input.Letter p payload.Alive) → key.receiver ≡ q → key.tick ≤ last
      next_letters key h at = elim (alive_cases S sound numbers R now w v.based k x least key p h) [
        | inl old ↦ v.letters key old.1 at
        | inr new ↦
            let j = v.beats k x least.there new.2 (sym new.0) in
            let came = new.3.to_another (λ e. pair.apart (sym at ∙ e)) in
            let up : has_crashed (S.crash p) k.tick ≡ false = ap (λ r. has_crashed (S.crash r) k.tick) new.0 ∙ new.1 in
            let by : k.tick + came.1 ≤ last = ticks.by_last k.tick j.0 came.0 came.1 j.1 below up came.2 (ap (λ r. S.fate p r came.0 k.tick) (sym at) ∙ came.3) in
            omega (arith, by, came.4)
      ]

      -- what q keeps of p
      abbrev Kept : ℕ → TimeoutState → Type 0
      Kept n t = (t.last_heard p ≤ last) × (t.bound p ≤ numbers.timeout + numbers.grow * n)

      next_kept : Kept (count + here) (state_in S sound numbers R next q)
      next_kept = next_state S sound numbers R now w v.based k x least (Kept (count + here)) q
          (λ _. (v.heard, more))
          (λ e up. by_input (place_of S q) numbers (state_in S sound numbers R w q) k.tick p pair.watched (λ tick bound b. (tick ≤ last) × (bound ≤ numbers.timeout + numbers.grow * (count + here))) x
          (λ is was bound low high. (came e is, omega (arith, high, v.bounded, more_grown numbers.grow count here (trust_counted S sound numbers R now w v.based k x least q p e pair.watched up is was))))
          (λ is was. (came e is, more))
          (λ is late. (v.heard, more)) (λ is patient. (v.heard, more)) (λ no_letter no_check. (v.heard, more)))
        where
          more : (state_in S sound numbers R w q).bound p ≤ numbers.timeout + numbers.grow * (count + here)
          more = omega (arith, v.bounded, fewer_grown numbers.grow count (count + here) (omega arith))

          came : q ≡ k.receiver → x ≡ input.Letter p payload.Alive → k.tick ≤ last
          came e is = v.letters k (subst (Has w.pending k) is least.there) (sym e)

      -- where it is over it stays so: no letter comes any more
      stays_over : IsOver now w → IsOver k.tick next
      stays_over over = (
        next_state S sound numbers R now w v.based k x least (λ t. set.contains t.suspects p ≡ true) q
            (λ _. over.0)
            (λ e up. by_input (place_of S q) numbers (state_in S sound numbers R w q) k.tick p pair.watched (λ tick bound b. b ≡ true) x
            (λ is was bound low high. absurd (too_late e is)) (λ is was. absurd (too_late e is)) (λ is late. refl) (λ is patient. over.0) (λ no_letter no_check. over.0)),
        omega (arith, over.1, later S sound numbers R now w v.based k x least),
      )
        where
          too_late : q ≡ k.receiver → x ≡ input.Letter p payload.Alive → ⊥
          too_late e is = omega (arith, v.letters k (subst (Has w.pending k) is least.there) (sym e), over.1, later S sound numbers R now w v.based k x least, ticks.after_last, ticks.some_timeout)

      -- the Check that was pending is taken
      check_taken : (c : IsComing w) → c.key ≡ k → IsOver k.tick next ⊎ IsComing next
      check_taken c same = elim (cases_lt k.tick until) [ inl before ↦ inr (another before) | inr at ↦ inl (last_one at) ]
        where
          mine : q ≡ k.receiver
          mine = sym c.receiver ∙ ap (λ (l : Key). l.receiver) same

          same_input : x ≡ c.input_is
          same_input = one_input w.pending k x c.input_is least.there (subst (λ l. Has w.pending l c.input_is) same c.there)

          checks : IsChecking x
          checks = subst IsChecking (sym same_input) c.checks

          is_up : down ≡ false
          is_up = ap (λ r. has_crashed (S.crash r) k.tick) (sym mine) ∙ pair.up k.tick below

          tick : k.tick ≡ c.number * numbers.check
          tick = ap (λ (l : Key). l.tick) (sym same) ∙ c.tick

          another : k.tick < until → IsComing next
          another before =
              let room : c.number * numbers.check + numbers.check ≤ ticks.number * numbers.check = multiple_after c.number ticks.number numbers.check (omega (arith, before, tick, ticks.multiple)) in
              let r = check_pending S sound numbers R now w v.based k x least checks is_up (omega (arith, room, tick, ticks.multiple, ticks.below)) in
              record {
                number = c.number + 1;
                key = r.0;
                input_is = input.Wake tag.Check;
                there = r.3;
                checks = tt;
                starts = λ e. absurd (cc e);
                receiver = r.1 ∙ sym mine;
                tick = omega (arith, r.2, tick, mul-next c.number numbers.check);
                in_time = omega (arith, r.2, room, tick, ticks.multiple);
              }

          late_then : until ≤ k.tick → nat_le ((state_in S sound numbers R w q).bound p) (k.tick - (state_in S sound numbers R w q).last_heard p) ≡ true
          late_then at =
              let enough : (state_in S sound numbers R w q).bound p + last ≤ k.tick = omega (arith, at, v.bounded, fewer_grown numbers.grow count total few, ticks.after_last) in
              le-leb _ _ (omega (arith, enough, v.heard))

          is_check : until ≤ k.tick → x ≡ input.Wake tag.Check
          is_check at = go c.input_is same_input c.checks c.starts
            where
              go : (y : StepInput) → x ≡ y → IsChecking y → (y ≡ input.Start → c.key.tick ≡ 0) → x ≡ input.Wake tag.Check
              go input.Start e is zero_tick = absurd (omega (arith, zero_tick refl, ap (λ (l : Key). l.tick) same, at, ticks.after_last, ticks.some_timeout))
              go (input.Wake tag.Check) e is zero_tick = e
              go y e none zero_tick = absurd none

          last_one : until ≤ k.tick → IsOver k.tick next
          last_one at = (
            next_state S sound numbers R now w v.based k x least (λ t. set.contains t.suspects p ≡ true) q
                (λ down. absurd (cc (down mine, is_up)))
                (λ e up. by_input (place_of S q) numbers (state_in S sound numbers R w q) k.tick p pair.watched (λ tick bound b. b ≡ true) x
                (λ is was bound low high. absurd (cc (is, is_check at))) (λ is was. absurd (cc (is, is_check at))) (λ is late. refl)
                (λ is patient. absurd (cc (patient, late_then at))) (λ no_letter no_check. absurd (no_check (is_check at)))),
            at,
          )

      next_checking : IsOver now w ⊎ IsComing w → IsOver k.tick next ⊎ IsComing next
      next_checking (inl over) = inl (stays_over over)
      next_checking (inr c) = elim (same_or_not c.key k) [
        | inl same ↦ check_taken c same
        | inr other ↦ inr (record {
          number = c.number;
          key = c.key;
          input_is = c.input_is;
          there = stays S sound numbers R now w v.based k x least c.key c.input_is other c.there;
          checks = c.checks;
          starts = c.starts;
          receiver = c.receiver;
          tick = c.tick;
          in_time = c.in_time;
        })
      ]

      pub next_awaits : IsAwaiting (count + here) k.tick next
      next_awaits = record {
        based = next_based S sound numbers R now w v.based k x least;
        beats = next_beats;
        letters = next_letters;
        heard = next_kept.0;
        bounded = next_kept.1;
        checking = next_checking v.checking;
      }

    -- through a run
    run_awaits : (history : List Pair) (end : ℕ) (w final : World Mind) (count now : ℕ) → IsAwaiting count now w → Run S end w history final → count + trusts (entries history) q p ≤ total
        → (n then : ℕ) × IsAwaiting n then final
    run_awaits [] end w final count now v run few = (count, now, subst (IsAwaiting count now) (sym run.1) v)
    run_awaits (s ∷ rest) end w final count now v run few =
        let all : trusts (entries (s ∷ rest)) q p ≡ trusts ((made S w s.0.key s.1).entry ∷ []) q p + trusts (entries rest) q p
        = trusts-append (s.0 ∷ []) (entries rest) q p ∙ ap (λ e. trusts (e ∷ []) q p + trusts (entries rest) q p) run.2 in
        run_awaits rest end (taken S w s.0.key s.1) final (count + trusts ((made S w s.0.key s.1).entry ∷ []) q p) s.0.key.tick
        (next_awaits count now w v s.0.key s.1 run.0 (omega (arith, few))) run.3 (omega (arith, few, all))

    opening_awaits : IsAwaiting 0 0 (opening S)
    opening_awaits = record {
      based = opening_based S sound numbers R;
      beats = λ key y h is at. (0, omega (arith, ap (λ (l : Key). l.tick) (starts_are S.processes key y h).2));
      letters = λ key h at. absurd (no_letter_first S.processes key p payload.Alive h);
      heard = omega (arith, ap (λ (t : TimeoutState). t.last_heard p) (R.opens_with q));
      bounded = omega (arith, ap (λ (t : TimeoutState). t.bound p) (R.opens_with q));
      checking = inr (record {
        number = 0;
        key = start_of q;
        input_is = input.Start;
        there = starts_there S.processes q pair.watching.0 pair.watching.1;
        checks = tt;
        starts = λ _. refl;
        receiver = refl;
        tick = omega arith;
        in_time = omega arith;
      });
    }

    -- q suspects p at the end of each tick from until on
    pub suspected_then : (t : ℕ) (history : List Pair) (w : World Mind) → Run S (t + 1) (opening S) history w → until ≤ t → trusts (entries history) q p ≤ total
        → set.contains (state_in S sound numbers R w q).suspects p ≡ true
    suspected_then t history w run behind few =
        let r = run_awaits history (t + 1) (opening S) w 0 0 opening_awaits run (omega (arith, few)) in
        elim r.2.checking [ inl over ↦ over.0 | inr c ↦ absurd (omega (arith, none_at S sound (t + 1) history (opening S) w run c.key c.input_is c.there, c.in_time, behind)) ]

    -- the same at every step: what is known while q hasn't trusted p more often
    abbrev pub Awaits : World Mind → List EntryRecord → Type 0
    Awaits w past = trusts past q p ≤ total → (now : ℕ) × IsAwaiting (trusts past q p) now w

    pub awaits_kept : (end : ℕ) → IsKept S sound end Awaits
    awaits_kept end = record {
      opens = λ few. (0, opening_awaits);
      keeps = λ w past k x is_world awaits least early few.
          let all = trusts-append past ((made S w k x).entry ∷ []) q p in
          let before : trusts past q p ≤ total = omega (arith, few, all) in
          let v = awaits before in
          (k.tick, subst (λ n. IsAwaiting n k.tick (taken S w k x)) (sym all) (next_awaits (trusts past q p) v.0 w v.1 k x least before));
    }

    -- and once nothing up to until is pending, p is suspected for good
    pub firm : (w : World Mind) (past : List EntryRecord) → Awaits w past → trusts past q p ≤ total → NoneBelow (until + 1) w.pending → set.contains (state_in S sound numbers R w q).suspects p ≡ true
    firm w past awaits few none = elim (awaits few).1.checking [ inl over ↦ over.0 | inr c ↦ absurd (omega (arith, none c.key c.input_is c.there, c.in_time)) ]
