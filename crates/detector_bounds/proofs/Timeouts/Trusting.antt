-- Over a link that loses nothing, a time-out detector whose time-out is long enough ends no tick with a mistake.
--
-- What holds from step to step: from a tick, first, on, which is soon enough after the tick at which the observer heard of the
-- subject last, each letter of the subject is pending, and then its next Beat is. So a Check that finds the subject silent for
-- its time-out has a letter to come at its own tick, which takes the suspicion back.
use Rattle.std.proofs.Common.{◌≡◌, ◌≢◌, ◌⊎◌, ℕ, ◌+◌, ◌-◌, ◌<◌, ◌≤◌, inl, inr, refl, sym, ap, ◌∙◌, subst, Bool, true, false, nat_le, List, [], ◌∷◌, arith, zero, suc, leb-true}
use Rattle.std.specs.Ordering.{nat_cmp}
use Rattle.std.specs.FinSet as set
use Rattle.detector_bounds.proofs.{Words.{cases_lt, Key, StepInput, TimeoutNumbers, same_or_not, World, Pair, Has, IsLeast, Run, taken, opening, start_of, one_input}, Ending.{none_at}, Standing.{starts_there}}
use Rattle.detector_bounds.proofs.Timeouts.{Joined.{RunsTimeout, place_of}, Acting.{IsBeating}, Noticing.{by_input}}
use Rattle.detector_bounds.proofs.Timeouts.Stepping.{state_in, IsBased, opening_based, is_down, later, least_tick, next_based, next_state, beat_pending, alive_pending, stays}
use Rattle.process_api.specs.Timeout.{TimeoutState, watches}
use Rattle.process_api.specs.declared.message.Payload.TheVariants as payload
use Rattle.process_api.specs.declared.message.StepInput.TheVariants as input
use Rattle.process_api.specs.declared.message.Tag.TheVariants as tag
use Rattle.streams.specs.declared.fate.Fate.TheVariants as fate
use Rattle.trace_laws.specs.Setting.{Setting, IsSound, IsProcess, has_crashed}

module _ {Mind : Type 0} (S : Setting Mind) (sound : IsSound S) (numbers : TimeoutNumbers) (R : RunsTimeout S numbers) (q p : ℕ) where
  -- what is asked of the pair: q watches p, and these are the ticks at which they crash, as far as that is below the horizon
  pub record IsWatching (p_crash q_crash : ℕ) : Type 0 where
    pub watching : IsProcess S q
    pub subject : IsProcess S p
    pub watched : watches (place_of S q) numbers p ≡ true
    pub apart : q ≢ p
    pub p_up : (t : ℕ) → t < S.horizon → has_crashed (S.crash p) t ≡ true → p_crash ≤ t
    pub q_up : (t : ℕ) → t < S.horizon → has_crashed (S.crash q) t ≡ true → q_crash ≤ t

  -- and of the link from p to q: no letter is lost, delays are from least to most, and the time-out is long enough
  pub record IsTimely (least_delay most_delay : ℕ) : Type 0 where
    pub comes : (number sent_at : ℕ) → 1 ≤ number → (delay : ℕ) × (S.fate p q number sent_at ≡ fate.Delay delay) × (least_delay ≤ delay) × (delay ≤ most_delay)
    pub some_delay : 1 ≤ most_delay
    pub first_in_time : most_delay ≤ numbers.timeout
    pub next_in_time : most_delay + numbers.period ≤ numbers.timeout + least_delay

  module _ (p_crash q_crash : ℕ) (pair : IsWatching p_crash q_crash) (least_delay most_delay : ℕ) (timely : IsTimely least_delay most_delay) where
    -- the letter of the Beat at tick sent is pending, unless it is due too late
    abbrev pub IsOnItsWay : World Mind → (sent : ℕ) → Type 0
    IsOnItsWay w sent = (S.horizon ≤ sent + most_delay)
        ⊎ ((key : Key) × Has w.pending key (input.Letter p payload.Alive) × (key.receiver ≡ q) × (sent + least_delay ≤ key.tick) × (key.tick ≤ sent + most_delay))

    -- the Beat at a tick is pending, unless it never comes
    abbrev pub IsToBeat : World Mind → (tick : ℕ) → Type 0
    IsToBeat w tick = (S.horizon ≤ tick) ⊎ ((p_crash ≤ tick)
        ⊎ ((key : Key) × (y : StepInput) × Has w.pending key y × IsBeating y × (key.receiver ≡ p) × (key.tick ≡ tick)))

    -- so many letters from a tick on are pending, and then the next Beat
    abbrev pub AreToCome : World Mind → (letters first : ℕ) → Type 0
    AreToCome w zero first = IsToBeat w first
    AreToCome w (suc letters) first = IsOnItsWay w first × AreToCome w letters (first + numbers.period)

    -- the suspicion goes at this tick, or it is no mistake
    abbrev pub IsBrief : World Mind → (now : ℕ) → Type 0
    IsBrief w now = ((key : Key) × Has w.pending key (input.Letter p payload.Alive) × (key.receiver ≡ q) × (key.tick ≡ now)) ⊎ ((p_crash ≤ now) ⊎ (q_crash ≤ now))

    pub record IsHeard (now : ℕ) (w : World Mind) : Type 1 where
      pub based : IsBased S sound numbers R now w
      pub heard : (state_in S sound numbers R w q).last_heard p ≤ now
      pub bounded : numbers.timeout ≤ (state_in S sound numbers R w q).bound p
      pub letters : ℕ
      pub first : ℕ
      pub to_come : AreToCome w letters first
      pub soon : (q_crash ≤ now) ⊎ (first + most_delay ≤ (state_in S sound numbers R w q).last_heard p + numbers.timeout)
      pub brief : set.contains (state_in S sound numbers R w q).suspects p ≡ true → IsBrief w now

    module _ (now : ℕ) (w : World Mind) (v : IsHeard now w) (k : Key) (x : StepInput) (least : IsLeast w.pending k x) where
      abbrev next : World Mind
      next = taken S w k x

      abbrev down : Bool
      down = is_down S sound numbers R now w v.based k x least

      below : k.tick < S.horizon
      below = v.based.is_world.below k x least.there

      -- the letter that is taken
      abbrev IsTaken : Type 0
      IsTaken = (x ≡ input.Letter p payload.Alive) × (k.receiver ≡ q)

      -- what is to come then: it may begin later, after the letter that is taken
      abbrev Goes : (first : ℕ) → Type 0
      Goes first = (letters from : ℕ) × AreToCome next letters from × ((from ≡ first) ⊎ (IsTaken × (from + least_delay ≤ k.tick + numbers.period)))

      -- the Beat is taken
      beat_taken : (first : ℕ) → IsBeating x → k.receiver ≡ p → k.tick ≡ first → Goes first
      beat_taken first is mine at = elim down as (λ b. down ≡ b → Goes first) [
        | true ↦ λ crashed. (0, first, inr (inl (omega (arith, at, pair.p_up k.tick below (ap (λ r. has_crashed (S.crash r) k.tick) (sym mine) ∙ crashed)))), inl refl)
        | false ↦ λ up. (1, first, (letter up, beat up), inl refl)
      ] refl
        where
          letter : down ≡ false → IsOnItsWay next first
          letter up =
              let sent = alive_pending S sound numbers R now w v.based k x least is up q pair.watching (λ e. pair.apart (e ∙ mine)) in
              let f = timely.comes sent.0 k.tick sent.1 in
              elim (cases_lt (k.tick + f.0) S.horizon) [
                | inl early ↦
                    let r = sent.2 f.0 (ap (λ s. S.fate s q sent.0 k.tick) mine ∙ f.1) early in
                    inr (r.0, subst (λ s. Has next.pending r.0 (input.Letter s payload.Alive)) mine r.3, r.1, omega (arith, r.2, f.2, at), omega (arith, r.2, f.3, at))
                | inr late ↦ inl (omega (arith, late, f.3, at))
              ]

          beat : down ≡ false → IsToBeat next (first + numbers.period)
          beat up = elim (cases_lt (k.tick + numbers.period) S.horizon) [
            | inl early ↦
                let r = beat_pending S sound numbers R now w v.based k x least is up early in
                inr (inr (r.0, input.Wake tag.Beat, r.3, tt, r.1 ∙ mine, omega (arith, r.2, at)))
            | inr late ↦ inl (omega (arith, late, at))
          ]

      next_letter : (first : ℕ) → IsOnItsWay w first → IsOnItsWay next first ⊎ (IsTaken × (first + least_delay ≤ k.tick))
      next_letter first (inl late) = inl (inl late)
      next_letter first (inr (key, there, to, low, high)) = elim (same_or_not key k) [
        | inl same ↦ inr (
          (one_input w.pending k x (input.Letter p payload.Alive) least.there (subst (λ l. Has w.pending l (input.Letter p payload.Alive)) same there), ap (λ (l : Key). l.receiver) (sym same) ∙ to),
          omega (arith, low, ap (λ (l : Key). l.tick) same),
        )
        | inr other ↦ inl (inr (key, stays S sound numbers R now w v.based k x least key _ other there, to, low, high))
      ]

      next_to_come : (letters first : ℕ) → AreToCome w letters first → Goes first
      next_to_come zero first (inl late) = (0, first, inl late, inl refl)
      next_to_come zero first (inr (inl never)) = (0, first, inr (inl never), inl refl)
      next_to_come zero first (inr (inr (key, y, there, is, mine, at))) = elim (same_or_not key k) [
        | inl same ↦ beat_taken first (subst IsBeating (sym (one_input w.pending k x y least.there (subst (λ l. Has w.pending l y) same there))) is)
            (ap (λ (l : Key). l.receiver) (sym same) ∙ mine) (ap (λ (l : Key). l.tick) (sym same) ∙ at)
        | inr other ↦ (0, first, inr (inr (key, y, stays S sound numbers R now w v.based k x least key y other there, is, mine, at)), inl refl)
      ]
      next_to_come (suc letters) first (way, rest) = go (next_to_come letters (first + numbers.period) rest) (next_letter first way)
        where
          go : Goes (first + numbers.period) → IsOnItsWay next first ⊎ (IsTaken × (first + least_delay ≤ k.tick)) → Goes first
          go (m, from, come, inr taken_one) way = (m, from, come, inr taken_one)
          go (m, from, come, inl same) (inl still) = (suc m, first, (still, subst (AreToCome next m) same come), inl refl)
          go (m, from, come, inl same) (inr gone) = (m, from, come, inr (gone.0, omega (arith, gone.1, same)))

      next_now : now ≤ k.tick
      next_now = later S sound numbers R now w v.based k x least

      -- the letter that takes the suspicion back stays pending, or this is it
      keep_brief : (IsTaken → q_crash ≤ k.tick) → IsBrief w now → IsBrief next k.tick
      keep_brief it (inr (inl crash)) = inr (inl (omega (arith, crash, next_now)))
      keep_brief it (inr (inr crash)) = inr (inr (omega (arith, crash, next_now)))
      keep_brief it (inl (key, there, to, at)) = elim (same_or_not key k) [
        | inl same ↦ inr (inr (it (
          one_input w.pending k x (input.Letter p payload.Alive) least.there (subst (λ l. Has w.pending l (input.Letter p payload.Alive)) same there),
          ap (λ (l : Key). l.receiver) (sym same) ∙ to,
        )))
        | inr other ↦ inl (
          key,
          stays S sound numbers R now w v.based k x least key _ other there,
          to,
          omega (arith, at, next_now, least_tick S sound numbers R now w v.based k x least key (input.Letter p payload.Alive) there),
        )
      ]

      -- a Check that finds p silent from first on has a letter to come at its tick, unless p has crashed
      letter_due : (letters first : ℕ) → AreToCome w letters first → first + most_delay ≤ k.tick → x ≡ input.Wake tag.Check → IsBrief next k.tick
      letter_due zero first (inl late) due is = absurd (omega (arith, late, due, below))
      letter_due zero first (inr (inl crash)) due is = inr (inl (omega (arith, crash, due)))
      letter_due zero first (inr (inr (key, y, there, beats, mine, at))) due is = absurd (omega (arith, at, due, timely.some_delay, least_tick S sound numbers R now w v.based k x least key y there))
      letter_due (suc letters) first (inl late, rest) due is = absurd (omega (arith, late, due, below))
      letter_due (suc letters) first (inr (key, there, to, low, high), rest) due is = elim (same_or_not key k) [
        | inl same ↦ absurd (cc (is, one_input w.pending k x (input.Letter p payload.Alive) least.there (subst (λ l. Has w.pending l (input.Letter p payload.Alive)) same there)))
        | inr other ↦ inl (
          key,
          stays S sound numbers R now w v.based k x least key _ other there,
          to,
          omega (arith, high, due, least_tick S sound numbers R now w v.based k x least key (input.Letter p payload.Alive) there),
        )
      ]

      module _ (from : ℕ) (begins : (from ≡ v.first) ⊎ (IsTaken × (from + least_delay ≤ k.tick + numbers.period))) where
        abbrev heard_at : ℕ
        heard_at = (state_in S sound numbers R w q).last_heard p

        -- what q keeps of p then
        abbrev Kept : (tick bound : ℕ) → Bool → Type 0
        Kept tick bound b = (tick ≤ k.tick) × (numbers.timeout ≤ bound) × ((q_crash ≤ k.tick) ⊎ (from + most_delay ≤ tick + numbers.timeout)) × (b ≡ true → IsBrief next k.tick)

        -- as no letter of p is taken by q
        soon_still : (IsTaken → q_crash ≤ k.tick) → (q_crash ≤ k.tick) ⊎ (from + most_delay ≤ heard_at + numbers.timeout)
        soon_still it = elim begins [
          | inl same ↦ elim v.soon [ inl crash ↦ inl (omega (arith, crash, next_now)) | inr soon ↦ inr (omega (arith, soon, same)) ]
          | inr taken_one ↦ inl (it taken_one.0)
        ]

        -- as one is
        soon_then : (q_crash ≤ k.tick) ⊎ (from + most_delay ≤ k.tick + numbers.timeout)
        soon_then = elim begins [
          | inl same ↦ elim v.soon [ inl crash ↦ inl (omega (arith, crash, next_now)) | inr soon ↦ inr (omega (arith, soon, same, v.heard, next_now)) ]
          | inr taken_one ↦ inr (omega (arith, taken_one.1, timely.next_in_time))
        ]

        kept_still : (IsTaken → q_crash ≤ k.tick) → Kept heard_at ((state_in S sound numbers R w q).bound p) (set.contains (state_in S sound numbers R w q).suspects p)
        kept_still it = (omega (arith, v.heard, next_now), v.bounded, soon_still it, λ was. keep_brief it (v.brief was))

        due_then : nat_le ((state_in S sound numbers R w q).bound p) (k.tick - heard_at) ≡ true → x ≡ input.Wake tag.Check → IsBrief next k.tick
        due_then late is = elim v.soon [
          | inl crash ↦ inr (inr (omega (arith, crash, next_now)))
          | inr soon ↦ letter_due v.letters v.first v.to_come
              (omega (arith, soon, leb-true ((state_in S sound numbers R w q).bound p) (k.tick - heard_at) late, v.bounded, timely.first_in_time, timely.some_delay)) is
        ]

        next_kept : Kept ((state_in S sound numbers R next q).last_heard p) ((state_in S sound numbers R next q).bound p) (set.contains (state_in S sound numbers R next q).suspects p)
        next_kept = next_state S sound numbers R now w v.based k x least (λ t. Kept (t.last_heard p) (t.bound p) (set.contains t.suspects p)) q
            (λ down_there. kept_still (λ taken_one. pair.q_up k.tick below (ap (λ r. has_crashed (S.crash r) k.tick) (sym taken_one.1) ∙ down_there (sym taken_one.1))))
            (λ e up. by_input (place_of S q) numbers (state_in S sound numbers R w q) k.tick p pair.watched Kept x
            (λ is was bound low high. (omega arith, omega (arith, low, v.bounded), soon_then, λ none. absurd (cc none)))
            (λ is was. (omega arith, v.bounded, soon_then, λ none. absurd (cc none)))
            (λ is late. (omega (arith, v.heard, next_now), v.bounded, soon_still (λ taken_one. absurd (cc (taken_one.0, is))), λ _. due_then late is))
            (λ is patient. kept_still (λ taken_one. absurd (cc (taken_one.0, is))))
            (λ no_letter no_check. kept_still (λ taken_one. absurd (no_letter taken_one.0))))

      next_heard : IsHeard k.tick next
      next_heard =
          let g = next_to_come v.letters v.first v.to_come in
          let kept = next_kept g.1 g.3 in
          record {
            based = next_based S sound numbers R now w v.based k x least;
            heard = kept.0;
            bounded = kept.1;
            letters = g.0;
            first = g.1;
            to_come = g.2;
            soon = kept.2;
            brief = kept.3;
          }

    -- through a run
    run_heard : (history : List Pair) (end : ℕ) (w final : World Mind) (now : ℕ) → IsHeard now w → now < end → Run S end w history final → (then : ℕ) × (then < end) × IsHeard then final
    run_heard [] end w final now v before run = (now, before, subst (IsHeard now) (sym run.1) v)
    run_heard (s ∷ rest) end w final now v before run = run_heard rest end (taken S w s.0.key s.1) final s.0.key.tick (next_heard now w v s.0.key s.1 run.0) run.1 run.3

    opening_heard : IsHeard 0 (opening S)
    opening_heard = record {
      based = opening_based S sound numbers R;
      heard = omega (arith, ap (λ (t : TimeoutState). t.last_heard p) (R.opens_with q));
      bounded = omega (arith, ap (λ (t : TimeoutState). t.bound p) (R.opens_with q));
      letters = 0;
      first = 0;
      to_come = inr (inr (start_of p, input.Start, starts_there S.processes p pair.subject.0 pair.subject.1, tt, refl, refl));
      soon = inr (omega (arith, timely.first_in_time));
      brief = λ was. absurd (cc (was, ap (λ (t : TimeoutState). set.contains t.suspects p) (R.opens_with q), set.contains-empty nat_cmp p));
    }

    -- q suspects p at the end of no tick at which neither has crashed
    pub trusted_then : (t : ℕ) (history : List Pair) (w : World Mind) → Run S (t + 1) (opening S) history w → t < p_crash → t < q_crash
        → ¬ (set.contains (state_in S sound numbers R w q).suspects p ≡ true)
    trusted_then t history w run p_up q_up was =
        let r = run_heard history (t + 1) (opening S) w 0 opening_heard (omega arith) run in
        go r.0 r.1 (r.2.brief was)
      where
        go : (then : ℕ) → then < t + 1 → IsBrief w then → ⊥
        go then before (inl (key, there, to, at)) = omega (arith, none_at S sound (t + 1) history (opening S) w run key (input.Letter p payload.Alive) there, at, before)
        go then before (inr (inl crash)) = omega (arith, crash, before, p_up)
        go then before (inr (inr crash)) = omega (arith, crash, before, q_up)
