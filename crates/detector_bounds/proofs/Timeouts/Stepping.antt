-- One step of the list, seen from the time-out detectors: whose state changes, and which Beats, Checks and Alive letters
-- are pending then.
use Rattle.detector_bounds.proofs.Words.{◌≡◌, ◌≢◌, ◌⊎◌, ℕ, ◌+◌, ◌<◌, ◌≤◌, inl, inr, refl, sym, ap, ◌∙◌, subst, Bool, true, false, List, [], ◌∷◌, ◌++◌, arith, cond, cases_lt, cond_both, Action, Key, StepInput, TimeoutNumbers, before_by_tick, IsIn, Event, Process, Made, dead, made_by, World, Has, IsLeast, IsWorld, NoneBelow, made, taken, opening, opening_world, in_left, step_key, by_receiver, taken_cases, taken_old, taken_new, taken_world, made_sent, each_of, trusts}
use Rattle.detector_bounds.proofs.Timeouts.{Noticing.{notes_trust}, Trusted.{acted_note, entry_counts}, Joined.{RunsTimeout, place_of}, Acting.{IsBeating, IsChecking, IsDone, all_done, beats_on, checks_on, sends_on}}
use Rattle.detector_bounds.proofs.{Events.{IsOf, Comes, IsAddedAt, comes_of, wake_joins, letter_joins}, Above.{IsFollowed}}
use Rattle.std.specs.FinSet as set
use Rattle.process_api.specs.Timeout.{TimeoutState, watches, step_timeout}
use Rattle.process_api.specs.declared.action.Action.TheVariants as action
use Rattle.process_api.specs.declared.action.Note.TheVariants as note
use Rattle.process_api.specs.declared.message.Payload.TheVariants as payload
use Rattle.process_api.specs.declared.message.StepInput.TheVariants as input
use Rattle.process_api.specs.declared.message.Tag.TheVariants as tag
use Rattle.streams.specs.declared.fate.Fate.TheVariants as fate
use Rattle.trace_laws.specs.Setting.{Setting, IsSound, IsProcess, has_crashed}

module _ {Mind : Type 0} (S : Setting Mind) (sound : IsSound S) (numbers : TimeoutNumbers) (R : RunsTimeout S numbers) where
  -- the detector of a process
  abbrev pub state_in : World Mind → ℕ → TimeoutState
  state_in w p = R.part (w.process p).mind

  -- a world of such machines in which nothing is pending below a tick
  pub record IsBased (now : ℕ) (w : World Mind) : Type 0 where
    pub is_world : IsWorld S w
    pub fits : (p : ℕ) → R.has p (w.process p).mind
    pub from : NoneBelow now w.pending

  pub opening_based : IsBased 0 (opening S)
  opening_based = record { is_world = opening_world S sound; fits = R.opens; from = λ key x h. omega arith }

  module _ (now : ℕ) (w : World Mind) (b : IsBased now w) (k : Key) (x : StepInput) (least : IsLeast w.pending k x) where
    abbrev pub is_down : Bool
    is_down = has_crashed (S.crash k.receiver) k.tick

    abbrev before : Process Mind
    before = w.process k.receiver

    abbrev made_or : Bool → Made S
    made_or down = cond down (record { process = before; entry = dead k; added = [] }) (made_by S before k x (S.react before.mind k.tick x))

    pub is_process : IsProcess S k.receiver
    is_process = b.is_world.received k x least.there

    pub later : now ≤ k.tick
    later = b.from k x least.there

    -- the least event has the least tick
    pub least_tick : NoneBelow k.tick w.pending
    least_tick q y h = elim (cases_lt q.tick k.tick) [ inl early ↦ absurd (least.none_before q y h (before_by_tick q k early)) | inr late ↦ late ]

    pub next_based : IsBased k.tick (taken S w k x)
    next_based = record {
      is_world = taken_world S w k x sound b.is_world least.there;
      fits = by_receiver S w k x (λ r c. R.has r c.mind)
          (cond_both is_down _ _ (λ (m : Made S). R.has k.receiver m.process.mind) (λ _. b.fits k.receiver) (λ _. R.keeps k.receiver before.mind k.tick x (b.fits k.receiver)))
          (λ r _. b.fits r);
      from = λ q y h. elim (taken_cases S w k x q y h) [
        | inl i ↦ omega (arith, (made_sent S w k x sound b.is_world least.there (q, y) i).later)
        | inr old ↦ least_tick q y old.1
      ];
    }

    followed : IsFollowed 1 (step_timeout (place_of S k.receiver) numbers (state_in w k.receiver) k.tick x).actions (S.react before.mind k.tick x).actions
    followed = R.acts k.receiver before.mind k.tick x (b.fits k.receiver)

    stepped : R.part (S.react before.mind k.tick x).state ≡ (step_timeout (place_of S k.receiver) numbers (state_in w k.receiver) k.tick x).state
    stepped = R.state k.receiver before.mind k.tick x (b.fits k.receiver)

    -- a process's detector then: that of the receiver by its step, unless it has crashed, and each other one as it was
    pub next_state : (P : TimeoutState → Type 0) (p : ℕ) → ((p ≡ k.receiver → is_down ≡ true) → P (state_in w p))
        → (p ≡ k.receiver → is_down ≡ false → P (step_timeout (place_of S p) numbers (state_in w p) k.tick x).state) → P (state_in (taken S w k x) p)
    next_state P p stays steps =
        by_receiver S w k x (λ r c. ((r ≡ k.receiver → is_down ≡ true) → P (state_in w r)) → (r ≡ k.receiver → is_down ≡ false → P (step_timeout (place_of S r) numbers (state_in w r) k.tick x).state) → P (R.part c.mind))
        (λ still goes. cond_both is_down _ _ (λ (m : Made S). P (R.part m.process.mind)) (λ down. still (λ _. down)) (λ up. subst P (sym stepped) (goes refl up)))
        (λ r other still goes. still (λ e. absurd (other e))) p stays steps

    -- ---- what is pending then

    abbrev acts : List Action
    acts = (step_timeout (place_of S k.receiver) numbers (state_in w k.receiver) k.tick x).actions ++ followed.more

    -- it was pending before, or comes of an action
    IsNew : Key → StepInput → Type 0
    IsNew q y = (is_down ≡ false) × (a : Action) × IsDone numbers x a × IsOf S k.receiver k.tick a q y

    cases : (q : Key) (y : StepInput) → Has (taken S w k x).pending q y → ((q ≢ k) × Has w.pending q y) ⊎ ((is_down ≡ false) × (a : Action) × IsDone numbers x a × IsOf S k.receiver k.tick a q y)
    cases q y h = elim (taken_cases S w k x q y h) [ inl i ↦ inr (new i) | inr old ↦ inl old ]
      where
        new : IsIn {X = Event} (q, y) (made S w k x).added → (is_down ≡ false) × (a : Action) × IsDone numbers x a × IsOf S k.receiver k.tick a q y
        new i = cond_both is_down _ _ (λ (m : Made S). IsIn {X = Event} (q, y) m.added → (is_down ≡ false) × (a : Action) × IsDone numbers x a × IsOf S k.receiver k.tick a q y)
            (λ _ none. absurd none)
            (λ up j.
            let r = comes_of S k.receiver k.tick before.counts (S.react before.mind k.tick x).actions q y j in
            (up, r.0, each_of (IsDone numbers x) acts (all_done numbers (place_of S k.receiver) (state_in w k.receiver) k.tick x followed.more followed.above) r.0 (subst (IsIn r.0) followed.whole r.1), r.2)) i

    -- an Alive letter that is pending then was so before, or is sent by this step, a Beat
    pub alive_cases : (q : Key) (p : ℕ) → Has (taken S w k x).pending q (input.Letter p payload.Alive)
        → ((q ≢ k) × Has w.pending q (input.Letter p payload.Alive)) ⊎ ((p ≡ k.receiver) × (is_down ≡ false) × IsBeating x × Comes S p k.tick q.receiver q.tick)
    alive_cases q p h = elim (cases q (input.Letter p payload.Alive) h) [ inl old ↦ inl old | inr new ↦ inr (go new.1 new.0 new.2 new.3) ]
      where
        go : (a : Action) → is_down ≡ false → IsDone numbers x a → IsOf S k.receiver k.tick a q (input.Letter p payload.Alive) → (p ≡ k.receiver) × (is_down ≡ false) × IsBeating x × Comes S p k.tick q.receiver q.tick
        go (action.Send to payload.Alive) up is of =
            let e : p ≡ k.receiver = cc of.0 in
            (e, up, is, subst (λ r. Comes S r k.tick q.receiver q.tick) (sym e) (subst (λ r. Comes S k.receiver k.tick r q.tick) (sym of.1) of.2))
        go (action.Send to what) up is of = absurd (cc of.0)
        go (action.Wake pause for) up is of = absurd (cc of.0)
        go (action.Note noted) up is none = absurd none

    -- a Beat that is pending then was so before, or is the next one of this process
    pub beat_cases : (q : Key) (y : StepInput) → Has (taken S w k x).pending q y → IsBeating y
        → ((q ≢ k) × Has w.pending q y) ⊎ ((q.receiver ≡ k.receiver) × (is_down ≡ false) × IsBeating x × (q.tick ≡ k.tick + numbers.period))
    beat_cases q y h is = elim (cases q y h) [ inl old ↦ inl old | inr new ↦ inr (go new.1 y is new.0 new.2 new.3) ]
      where
        go : (a : Action) (y : StepInput) → IsBeating y → is_down ≡ false → IsDone numbers x a → IsOf S k.receiver k.tick a q y
            → (q.receiver ≡ k.receiver) × (is_down ≡ false) × IsBeating x × (q.tick ≡ k.tick + numbers.period)
        go (action.Wake pause tag.Beat) y beats up is of = (of.1, up, is.0, of.2 ∙ ap (λ n. k.tick + n) is.1)
        go (action.Wake pause for) (input.Wake tag.Beat) beats up is of = absurd (cc of.0)
        go (action.Wake pause for) input.Start beats up is of = absurd (cc of.0)
        go (action.Send to what) (input.Wake tag.Beat) beats up is of = absurd (cc of.0)
        go (action.Send to what) input.Start beats up is of = absurd (cc of.0)
        go (action.Note noted) y beats up is none = absurd none
        go a y none up is of = absurd none

    -- ---- what surely is pending then

    abbrev pub IsPendingAt : (receiver tick : ℕ) → StepInput → Type 0
    IsPendingAt receiver tick y = (q : Key) × (q.receiver ≡ receiver) × (q.tick ≡ tick) × Has (taken S w k x).pending q y

    -- the same input comes to the same process at a tick, if it was so in the answer's events
    joined_at : (receiver tick : ℕ) (y : StepInput) → is_down ≡ false → IsAddedAt S k.receiver k.tick before.counts (S.react before.mind k.tick x).actions receiver tick y → IsPendingAt receiver tick y
    joined_at receiver tick y up (q, at, when, i) = (
      q,
      at,
      when,
      taken_new S w k x sound b.is_world least.there q y
          (cond_both is_down _ _ (λ (m : Made S). IsIn {X = Event} (q, y) m.added) (λ down. absurd (cc (down, up))) (λ _. i)),
    )

    -- an action of the detector is one of the answer
    acted : (a : Action) → IsIn a (step_timeout (place_of S k.receiver) numbers (state_in w k.receiver) k.tick x).actions → IsIn a (S.react before.mind k.tick x).actions
    acted a i = subst (IsIn a) (sym followed.whole) (in_left a (step_timeout (place_of S k.receiver) numbers (state_in w k.receiver) k.tick x).actions followed.more i)

    -- after a Beat the next one is pending, after a Check the next one
    pub beat_pending : IsBeating x → is_down ≡ false → k.tick + numbers.period < S.horizon → IsPendingAt k.receiver (k.tick + numbers.period) (input.Wake tag.Beat)
    beat_pending is up below = joined_at k.receiver (k.tick + numbers.period) (input.Wake tag.Beat) up
        (wake_joins S k.receiver k.tick before.counts (S.react before.mind k.tick x).actions numbers.period tag.Beat (acted _ (beats_on numbers (place_of S k.receiver) (state_in w k.receiver) k.tick x is)) below)

    pub check_pending : IsChecking x → is_down ≡ false → k.tick + numbers.check < S.horizon → IsPendingAt k.receiver (k.tick + numbers.check) (input.Wake tag.Check)
    check_pending is up below = joined_at k.receiver (k.tick + numbers.check) (input.Wake tag.Check) up
        (wake_joins S k.receiver k.tick before.counts (S.react before.mind k.tick x).actions numbers.check tag.Check (acted _ (checks_on numbers (place_of S k.receiver) (state_in w k.receiver) k.tick x is)) below)

    -- and a letter is to each other process, as its fate says
    pub alive_pending : IsBeating x → is_down ≡ false → (q : ℕ) → IsProcess S q → q ≢ k.receiver
        → (number : ℕ) × (1 ≤ number) × ((delay : ℕ) → S.fate k.receiver q number k.tick ≡ fate.Delay delay → k.tick + delay < S.horizon → IsPendingAt q (k.tick + delay) (input.Letter k.receiver payload.Alive))
    alive_pending is up q process apart =
        let r = letter_joins S k.receiver k.tick before.counts (S.react before.mind k.tick x).actions q payload.Alive apart
        (acted _ (sends_on numbers (place_of S k.receiver) (state_in w k.receiver) k.tick x is q process.0 process.1 apart)) in
        (r.0, r.1, λ delay f below. joined_at q (k.tick + delay) (input.Letter k.receiver payload.Alive) up (r.2 delay f below))

    -- what isn't taken stays pending
    pub stays : (q : Key) (y : StepInput) → q ≢ k → Has w.pending q y → Has (taken S w k x).pending q y
    stays q y apart h = taken_old S w k x sound b.is_world least.there q y apart h

    -- a trust is noted
    pub trust_noted : (p : ℕ) → watches (place_of S k.receiver) numbers p ≡ true → is_down ≡ false → x ≡ input.Letter p payload.Alive
        → set.contains (state_in w k.receiver).suspects p ≡ true → IsIn (note.Trust 1 p) (made S w k x).entry.notes
    trust_noted p watched up is was = cond_both is_down _ _ (λ (m : Made S). IsIn (note.Trust 1 p) m.entry.notes) (λ down. absurd (cc (down, up)))
        (λ _. acted_note (S.react before.mind k.tick x).actions (note.Trust 1 p) (acted (action.Note (note.Trust 1 p))
        (subst (λ y. IsIn (action.Note (note.Trust 1 p)) (step_timeout (place_of S k.receiver) numbers (state_in w k.receiver) k.tick y).actions) (sym is)
        (notes_trust (place_of S k.receiver) numbers (state_in w k.receiver) k.tick p watched was))))

    -- and so counts
    pub trust_counted : (q p : ℕ) → q ≡ k.receiver → watches (place_of S q) numbers p ≡ true → is_down ≡ false → x ≡ input.Letter p payload.Alive
        → set.contains (state_in w q).suspects p ≡ true → 1 ≤ trusts ((made S w k x).entry ∷ []) q p
    trust_counted q p e watched up is was = entry_counts (made S w k x).entry q p (ap (λ (l : Key). l.receiver) (step_key S before k x) ∙ sym e)
        (trust_noted p (subst (λ r. watches (place_of S r) numbers p ≡ true) e watched) up is (subst (λ r. set.contains (state_in w r).suspects p ≡ true) e was))
