-- What an input makes of what a time-out detector keeps of one process that it watches: the tick at which it heard of it last,
-- the bound, and whether it suspects it.
use Rattle.detector_bounds.proofs.Words.{◌≡◌, ◌≢◌, ℕ, ◌+◌, ◌-◌, ◌≤◌, inl, inr, refl, sym, ap, ◌∙◌, subst, Bool, true, false, not, ◌&&◌, ◌||◌, nat_le, min, max, arith, and_parts, cases_eq, cond_both, ne_eqb, eq-eqb, still, is_process, Place, StepInput, TimeoutNumbers, contains-insert_all, contains-remove_is, IsIn, change_at, change_other}
use Rattle.std.specs.FinSet as set
use Rattle.process_api.specs.Timeout.{TimeoutState, watches, is_overdue, checked, noticed, trusted_again, heard, step_timeout}
use Rattle.process_api.specs.declared.action.Action.TheVariants as action
use Rattle.process_api.specs.declared.action.Note.TheVariants as note
use Rattle.process_api.specs.declared.message.Payload.TheVariants as payload
use Rattle.process_api.specs.declared.message.StepInput.TheVariants as input
use Rattle.process_api.specs.declared.message.Tag.TheVariants as tag

module _ (place : Place) (numbers : TimeoutNumbers) (s : TimeoutState) (now p : ℕ) (watched : watches place numbers p ≡ true) where
  abbrev pub is_suspected : Bool
  is_suspected = set.contains s.suspects p

  -- p was silent for its bound
  abbrev pub is_late : Bool
  is_late = nat_le (s.bound p) (now - s.last_heard p)

  among : is_process place.processes p ≡ true
  among = (and_parts _ _ (and_parts _ _ watched).0).0

  suspected_after_check : set.contains (checked place numbers s now).state.suspects p ≡ ((not is_suspected && is_late) || is_suspected)
  suspected_after_check = contains-insert_all s.suspects (is_overdue place numbers s now) place.processes p
      ∙ (λ i. (among i && (watched i && (not is_suspected && is_late))) || is_suspected)

  or_before : (c : Bool) → ((not c && true) || c) ≡ true
  or_before true = refl
  or_before false = refl

  nobody_new : (c : Bool) → ((not c && false) || c) ≡ c
  nobody_new true = refl
  nobody_new false = refl

  removed_itself : set.contains (set.remove s.suspects p) p ≡ false
  removed_itself = contains-remove_is s.suspects p p ∙ ap (λ b. not b && is_suspected) (eq-eqb p p refl)

  module _ (P : ℕ → ℕ → Bool → Type 0) where
    abbrev pub Of : TimeoutState → Type 0
    Of t = P (t.last_heard p) (t.bound p) (set.contains t.suspects p)

    -- by input: an Alive letter of p, a Check, or anything else
    pub by_input : (x : StepInput)
        → (x ≡ input.Letter p payload.Alive → is_suspected ≡ true → (bound : ℕ) → s.bound p ≤ bound → bound ≤ s.bound p + numbers.grow → P now bound false)
        → (x ≡ input.Letter p payload.Alive → is_suspected ≡ false → P now (s.bound p) false)
        → (x ≡ input.Wake tag.Check → is_late ≡ true → P (s.last_heard p) (s.bound p) true)
        → (x ≡ input.Wake tag.Check → is_late ≡ false → Of s)
        → (x ≢ input.Letter p payload.Alive → x ≢ input.Wake tag.Check → Of s)
        → Of (step_timeout place numbers s now x).state
    by_input x again heard_of late patient other = go x refl
      where
        at_p : (t : TimeoutState) (tick bound : ℕ) (b : Bool) → t.last_heard p ≡ tick → t.bound p ≡ bound → set.contains t.suspects p ≡ b → P tick bound b → Of t
        at_p t tick bound b e f g h = subst (λ z. z) (λ i. P (sym e i) (sym f i) (sym g i)) h

        of_p : x ≡ input.Letter p payload.Alive → Of (step_timeout place numbers s now (input.Letter p payload.Alive)).state
        of_p is = cond_both (watches place numbers p) (heard place numbers s now p) (still s) (λ a. Of a.state)
            (λ _. cond_both is_suspected (trusted_again place numbers s now p) (still (noticed place numbers s now p)) (λ a. Of a.state)
            (λ was. at_p (trusted_again place numbers s now p).state now (max (s.bound p) (min (s.bound p + numbers.grow) place.horizon)) false
            (change_at s.last_heard p now) (change_at s.bound p (max (s.bound p) (min (s.bound p + numbers.grow) place.horizon))) removed_itself
            (again is was (max (s.bound p) (min (s.bound p + numbers.grow) place.horizon)) (omega arith) (omega arith)))
            (λ was. at_p (noticed place numbers s now p) now (s.bound p) false (change_at s.last_heard p now) refl was (heard_of is was)))
            (λ none. absurd (cc (none, watched)))

        of_another : (q : ℕ) → q ≢ p → Of s → Of (step_timeout place numbers s now (input.Letter q payload.Alive)).state
        of_another q apart h =
            let far : p ≢ q = λ e. apart (sym e) in
            let heard_same : (noticed place numbers s now q).last_heard p ≡ s.last_heard p = change_other s.last_heard q now p far in
            cond_both (watches place numbers q) (heard place numbers s now q) (still s) (λ a. Of a.state)
            (λ _. cond_both (set.contains s.suspects q) (trusted_again place numbers s now q) (still (noticed place numbers s now q)) (λ a. Of a.state)
            (λ _. at_p (trusted_again place numbers s now q).state (s.last_heard p) (s.bound p) is_suspected heard_same
            (change_other s.bound q (max (s.bound q) (min (s.bound q + numbers.grow) place.horizon)) p far)
            (contains-remove_is s.suspects q p ∙ ap (λ b. not b && is_suspected) (ne_eqb p q far)) h)
            (λ _. at_p (noticed place numbers s now q) (s.last_heard p) (s.bound p) is_suspected heard_same refl refl h))
            (λ _. h)

        go : (y : StepInput) → x ≡ y → Of (step_timeout place numbers s now y).state
        go (input.Letter q payload.Alive) e = elim (cases_eq q p) [
          | inl same ↦ subst (λ r. Of (step_timeout place numbers s now (input.Letter r payload.Alive)).state) (sym same) (of_p (e ∙ ap (λ r. input.Letter r payload.Alive) same))
          | inr apart ↦ of_another q apart (other (λ f. apart (cc (sym e ∙ f))) (λ f. cc (sym e ∙ f)))
        ]
        go (input.Wake tag.Check) e = elim (nat_le (s.bound p) (now - s.last_heard p)) as (λ b. is_late ≡ b → Of (checked place numbers s now).state) [
          | true ↦ λ is. at_p (checked place numbers s now).state (s.last_heard p) (s.bound p) true refl refl
              (suspected_after_check ∙ ap (λ b. (not is_suspected && b) || is_suspected) is ∙ or_before is_suspected) (late e is)
          | false ↦ λ is. at_p (checked place numbers s now).state (s.last_heard p) (s.bound p) is_suspected refl refl
              (suspected_after_check ∙ ap (λ b. (not is_suspected && b) || is_suspected) is ∙ nobody_new is_suspected) (patient e is)
        ] refl
        go y e = other (λ f. cc (sym e ∙ f)) (λ f. cc (sym e ∙ f))

  -- a trust is noted
  pub notes_trust : is_suspected ≡ true → IsIn (action.Note (note.Trust 1 p)) (step_timeout place numbers s now (input.Letter p payload.Alive)).actions
  notes_trust is = cond_both (watches place numbers p) (heard place numbers s now p) (still s) (λ a. IsIn (action.Note (note.Trust 1 p)) a.actions)
      (λ _. cond_both is_suspected (trusted_again place numbers s now p) (still (noticed place numbers s now p)) (λ a. IsIn (action.Note (note.Trust 1 p)) a.actions)
      (λ _. inl refl) (λ not_so. absurd (cc (is, not_so))))
      (λ none. absurd (cc (none, watched)))
