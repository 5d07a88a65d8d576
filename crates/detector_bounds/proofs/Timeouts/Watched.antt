-- A time-out detector suspects nobody that it doesn't watch.
use Rattle.detector_bounds.proofs.Words.{◌≡◌, ◌⊎◌, ℕ, inl, inr, sym, ap, ◌∙◌, subst, true, not, ◌&&◌, nat_eq, nat_cmp, List, [], ◌∷◌, and_parts, or_cases, cond_both, Answer, still, is_process, Place, StepInput, TimeoutNumbers, contains-insert_all, contains-remove_is, Setting, IsSound, World, Pair, Run, taken, opening}
use Rattle.detector_bounds.proofs.Timeouts.{Joined.{RunsTimeout, place_of}, Stepping.{state_in, IsBased, opening_based, next_based, next_state}}
use Rattle.std.specs.FinSet as set
use Rattle.process_api.specs.Timeout.{TimeoutState, watches, is_overdue, noticed, trusted_again, heard, step_timeout}
use Rattle.process_api.specs.declared.message.Payload.TheVariants as payload
use Rattle.process_api.specs.declared.message.StepInput.TheVariants as input
use Rattle.process_api.specs.declared.message.Tag.TheVariants as tag

module _ (place : Place) (numbers : TimeoutNumbers) (s : TimeoutState) (now p : ℕ) where
  abbrev IsNoNewer : Answer TimeoutState → Type 0
  IsNoNewer a = set.contains a.state.suspects p ≡ true → (set.contains s.suspects p ≡ true) ⊎ (watches place numbers p ≡ true)

  pub new_watched : (x : StepInput) → IsNoNewer (step_timeout place numbers s now x)
  new_watched (input.Wake tag.Check) h = elim (or_cases (is_process place.processes p && is_overdue place numbers s now p) _ (sym (contains-insert_all s.suspects (is_overdue place numbers s now) place.processes p) ∙ h)) [
    | inl late ↦ inr (and_parts _ _ (and_parts _ _ late).1).0
    | inr before ↦ inl before
  ]
  new_watched (input.Letter k payload.Alive) h = cond_both (watches place numbers k) (heard place numbers s now k) (still s) IsNoNewer
      (λ _. cond_both (set.contains s.suspects k) (trusted_again place numbers s now k) (still (noticed place numbers s now k)) IsNoNewer
      (λ _ f. inl (and_parts (not (nat_eq p k)) _ (sym (contains-remove_is s.suspects k p) ∙ f)).1) (λ _ f. inl f))
      (λ _ f. inl f) h
  new_watched x h = inl h

module _ {Mind : Type 0} (S : Setting Mind) (sound : IsSound S) (numbers : TimeoutNumbers) (R : RunsTimeout S numbers) (q p : ℕ) where
  abbrev AreWatched : World Mind → Type 0
  AreWatched w = set.contains (state_in S sound numbers R w q).suspects p ≡ true → watches (place_of S q) numbers p ≡ true

  run_watched : (history : List Pair) (end now : ℕ) (w final : World Mind) → IsBased S sound numbers R now w → AreWatched w → Run S end w history final → AreWatched final
  run_watched [] end now w final b are run = subst AreWatched (sym run.1) are
  run_watched (s ∷ rest) end now w final b are run =
      run_watched rest end s.0.key.tick (taken S w s.0.key s.1) final (next_based S sound numbers R now w b s.0.key s.1 run.0)
      (next_state S sound numbers R now w b s.0.key s.1 run.0 (λ t. set.contains t.suspects p ≡ true → watches (place_of S q) numbers p ≡ true) q (λ _. are)
      (λ _ _ h. elim (new_watched (place_of S q) numbers (state_in S sound numbers R w q) s.0.key.tick p s.1 h) [ inl old ↦ are old | inr is ↦ is ]))
      run.3

  pub suspects_watched : (history : List Pair) (end : ℕ) (w : World Mind) → Run S end (opening S) history w → AreWatched w
  suspects_watched history end w run = run_watched history end 0 (opening S) w (opening_based S sound numbers R)
      (λ h. absurd (cc (h, ap (λ (t : TimeoutState). set.contains t.suspects p) (R.opens_with q), set.contains-empty nat_cmp p))) run
