-- A scenario's machines run its detector, whatever stands above it.
use Rattle.detector_bounds.proofs.Words.{◌≡◌, ℕ, refl, sym, ap, ◌∙◌, subst, Answer, DetectorState, ByTimeout, ByFreshness, opening_detector, suspected_by, step_detector, FreshnessState, opening_freshness, suspected, step_freshness, Lower, Mind, Place, react, Processes, TimeoutState, opening_timeout, step_timeout, StepInput, FreshnessNumbers, TimeoutNumbers, freshness_opens, freshness_laws, Record, place_in, setting_of, based, layered, stacked}
use Rattle.detector_bounds.proofs.{Above.{IsFollowed, mind_followed}, Machines.{RunsDetector}}
use Rattle.process_api.specs.declared.numbers.DetectorNumbers.TheVariants as numbers
use Rattle.process_api.proofs.TimeoutLaws.{timeout_opens, timeout_laws}

detector_is : (m : Mind) (now : ℕ) (x : StepInput) → (react m now x).state.lower.detector ≡ (based m.lower now x).state
detector_is m now x = ap (λ (l : Lower). l.detector) (stacked m now x).lower ∙ (layered m.lower now x).detector

place_is : (m : Mind) (now : ℕ) (x : StepInput) → (react m now x).state.lower.place ≡ m.lower.place
place_is m now x = ap (λ (l : Lower). l.place) (stacked m now x).lower ∙ (layered m.lower now x).place

-- ---- freshness points

freshness_of : DetectorState → FreshnessState
freshness_of (ByTimeout its d) = opening_freshness
freshness_of (ByFreshness its d) = d

abbrev pub fresh_step : Record → FreshnessNumbers → (p : ℕ) → FreshnessState → (now : ℕ) → StepInput → Answer FreshnessState
fresh_step s its p d now x = step_freshness (place_in s p) its d x

abbrev pub fresh_suspects : Record → FreshnessNumbers → ℕ → FreshnessState → Processes
fresh_suspects s its p d = suspected (place_in s p) its d

fresh_is : (place : Place) (its : FreshnessNumbers) (d : FreshnessState) (now : ℕ) (x : StepInput)
    → step_detector place (ByFreshness its d) now x ≡ record { state = ByFreshness its (step_freshness place its d x).state; actions = (step_freshness place its d x).actions }
unfolding step_detector
fresh_is place its d now x = refl

module _ (s : Record) (its : FreshnessNumbers) (kind : s.detector ≡ numbers.Freshness its) where
  abbrev HasFreshness : ℕ → Mind → Type 0
  HasFreshness p m = (m.lower.place ≡ place_in s p) × (m.lower.detector ≡ ByFreshness its (freshness_of m.lower.detector))

  fresh_based : (p : ℕ) (m : Mind) (now : ℕ) (x : StepInput) → HasFreshness p m
      → based m.lower now x ≡ record { state = ByFreshness its (fresh_step s its p (freshness_of m.lower.detector) now x).state; actions = (fresh_step s its p (freshness_of m.lower.detector) now x).actions }
  fresh_based p m now x h = (λ i. step_detector (h.0 i) (h.1 i) now x) ∙ fresh_is (place_in s p) its (freshness_of m.lower.detector) now x

  fresh_detector : (p : ℕ) (m : Mind) (now : ℕ) (x : StepInput) → HasFreshness p m → (react m now x).state.lower.detector ≡ ByFreshness its (fresh_step s its p (freshness_of m.lower.detector) now x).state
  fresh_detector p m now x h = detector_is m now x ∙ ap (λ (a : Answer DetectorState). a.state) (fresh_based p m now x h)

  pub runs_freshness : RunsDetector 1 (setting_of s) opening_freshness (fresh_step s its) (fresh_suspects s its)
  unfolding freshness_of
  runs_freshness = record {
    part = λ m. freshness_of m.lower.detector;
    has = HasFreshness;
    opens = λ p. (refl, λ i. subst (λ k. opening_detector k ≡ ByFreshness its (freshness_of (opening_detector k))) (sym kind) refl i);
    opens_with = λ p. ap (λ k. freshness_of (opening_detector k)) kind;
    keeps = λ p m now x h. let e = fresh_detector p m now x h in (place_is m now x ∙ h.0, e ∙ sym (ap (λ d. ByFreshness its (freshness_of d)) e));
    state = λ p m now x h. ap freshness_of (fresh_detector p m now x h);
    acts = λ p m now x h. subst (λ xs. IsFollowed 1 xs (react m now x).actions) (ap (λ (a : Answer DetectorState). a.actions) (fresh_based p m now x h)) (mind_followed m now x);
    trusts = λ p q. freshness_opens (place_in s p) its q;
    tells = λ p d now x. (freshness_laws (place_in s p) its d x).notes;
  }

  pub fresh_seen : (p : ℕ) (m : Mind) → runs_freshness.has p m → suspected_by m.lower.place m.lower.detector ≡ fresh_suspects s its p (runs_freshness.part m)
  unfolding runs_freshness
  fresh_seen p m h = λ i. suspected_by (h.0 i) (h.1 i)

-- ---- time-outs

timeout_of : TimeoutNumbers → DetectorState → TimeoutState
timeout_of its (ByTimeout of d) = d
timeout_of its (ByFreshness of d) = opening_timeout its

abbrev pub timeout_step : Record → TimeoutNumbers → (p : ℕ) → TimeoutState → (now : ℕ) → StepInput → Answer TimeoutState
timeout_step s its p d now x = step_timeout (place_in s p) its d now x

abbrev pub timeout_suspects : Record → TimeoutNumbers → ℕ → TimeoutState → Processes
timeout_suspects s its p d = d.suspects

timeout_is : (place : Place) (its : TimeoutNumbers) (d : TimeoutState) (now : ℕ) (x : StepInput)
    → step_detector place (ByTimeout its d) now x ≡ record { state = ByTimeout its (step_timeout place its d now x).state; actions = (step_timeout place its d now x).actions }
unfolding step_detector
timeout_is place its d now x = refl

module _ (s : Record) (its : TimeoutNumbers) (kind : s.detector ≡ numbers.Timeout its) where
  abbrev HasTimeout : ℕ → Mind → Type 0
  HasTimeout p m = (m.lower.place ≡ place_in s p) × (m.lower.detector ≡ ByTimeout its (timeout_of its m.lower.detector))

  timeout_based : (p : ℕ) (m : Mind) (now : ℕ) (x : StepInput) → HasTimeout p m
      → based m.lower now x ≡ record { state = ByTimeout its (timeout_step s its p (timeout_of its m.lower.detector) now x).state; actions = (timeout_step s its p (timeout_of its m.lower.detector) now x).actions }
  timeout_based p m now x h = (λ i. step_detector (h.0 i) (h.1 i) now x) ∙ timeout_is (place_in s p) its (timeout_of its m.lower.detector) now x

  timeout_detector : (p : ℕ) (m : Mind) (now : ℕ) (x : StepInput) → HasTimeout p m → (react m now x).state.lower.detector ≡ ByTimeout its (timeout_step s its p (timeout_of its m.lower.detector) now x).state
  timeout_detector p m now x h = detector_is m now x ∙ ap (λ (a : Answer DetectorState). a.state) (timeout_based p m now x h)

  pub runs_timeout : RunsDetector 1 (setting_of s) (opening_timeout its) (timeout_step s its) (timeout_suspects s its)
  unfolding timeout_of
  runs_timeout = record {
    part = λ m. timeout_of its m.lower.detector;
    has = HasTimeout;
    opens = λ p. (refl, λ i. subst (λ k. opening_detector k ≡ ByTimeout its (timeout_of its (opening_detector k))) (sym kind) refl i);
    opens_with = λ p. ap (λ k. timeout_of its (opening_detector k)) kind;
    keeps = λ p m now x h. let e = timeout_detector p m now x h in (place_is m now x ∙ h.0, e ∙ sym (ap (λ d. ByTimeout its (timeout_of its d)) e));
    state = λ p m now x h. ap (timeout_of its) (timeout_detector p m now x h);
    acts = λ p m now x h. subst (λ xs. IsFollowed 1 xs (react m now x).actions) (ap (λ (a : Answer DetectorState). a.actions) (timeout_based p m now x h)) (mind_followed m now x);
    trusts = λ p q. timeout_opens its q;
    tells = λ p d now x. (timeout_laws (place_in s p) its d now x).notes;
  }

  pub timeout_seen : (p : ℕ) (m : Mind) → runs_timeout.has p m → suspected_by m.lower.place m.lower.detector ≡ timeout_suspects s its p (runs_timeout.part m)
  unfolding runs_timeout
  timeout_seen p m h = λ i. suspected_by (h.0 i) (h.1 i)
