-- The machines of a scenario are such as the promises on traces ask for: their parts act one after the other. Of the base
-- detector its laws alone are used.
use Rattle.judges.proofs.Words.{◌≡◌, ℕ, refl, Bool, true, false, ◌++◌, Option, None, Some, inl, inr, sym, ap, ◌∙◌, subst, unwrap_or, IsTrue, AllByRecursion, Answer, Coordinator, opening_coordinator, step_coordinator, Lower, AlgorithmState, Idle, Exchanging, Coordinating, Mind, suspects_of, stands_at, is_mind_at, Place, react_lower, react_algorithm, react, ReductionState, step_reduction, Processes, Action, StepInput, both, weaker, IsIn, in_left, IsOfDetector, Record, proposal, place_in, opening_algorithm, setting_of}
use Rattle.judges.proofs.{Algorithms.{IsOfAlgorithm, algorithm_acts}, Agreement.Joined.{IsOfLower, IsJoined, RunsCoordinator}}
use Rattle.judges.proofs.PartsActions.{reduction_shares, detector_is_lower, detector_is_sharing, algorithm_is_sharing, reduction_lower, IsSharing, IsShared, RunsReduction, noted_where_new}
use Rattle.std.specs.FinSet as set
use Rattle.process_api.specs.Detector.{DetectorState, suspected_by, step_detector}
use Rattle.process_api.proofs.{Minds.{same_own, same_count, mind_place, mind_trusts, mind_stands}, DetectorLaws.{detector_opens, detector_laws}, Keeping.{lower_place, lower_trusts, suspects_leave_out}}
use Rattle.process_api.specs.declared.action.Action.TheVariants as action
use Rattle.process_api.specs.declared.action.Note.TheVariants as note
use Rattle.scenario_record.specs.declared.algorithm.AlgorithmKind.TheVariants as kind

-- the base detector's step
abbrev pub based : Lower → ℕ → StepInput → Answer DetectorState
based m now x = step_detector m.place m.detector now x

-- how the detector's part acts: first the base detector, and then the reduction, if there is one
pub record IsLayered (m : Lower) (now : ℕ) (x : StepInput) : Type 0 where
  pub within : (a : Action) → IsIn a (based m now x).actions → IsIn a (react_lower m now x).actions
  pub detector : (react_lower m now x).state.detector ≡ (based m now x).state
  pub place : (react_lower m now x).state.place ≡ m.place

pub layered : (m : Lower) (now : ℕ) (x : StepInput) → IsLayered m now x
unfolding react_lower
layered m now x = go m.reduction
  where
    go : (o : Option ReductionState) → IsLayered (record m { reduction = o }) now x
    go None = record { within = λ a i. i; detector = refl; place = refl }
    go (Some r) = record { within = λ a i. in_left a (based m now x).actions _ i; detector = refl; place = refl }

-- what holds of all that the two do holds of all that it does
pub lower_acts : (P : Action → Type 0) (m : Lower) (now : ℕ) (x : StepInput) → AllByRecursion P (based m now x).actions
    → ((place : Place) (s : ReductionState) → AllByRecursion P (step_reduction place s (suspected_by m.place (based m now x).state) x).actions) → AllByRecursion P (react_lower m now x).actions
unfolding react_lower
lower_acts P m now x base reduction =
    elim m.reduction as (λ o. AllByRecursion P (react_lower (record m { reduction = o }) now x).actions) [ None ↦ base | Some r ↦ both P (based m now x).actions _ base (reduction m.place r) ]

-- the detector's part acts, and then the algorithm
pub record IsStacked (m : Mind) (now : ℕ) (x : StepInput) : Type 0 where
  pub lower : (react m now x).state.lower ≡ (react_lower m.lower now x).state
  pub algorithm : (react m now x).state.algorithm ≡ (react_algorithm m.algorithm x (suspects_of (react_lower m.lower now x).state)).state
  pub acts : (react m now x).actions ≡ (react_lower m.lower now x).actions ++ (react_algorithm m.algorithm x (suspects_of (react_lower m.lower now x).state)).actions

pub stacked : (m : Mind) (now : ℕ) (x : StepInput) → IsStacked m now x
unfolding react
stacked m now x = record { lower = refl; algorithm = refl; acts = refl }

-- the coordinator of an algorithm's part, where it has one
abbrev pub is_coordinating : AlgorithmState → Bool
is_coordinating (Coordinating place s) = true
is_coordinating a = false

abbrev pub coordinator_of : AlgorithmState → Coordinator
coordinator_of (Coordinating place s) = s
coordinator_of a = opening_coordinator 0

abbrev pub place_of : AlgorithmState → Place
place_of Idle = record { own = 0; processes = 0; horizon = 0 }
place_of (Exchanging place s) = place
place_of (Coordinating place s) = place

abbrev pub stepped : AlgorithmState → StepInput → Processes → Answer Coordinator
stepped a x suspects = step_coordinator (place_of a).processes (place_of a).own (set.contains suspects) x (coordinator_of a)

-- it takes the input with the suspects
pub record IsCoordinated (a : AlgorithmState) (x : StepInput) (suspects : Processes) : Type 0 where
  pub still_one : IsTrue (is_coordinating (react_algorithm a x suspects).state)
  pub state : coordinator_of (react_algorithm a x suspects).state ≡ (stepped a x suspects).state
  pub acts : (react_algorithm a x suspects).actions ≡ (stepped a x suspects).actions

pub coordinated : (a : AlgorithmState) (x : StepInput) (suspects : Processes) → IsTrue (is_coordinating a) → IsCoordinated a x suspects
unfolding react_algorithm
coordinated (Coordinating place s) x suspects is = record { still_one = refl; state = refl; acts = refl }
coordinated a x suspects not_one = absurd (cc)

pub coordinator_place : (place : Place) (a : AlgorithmState) → IsTrue (is_coordinating a) → IsTrue (stands_at place a) → ((place_of a).own ≡ place.own) × ((place_of a).processes ≡ place.processes)
coordinator_place place (Coordinating its s) is at = (same_own its place at, same_count its place at)
coordinator_place place a not_one at = absurd (cc)

-- ---- the machines of a scenario

-- the detector's part does nothing of an algorithm
of_lower : (m : Lower) (now : ℕ) (x : StepInput) → AllByRecursion IsOfLower (react_lower m now x).actions
of_lower m now x = lower_acts IsOfLower m now x (weaker IsOfDetector IsOfLower detector_is_lower _ (detector_laws m.place m.detector now x).acts) (λ place r. reduction_lower place r _ x)

module _ (s : Record) where
  module _ (p : ℕ) (m : Mind) (now : ℕ) (x : StepInput) (is : IsTrue (is_mind_at (place_in s p) m)) (has : IsTrue (is_coordinating m.algorithm)) where
    abbrev below : Lower
    below = (react_lower m.lower now x).state

    -- the suspects leave the process out
    not_itself : set.contains (suspects_of below) p ≡ false
    not_itself =
        ap (set.contains (suspects_of below)) (sym (ap (λ (l : Place). l.own) (lower_place m.lower now x) ∙ same_own m.lower.place (place_in s p) (mind_place (place_in s p) m is)))
        ∙ suspects_leave_out below (lower_trusts m.lower now x (mind_trusts (place_in s p) m is))

    at : ((place_of m.algorithm).own ≡ p) × ((place_of m.algorithm).processes ≡ s.processes)
    at = coordinator_place (place_in s p) m.algorithm has (mind_stands (place_in s p) m is)

    step_is : stepped m.algorithm x (suspects_of below) ≡ step_coordinator s.processes p (set.contains (suspects_of below)) x (coordinator_of m.algorithm)
    step_is = λ i. step_coordinator (at.1 i) (at.0 i) (set.contains (suspects_of below)) x (coordinator_of m.algorithm)

    joins : IsJoined s.processes p x (coordinator_of m.algorithm) (coordinator_of (react m now x).state.algorithm) (react m now x).actions
    joins = record {
      is_suspected = set.contains (suspects_of below);
      not_itself = not_itself;
      lower = (react_lower m.lower now x).actions;
      of_lower = of_lower m.lower now x;
      state = ap coordinator_of (stacked m now x).algorithm ∙ (coordinated m.algorithm x (suspects_of below) has).state ∙ ap (λ (a : Answer Coordinator). a.state) step_is;
      acts = (stacked m now x).acts ∙ ap (λ done. (react_lower m.lower now x).actions ++ done) ((coordinated m.algorithm x (suspects_of below) has).acts ∙ ap (λ (a : Answer Coordinator). a.actions) step_is);
    }

  -- those of the rotating coordinator
  pub runs_coordinator : s.algorithm ≡ kind.EventuallyStrong → RunsCoordinator (setting_of s) (λ p. unwrap_or (proposal s p) 0)
  runs_coordinator algorithm = record {
    part = λ m. coordinator_of m.algorithm;
    has_part = λ m. is_coordinating m.algorithm;
    opens_with = λ p own. λ i. is_coordinating (opening_algorithm (record s { algorithm = algorithm i }) p);
    keeps = λ m now x has. ap is_coordinating (stacked m now x).algorithm ∙ (coordinated m.algorithm x (suspects_of (react_lower m.lower now x).state) has).still_one;
    opens = λ p own. λ i. coordinator_of (opening_algorithm (record s { algorithm = algorithm i }) p);
    joins = λ p m now x own is has. joins p m now x is has;
  }

  suspects_are : (m : Mind) (now : ℕ) (x : StepInput)
      → suspected_by (react m now x).state.lower.place (react m now x).state.lower.detector ≡ suspected_by m.lower.place (based m.lower now x).state
  suspects_are m now x = ap (λ (l : Lower). suspected_by l.place l.detector) (stacked m now x).lower ∙ (λ i. suspected_by ((layered m.lower now x).place i) ((layered m.lower now x).detector i))

  shared : (m : Mind) (now : ℕ) (x : StepInput) → IsShared x (suspected_by m.lower.place m.lower.detector) (suspected_by m.lower.place (based m.lower now x).state) (react m now x).actions
  shared m now x =
      let laws = detector_laws m.lower.place m.lower.detector now x in
      let after = suspected_by m.lower.place (based m.lower now x).state in
      let does = (stacked m now x).acts in
      record {
        acts = subst (AllByRecursion (IsSharing x after)) (sym does) (both (IsSharing x after) (react_lower m.lower now x).actions _
            (lower_acts (IsSharing x after) m.lower now x (weaker IsOfDetector (IsSharing x after) (detector_is_sharing x after) _ laws.acts) (λ place r. reduction_shares place r after x))
            (weaker IsOfAlgorithm (IsSharing x after) (algorithm_is_sharing x after) _ (algorithm_acts m.algorithm x (suspects_of (react_lower m.lower now x).state))));
        noted = λ q h. elim (noted_where_new _ _ _ _ _ _ laws q h) [
          | inl was ↦ inl was
          | inr i ↦ inr (subst (IsIn (action.Note (note.Suspect 1 q))) (sym does) (in_left _ (react_lower m.lower now x).actions _ ((layered m.lower now x).within _ i)))
        ];
      }

  -- those of every scenario, with a reduction or without
  pub runs_reduction : RunsReduction (setting_of s)
  runs_reduction = record {
    suspects = λ m. suspected_by m.lower.place m.lower.detector;
    opens = λ p own q. detector_opens (place_in s p) s.detector q;
    joins = λ m now x. subst (λ after. IsShared x (suspected_by m.lower.place m.lower.detector) after (react m now x).actions) (sym (suspects_are m now x)) (shared m now x);
  }
