-- What a step keeps of a mind: where it stands, its pauses, and that the process suspects itself on no layer.
use Rattle.process_api.proofs.Basics.{◌≡◌, ◌⊎◌, inl, inr, ℕ, ◌≤◌, refl, sym, ap, ◌∙◌, true, false, not, ◌&&◌, nat_le, Option, None, Some, true≢false, IsTrue, eq-eqb, not-true, both_ways, false_from_ne_true, Lower, AlgorithmState, Idle, Exchanging, Coordinating, Mind, is_mind_at, is_paced, trusts_itself, stands_at, suspects_of, Place, same_place, react_lower, react_algorithm, react, is_other, ReductionState, step_reduction, Processes, up_to, DetectorState, suspected_by, step_detector, StepInput}
use Rattle.process_api.proofs.{DetectorLaws.{detector_laws}, Contains.{contains-remove_is}, Minds.{both_true, and_true, mind_place, mind_paced, mind_trusts, mind_stands}}
use Rattle.std.specs.FinSet as set
use Rattle.process_api.specs.declared.message.Payload.TheVariants as payload
use Rattle.process_api.specs.declared.message.StepInput.TheVariants as input
use Rattle.process_api.specs.declared.message.Tag.TheVariants as tag

pub without_itself : (s : Processes) (p : ℕ) → set.contains (set.remove s p) p ≡ false
without_itself s p = contains-remove_is s p p ∙ ap (λ b. not b && set.contains s p) (eq-eqb p p refl)

-- a base detector
pub apart_from_itself : (place : Place) → is_other place.own place.processes place.own ≡ true → ⊥
apart_from_itself place h = true≢false (sym (eq-eqb place.own place.own refl) ∙ not-true _ (both_true _ _ h).1)

pub detector_keeps : (place : Place) (s : DetectorState) (now : ℕ) (x : StepInput) → set.contains (suspected_by place s) place.own ≡ false → set.contains (suspected_by place (step_detector place s now x).state) place.own ≡ false
detector_keeps place s now x h = false_from_ne_true _ (λ is. go ((detector_laws place s now x).others place.own is))
  where
    go : (set.contains (suspected_by place s) place.own ≡ true) ⊎ (is_other place.own place.processes place.own ≡ true) → ⊥
    go (inl before) = both_ways _ h before
    go (inr other) = apart_from_itself place other

-- the reduction
reduction_keeps : (place : Place) (s : ReductionState) (suspects : Processes) (x : StepInput) → set.contains s.output place.own ≡ false → set.contains (step_reduction place s suspects x).state.output place.own ≡ false
reduction_keeps place s suspects (input.Letter sender (payload.Suspects shared)) h = without_itself (set.remove (set.union s.output (up_to place.processes shared)) sender) place.own
reduction_keeps place s suspects (input.Wake tag.Share) h = h
reduction_keeps place s suspects x h = h

reduction_period : (place : Place) (s : ReductionState) (suspects : Processes) (x : StepInput) → (step_reduction place s suspects x).state.period ≡ s.period
reduction_period place s suspects (input.Letter sender (payload.Suspects shared)) = refl
reduction_period place s suspects (input.Wake tag.Share) = refl
reduction_period place s suspects x = refl

-- the detector's part, by whether a reduction stands over the base detector
pub by_layer : (P : Lower → Type 0) (m : Lower) → P (record m { reduction = None }) → ((r : ReductionState) → P (record m { reduction = Some r })) → P m
by_layer P m alone over = go m.reduction
  where
    go : (o : Option ReductionState) → P (record m { reduction = o })
    go None = alone
    go (Some r) = over r

pub lower_place : (m : Lower) (now : ℕ) (x : StepInput) → (react_lower m now x).state.place ≡ m.place
unfolding react_lower
lower_place m now x = by_layer (λ m. (react_lower m now x).state.place ≡ m.place) m refl (λ r. refl)

pub lower_paced : (m : Lower) (now : ℕ) (x : StepInput) → is_paced (react_lower m now x).state ≡ is_paced m
unfolding react_lower
lower_paced m now x =
    let base = (detector_laws m.place m.detector now x).paced in
    by_layer (λ m. is_paced (react_lower m now x).state ≡ is_paced m) m (ap (λ b. b && true) base)
    (λ r i. base i && nat_le 1 (reduction_period m.place r (suspected_by m.place (step_detector m.place m.detector now x).state) x i))

pub lower_trusts : (m : Lower) (now : ℕ) (x : StepInput) → IsTrue (trusts_itself m) → IsTrue (trusts_itself (react_lower m now x).state)
unfolding react_lower
lower_trusts m now x h =
    let base = λ (t : not (set.contains (suspected_by m.place m.detector) m.place.own) ≡ true). ap not (detector_keeps m.place m.detector now x (not-true _ t)) in
    by_layer (λ m. IsTrue (trusts_itself m) → IsTrue (trusts_itself (react_lower m now x).state)) m
    (λ t. and_true _ _ (base (both_true _ _ t).0) refl)
    (λ r t. and_true _ _ (base (both_true _ _ t).0) (ap not (reduction_keeps m.place r (suspected_by m.place (step_detector m.place m.detector now x).state) x (not-true _ (both_true _ _ t).1)))) h

-- the top layer's suspects leave the process out
pub suspects_leave_out : (m : Lower) → IsTrue (trusts_itself m) → set.contains (suspects_of m) m.place.own ≡ false
suspects_leave_out m h =
    by_layer (λ m. IsTrue (trusts_itself m) → set.contains (suspects_of m) m.place.own ≡ false) m (λ t. not-true _ (both_true _ _ t).0) (λ r t. not-true _ (both_true _ _ t).1) h

-- the algorithm's part
pub algorithm_stands : (place : Place) (a : AlgorithmState) (x : StepInput) (suspects : Processes) → stands_at place (react_algorithm a x suspects).state ≡ stands_at place a
unfolding react_algorithm
algorithm_stands place Idle x suspects = refl
algorithm_stands place (Exchanging its s) x suspects = refl
algorithm_stands place (Coordinating its s) x suspects = refl

-- the whole mind
pub react_keeps : (place : Place) (m : Mind) (now : ℕ) (x : StepInput) → 1 ≤ place.processes → IsTrue (is_mind_at place m) → IsTrue (is_mind_at place (react m now x).state)
unfolding react
react_keeps place m now x some is =
    and_true _ _
    (and_true _ _ (ap (λ p. same_place p place) (lower_place m.lower now x) ∙ mind_place place m is) (lower_paced m.lower now x ∙ mind_paced place m is))
    (and_true _ _ (lower_trusts m.lower now x (mind_trusts place m is)) (algorithm_stands place m.algorithm x (suspects_of (react_lower m.lower now x).state) ∙ mind_stands place m is))
