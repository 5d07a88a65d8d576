-- A base detector with a reduction over it, and what one input makes of the two: layer 2.
use Rattle.detector_bounds.proofs.Words.{◌≡◌, ◌≢◌, ℕ, ◌≤◌, inl, inr, refl, sym, ap, ◌∙◌, subst, true, not, ◌&&◌, ◌||◌, nat_le, nat_cmp, List, [], ◌∷◌, ◌++◌, map, Option, None, Some, option_map, cond_both, ne_eqb, le-leb, or_left, or_right, notes_of_layer, Answer, still, to_all, DetectorState, ByTimeout, ByFreshness, opening_detector, suspected_by, step_detector, Lower, Mind, numbers_to, others, Place, react_lower, react, ReductionState, opening_reduction, gathered, step_reduction, Processes, changes, up_to, StepInput, FreshnessNumbers, TimeoutNumbers, contains-remove_is, contains-up_to, and_true, notes_of_layer-append, none_of_layer_2, changes_kept, changes-none, no_letters, Record, place_in, IsIn, setting_of, in_append, in_left, in_right, each_of, in_image, stacked}
use Rattle.detector_bounds.proofs.{Above.{IsFollowed, lower_acts_first}, Added.{wakes_of, wakes_of-append}, Clock.{asked}, Freshness.Steps.{no_wake_sent, no_wake_noted, nothing_sent}, Machines.{RunsDetector}}
use Rattle.std.specs.FinSet as set
use Rattle.process_api.specs.{BaseDetector.{IsOfDetector}, declared.action.Note.{Note}}
use Rattle.process_api.specs.Freshness as fresh
use Rattle.process_api.specs.Timeout as timeout
use Rattle.process_api.specs.declared.action.Action.TheVariants as action
use Rattle.process_api.specs.declared.action.Note.TheVariants as note
use Rattle.process_api.specs.declared.message.Payload.TheVariants as payload
use Rattle.process_api.specs.declared.message.StepInput.TheVariants as input
use Rattle.process_api.specs.declared.message.Tag.TheVariants as tag
use Rattle.{process_api.proofs.DetectorLaws.{detector_laws}, std.specs.Cmp.{nat_cmp_total}}

-- the state of the two, but for where they stand and how often is shared
pub record Sharer : Type 0 where
  pub base : DetectorState
  pub output : Processes

-- what it becomes and does
module _ (place : Place) (period : ℕ) where
  abbrev pub over_step : DetectorState → Processes → StepInput → Answer ReductionState
  over_step after output x = step_reduction place (record { period = period; output = output }) (suspected_by place after) x

  abbrev pub share_step : Sharer → (now : ℕ) → StepInput → Answer Sharer
  share_step d now x = record {
    state = record { base = (step_detector place d.base now x).state; output = (over_step (step_detector place d.base now x).state d.output x).state.output };
    actions = (step_detector place d.base now x).actions ++ (over_step (step_detector place d.base now x).state d.output x).actions;
  }

  -- ---- wakes: the base detector asks for no share

  no_shares_fresh : (its : FreshnessNumbers) (d : fresh.FreshnessState) (x : StepInput) → wakes_of tag.Share (fresh.step_freshness place its d x).actions ≡ []
  no_shares_fresh its d input.Start = refl
  no_shares_fresh its d (input.Wake tag.Beat) =
      wakes_of-append tag.Share (fresh.heartbeat_to_others place its (fresh.next d.sent)) (fresh.next_beat place its) ∙ ap (λ z. z ++ []) (no_wake_sent tag.Share (payload.Heartbeat (fresh.next d.sent)) (others place.processes place.own))
  no_shares_fresh its d (input.Wake tag.Check) =
      wakes_of-append tag.Share (fresh.noted place its d (fresh.checked place its d)) (fresh.next_check place its)
      ∙ ap (λ z. z ++ []) (no_wake_noted tag.Share (changes 1 place.processes (fresh.suspected place its d) (fresh.suspected place its (fresh.checked place its d))))
  no_shares_fresh its d (input.Letter q (payload.Heartbeat j)) =
      cond_both (fresh.watches place its q) (record { state = fresh.heard place its d q j; actions = fresh.noted place its d (fresh.heard place its d q j) }) (still d) (λ a. wakes_of tag.Share a.actions ≡ [])
      (λ _. no_wake_noted tag.Share (changes 1 place.processes (fresh.suspected place its d) (fresh.suspected place its (fresh.heard place its d q j)))) (λ _. refl)
  no_shares_fresh its d x = refl

  noted_no_wake : (f : ℕ → Note) (qs : List ℕ) → wakes_of tag.Share (map (λ q. action.Note (f q)) qs) ≡ []
  noted_no_wake f [] = refl
  noted_no_wake f (q ∷ qs) = noted_no_wake f qs

  no_shares_timeout : (its : TimeoutNumbers) (d : timeout.TimeoutState) (now : ℕ) (x : StepInput) → wakes_of tag.Share (timeout.step_timeout place its d now x).actions ≡ []
  no_shares_timeout its d now input.Start =
      wakes_of-append tag.Share (timeout.alive_to_others place its) (timeout.next_beat place its ++ timeout.next_check place its) ∙ ap (λ z. z ++ []) (no_wake_sent tag.Share payload.Alive (others place.processes place.own))
  no_shares_timeout its d now (input.Wake tag.Beat) =
      wakes_of-append tag.Share (timeout.alive_to_others place its) (timeout.next_beat place its) ∙ ap (λ z. z ++ []) (no_wake_sent tag.Share payload.Alive (others place.processes place.own))
  no_shares_timeout its d now (input.Wake tag.Check) =
      wakes_of-append tag.Share (map (λ q. action.Note (note.Suspect 1 q)) (timeout.overdue place its d now)) (timeout.next_check place its) ∙ ap (λ z. z ++ []) (noted_no_wake (note.Suspect 1) (timeout.overdue place its d now))
  no_shares_timeout its d now (input.Letter q payload.Alive) =
      cond_both (timeout.watches place its q) (timeout.heard place its d now q) (still d) (λ a. wakes_of tag.Share a.actions ≡ [])
      (λ _. cond_both (set.contains d.suspects q) (timeout.trusted_again place its d now q) (still (timeout.noticed place its d now q)) (λ a. wakes_of tag.Share a.actions ≡ []) (λ _. refl) (λ _. refl)) (λ _. refl)
  no_shares_timeout its d now x = refl

  no_shares : (d : DetectorState) (now : ℕ) (x : StepInput) → wakes_of tag.Share (step_detector place d now x).actions ≡ []
  unfolding step_detector
  no_shares (ByTimeout its d) now x = no_shares_timeout its d now x
  no_shares (ByFreshness its d) now x = no_shares_fresh its d x

  over_asks : (after : DetectorState) (output : Processes) (x : StepInput) → wakes_of tag.Share (over_step after output x).actions ≡ asked tag.Share period period x
  over_asks after output input.Start = refl
  over_asks after output (input.Wake tag.Share) =
      wakes_of-append tag.Share (to_all place.processes (payload.Suspects (suspected_by place after))) (action.Wake period tag.Share ∷ []) ∙ ap (λ z. z ++ period ∷ []) (no_wake_sent tag.Share (payload.Suspects (suspected_by place after)) (numbers_to place.processes))
  over_asks after output (input.Wake tag.Beat) = refl
  over_asks after output (input.Wake tag.Check) = refl
  over_asks after output (input.Letter sender (payload.Suspects shared)) = no_wake_noted tag.Share (changes 2 place.processes output (gathered place output sender shared))
  over_asks after output (input.Letter sender y) = refl

  pub asks_shares : (d : Sharer) (now : ℕ) (x : StepInput) → wakes_of tag.Share (share_step d now x).actions ≡ asked tag.Share period period x
  asks_shares d now x =
      let after = (step_detector place d.base now x).state in
      wakes_of-append tag.Share (step_detector place d.base now x).actions (over_step after d.output x).actions ∙ ((λ i. no_shares d.base now x i ++ over_asks after d.output x i))

  -- ---- the sets that are shared are whom the detector suspects

  base_still : (d : DetectorState) (now : ℕ) → (step_detector place d now (input.Wake tag.Share)).state ≡ d
  unfolding step_detector
  base_still (ByTimeout its d) now = refl
  base_still (ByFreshness its d) now = refl

  base_no_sets : (d : DetectorState) (now : ℕ) (x : StepInput) (to : ℕ) (y : Processes) → ¬ (IsIn (action.Send to (payload.Suspects y)) (step_detector place d now x).actions)
  base_no_sets d now x to y i = each_of IsOfDetector (step_detector place d now x).actions (detector_laws place d now x).acts (action.Send to (payload.Suspects y)) i

  over_shares : (after : DetectorState) (output : Processes) (x : StepInput) (to : ℕ) (y : Processes) → IsIn (action.Send to (payload.Suspects y)) (over_step after output x).actions → x ≡ input.Wake tag.Share
  over_shares after output input.Start to y (inl e) = absurd (cc e)
  over_shares after output input.Start to y (inr none) = absurd none
  over_shares after output (input.Wake tag.Share) to y i = refl
  over_shares after output (input.Letter sender (payload.Suspects shared)) to y i = absurd (nothing_sent to (payload.Suspects y) (changes 2 place.processes output (gathered place output sender shared)) i)
  over_shares after output x to y none = absurd none

  -- a set is sent at a share alone
  pub shares_at : (d : Sharer) (now : ℕ) (x : StepInput) (to : ℕ) (y : Processes) → IsIn (action.Send to (payload.Suspects y)) (share_step d now x).actions → x ≡ input.Wake tag.Share
  shares_at d now x to y i = elim (in_append _ (step_detector place d.base now x).actions (over_step (step_detector place d.base now x).state d.output x).actions i) [
    | inl j ↦ absurd (base_no_sets d.base now x to y j)
    | inr j ↦ over_shares (step_detector place d.base now x).state d.output x to y j
  ]

  -- and there the detector's, to everybody
  pub shares_all : (d : Sharer) (now to : ℕ) → IsIn to (numbers_to place.processes) → IsIn (action.Send to (payload.Suspects (suspected_by place d.base))) (share_step d now (input.Wake tag.Share)).actions
  shares_all d now to i =
      in_right _ (step_detector place d.base now (input.Wake tag.Share)).actions (over_step (step_detector place d.base now (input.Wake tag.Share)).state d.output (input.Wake tag.Share)).actions
      (in_left _ (to_all place.processes (payload.Suspects (suspected_by place (step_detector place d.base now (input.Wake tag.Share)).state))) (action.Wake period tag.Share ∷ [])
      (subst (λ b. IsIn (action.Send to (payload.Suspects (suspected_by place d.base))) (to_all place.processes (payload.Suspects (suspected_by place b)))) (sym (base_still d.base now))
      (in_image (λ q. action.Send q (payload.Suspects (suspected_by place d.base))) (numbers_to place.processes) to i)))

  -- ---- the output

  abbrev pub output_after : Processes → StepInput → Processes
  output_after output (input.Letter sender (payload.Suspects shared)) = gathered place output sender shared
  output_after output x = output

  pub over_is : (after : DetectorState) (output : Processes) (x : StepInput) → (over_step after output x).state ≡ record { period = period; output = output_after output x }
  over_is after output input.Start = refl
  over_is after output (input.Wake tag.Share) = refl
  over_is after output (input.Wake tag.Beat) = refl
  over_is after output (input.Wake tag.Check) = refl
  over_is after output (input.Letter sender (payload.Suspects shared)) = refl
  over_is after output (input.Letter sender y) = refl

  contains-gathered : (output : Processes) (sender : ℕ) (shared : Processes) (p : ℕ) → p ≢ sender → p ≢ place.own
      → set.contains (gathered place output sender shared) p ≡ (set.contains output p || (set.contains shared p && nat_le p place.processes))
  contains-gathered output sender shared p not_sender not_own =
      contains-remove_is (set.remove (set.union output (up_to place.processes shared)) sender) place.own p
      ∙ ((λ i. not (ne_eqb p place.own not_own i) && contains-remove_is (set.union output (up_to place.processes shared)) sender p i)
      ∙ ((λ i. not (ne_eqb p sender not_sender i) && set.contains-union nat_cmp_total output (up_to place.processes shared) p i)
      ∙ (λ i. set.contains output p || contains-up_to place.processes shared p i)))

  -- who is in it stays, where the letter isn't its own
  pub output_stays : (output : Processes) (x : StepInput) (p : ℕ) → p ≢ place.own → ((shared : Processes) → x ≢ input.Letter p (payload.Suspects shared)) → set.contains output p ≡ true → set.contains (output_after output x) p ≡ true
  output_stays output (input.Letter sender (payload.Suspects shared)) p not_own not_its h =
      contains-gathered output sender shared p (λ same. not_its shared (ap (λ z. input.Letter z (payload.Suspects shared)) (sym same))) not_own ∙ or_left (set.contains output p) _ h
  output_stays output input.Start p not_own not_its h = h
  output_stays output (input.Wake tag) p not_own not_its h = h
  output_stays output (input.Letter sender y) p not_own not_its h = h

  pub output_gains : (output : Processes) (sender : ℕ) (shared : Processes) (p : ℕ) → p ≢ sender → p ≢ place.own → p ≤ place.processes → set.contains shared p ≡ true → set.contains (gathered place output sender shared) p ≡ true
  output_gains output sender shared p not_sender not_own high h =
      contains-gathered output sender shared p not_sender not_own ∙ or_right (set.contains output p) _ (and_true (set.contains shared p) (nat_le p place.processes) h (le-leb p place.processes high))

  -- ---- its notes on layer 2 are how the output changes

  over_tells : (after : DetectorState) (output : Processes) (x : StepInput) → notes_of_layer 2 (over_step after output x).actions ≡ changes 2 place.processes output (output_after output x)
  over_tells after output input.Start = changes-none 2 place.processes output
  over_tells after output (input.Wake tag.Share) =
      notes_of_layer-append 2 (to_all place.processes (payload.Suspects (suspected_by place after))) (action.Wake period tag.Share ∷ [])
      ∙ ((λ i. no_letters 2 (payload.Suspects (suspected_by place after)) (numbers_to place.processes) i ++ []) ∙ changes-none 2 place.processes output)
  over_tells after output (input.Wake tag.Beat) = changes-none 2 place.processes output
  over_tells after output (input.Wake tag.Check) = changes-none 2 place.processes output
  over_tells after output (input.Letter sender (payload.Suspects shared)) = changes_kept 2 place.processes output (gathered place output sender shared)
  over_tells after output (input.Letter sender y) = changes-none 2 place.processes output

  pub share_tells : (d : Sharer) (now : ℕ) (x : StepInput) → notes_of_layer 2 (share_step d now x).actions ≡ changes 2 place.processes d.output (share_step d now x).state.output
  share_tells d now x =
      let after = (step_detector place d.base now x).state in
      notes_of_layer-append 2 (step_detector place d.base now x).actions (over_step after d.output x).actions
      ∙ ((λ i. none_of_layer_2 (step_detector place d.base now x).actions (detector_laws place d.base now x).acts i ++ (over_step_notes after d.output x i)))
    where
      over_step_notes : (after : DetectorState) (output : Processes) (x : StepInput) → notes_of_layer 2 (over_step after output x).actions ≡ changes 2 place.processes output (over_step after output x).state.output
      over_step_notes after output x = over_tells after output x ∙ ap (λ (r : ReductionState). changes 2 place.processes output r.output) (sym (over_is after output x))

-- ---- a scenario's machines

abbrev pub output_of : Option ReductionState → Processes
output_of None = set.empty
output_of (Some r) = r.output

abbrev pub seen_as : Mind → Sharer
seen_as m = record { base = m.lower.detector; output = output_of m.lower.reduction }

abbrev pub opening_sharer : Record → Sharer
opening_sharer s = record { base = opening_detector s.detector; output = set.empty }

lower_is : (place : Place) (period : ℕ) (d : DetectorState) (output : Processes) (now : ℕ) (x : StepInput)
    → react_lower (record { place = place; detector = d; reduction = Some (record { period = period; output = output }) }) now x
    ≡ record {
      state = record { place = place; detector = (step_detector place d now x).state; reduction = Some (over_step place period (step_detector place d now x).state output x).state };
      actions = (share_step place period (record { base = d; output = output }) now x).actions;
    }
unfolding react_lower
lower_is place period d output now x = refl

module _ (s : Record) (period : ℕ) (shares : s.share ≡ Some period) where
  abbrev HasShares : ℕ → Mind → Type 0
  HasShares p m = (m.lower.place ≡ place_in s p) × (m.lower.reduction ≡ Some (record { period = period; output = output_of m.lower.reduction }))

  stepped : (p : ℕ) (m : Mind) (now : ℕ) (x : StepInput) → HasShares p m
      → react_lower m.lower now x
      ≡ record {
        state = record { place = place_in s p; detector = (step_detector (place_in s p) m.lower.detector now x).state; reduction = Some (over_step (place_in s p) period (step_detector (place_in s p) m.lower.detector now x).state (output_of m.lower.reduction) x).state };
        actions = (share_step (place_in s p) period (seen_as m) now x).actions;
      }
  stepped p m now x h = (λ i. react_lower (record { place = h.0 i; detector = m.lower.detector; reduction = h.1 i }) now x) ∙ lower_is (place_in s p) period m.lower.detector (output_of m.lower.reduction) now x

  lower_after : (p : ℕ) (m : Mind) (now : ℕ) (x : StepInput) → HasShares p m
      → (react m now x).state.lower ≡ record { place = place_in s p; detector = (step_detector (place_in s p) m.lower.detector now x).state; reduction = Some (over_step (place_in s p) period (step_detector (place_in s p) m.lower.detector now x).state (output_of m.lower.reduction) x).state }
  lower_after p m now x h = (stacked m now x).lower ∙ ap (λ (a : Answer Lower). a.state) (stepped p m now x h)

  pub runs_shares : RunsDetector 2 (setting_of s) (opening_sharer s) (λ p d now x. share_step (place_in s p) period d now x) (λ p d. d.output)
  runs_shares = record {
    part = seen_as;
    has = HasShares;
    opens = λ p. (refl, λ i. subst (λ o. option_map opening_reduction o ≡ Some (record { period = period; output = output_of (option_map opening_reduction o) })) (sym shares) refl i);
    opens_with = λ p. ap (λ o. record { base = opening_detector s.detector; output = output_of (option_map opening_reduction o) }) shares;
    keeps = λ p m now x h.
        let e = lower_after p m now x h in
        let r = ap (λ (l : Lower). l.reduction) e ∙ ap Some (over_is (place_in s p) period (step_detector (place_in s p) m.lower.detector now x).state (output_of m.lower.reduction) x) in
        (ap (λ (l : Lower). l.place) e, r ∙ ap (λ o. Some (record { period = period; output = o })) (sym (ap output_of r)));
    state = λ p m now x h. ap (λ (l : Lower). record { base = l.detector; output = output_of l.reduction }) (lower_after p m now x h);
    acts = λ p m now x h. subst (λ xs. IsFollowed 2 xs (react m now x).actions) (ap (λ (a : Answer Lower). a.actions) (stepped p m now x h)) (lower_acts_first 2 m now x);
    trusts = λ p q. set.contains-empty nat_cmp q;
    tells = λ p d now x. share_tells (place_in s p) period d now x;
  }

  -- where a process's parts stand
  pub part_is : (m : Mind) → runs_shares.part m ≡ seen_as m
  unfolding runs_shares
  part_is m = refl

  pub place_is : (p : ℕ) (m : Mind) → runs_shares.has p m → m.lower.place ≡ place_in s p
  unfolding runs_shares
  place_is p m h = h.0
