-- What stands above a layer does nothing of it, nor of one below: it sends none of their letters, asks for none of their wakes, and
-- notes nothing of the layer.
use Rattle.detector_bounds.proofs.Words.{arith, ◌≡◌, ℕ, refl, sym, ap, ◌∙◌, subst, cond, List, [], ◌∷◌, ◌++◌, map, append_assoc, append-nil, inl, inr, Option, None, Some, fold, ◌==◌, AllByRecursion, fold-append, to_all, Lower, Mind, suspects_of, suspected_by, Place, react, react_lower, react_algorithm, ReductionState, gathered, next_share, step_reduction, Processes, gone, changes, Action, Payload, StepInput, Tag, Beat, Check, Share, both, images, always, weaker, IsIn, in_append, Set, with, without, after_note, based, stacked}
use Rattle.detector_bounds.proofs.Added.{wakes_of, wakes_of-append}
use Rattle.process_api.specs.declared.action.Action.TheVariants as action
use Rattle.process_api.specs.declared.action.Note.TheVariants as note
use Rattle.process_api.specs.declared.message.Payload.TheVariants as payload
use Rattle.process_api.specs.declared.message.StepInput.TheVariants as input
use Rattle.{trace_laws.specs.Step.{noted}, judges.proofs.Algorithms.{IsOfAlgorithm, algorithm_acts, all_sent}}

-- what stands above layer l: above layer 1 a reduction, and above both layers an algorithm
abbrev pub IsAbove : (l : ℕ) → Action → Type 0
IsAbove l (action.Send to payload.Alive) = ⊥
IsAbove l (action.Send to (payload.Heartbeat number)) = ⊥
IsAbove l (action.Send to (payload.Suspects shared)) = l ≡ 1
IsAbove l (action.Wake pause Beat) = ⊥
IsAbove l (action.Wake pause Check) = ⊥
IsAbove l (action.Wake pause Share) = l ≡ 1
IsAbove l (action.Note (note.Suspect layer who)) = (l ≡ 1) × (layer ≡ 2)
IsAbove l (action.Note (note.Trust layer who)) = (l ≡ 1) × (layer ≡ 2)
IsAbove l a = Unit {0}

-- the wakes and letters of layers 1 to l
abbrev pub IsOwnTag : (l : ℕ) → Tag → Type 0
IsOwnTag l Beat = Unit {0}
IsOwnTag l Check = Unit {0}
IsOwnTag l Share = l ≡ 2

abbrev pub IsOwnLetter : (l : ℕ) → Payload → Type 0
IsOwnLetter l payload.Alive = Unit {0}
IsOwnLetter l (payload.Heartbeat number) = Unit {0}
IsOwnLetter l (payload.Suspects shared) = l ≡ 2
IsOwnLetter l what = ⊥

-- these actions, and then others of what stands above
pub record IsFollowed (l : ℕ) (first all : List Action) : Type 0 where
  pub more : List Action
  pub above : AllByRecursion (IsAbove l) more
  pub whole : all ≡ first ++ more

-- ---- so a detector's wakes, letters and notes are those of all actions

no_wakes : (l : ℕ) (tag : Tag) → IsOwnTag l tag → (more : List Action) → AllByRecursion (IsAbove l) more → wakes_of tag more ≡ []
no_wakes l tag own [] above = refl
no_wakes l tag own (action.Send to what ∷ more) above = no_wakes l tag own more above.1
no_wakes l tag own (action.Note x ∷ more) above = no_wakes l tag own more above.1
no_wakes l tag own (action.Wake pause Beat ∷ more) above = absurd above.0
no_wakes l tag own (action.Wake pause Check ∷ more) above = absurd above.0
no_wakes l Beat own (action.Wake pause Share ∷ more) above = no_wakes l Beat own more above.1
no_wakes l Check own (action.Wake pause Share ∷ more) above = no_wakes l Check own more above.1
no_wakes l Share own (action.Wake pause Share ∷ more) above = absurd (omega (arith, own, above.0))

no_letters : (l to : ℕ) (y : Payload) → IsOwnLetter l y → (more : List Action) → AllByRecursion (IsAbove l) more → ¬ (IsIn (action.Send to y) more)
no_letters l to y own [] above none = none
no_letters l to y own (a ∷ more) above (inr i) = no_letters l to y own more above.1 i
no_letters l to payload.Alive own (a ∷ more) above (inl e) = subst (IsAbove l) (sym e) above.0
no_letters l to (payload.Heartbeat number) own (a ∷ more) above (inl e) = subst (IsAbove l) (sym e) above.0
no_letters l to (payload.Suspects shared) own (a ∷ more) above (inl e) = let low : l ≡ 1 = subst (IsAbove l) (sym e) above.0 in omega (arith, own, low)
no_letters l to y own (a ∷ more) above (inl e) = absurd own

pub noted-append : (xs ys : List Action) → noted (xs ++ ys) ≡ noted xs ++ noted ys
noted-append [] ys = refl
noted-append (action.Send to what ∷ xs) ys = noted-append xs ys
noted-append (action.Wake pause tag ∷ xs) ys = noted-append xs ys
noted-append (action.Note x ∷ xs) ys = ap (λ z. x ∷ z) (noted-append xs ys)

other_layer : {X : Type 0} (l layer : ℕ) (a b : X) → (l ≡ 1) × (layer ≡ 2) → cond (layer == l) a b ≡ b
other_layer l layer a b (one, two) = λ i. cond (two i == one i) a b

no_notes : (l : ℕ) (more : List Action) → AllByRecursion (IsAbove l) more → (set : Set) → fold (after_note l) set (noted more) ≡ set
no_notes l [] above set = refl
no_notes l (action.Send to what ∷ more) above set = no_notes l more above.1 set
no_notes l (action.Wake pause tag ∷ more) above set = no_notes l more above.1 set
no_notes l (action.Note (note.Suspect layer who) ∷ more) above set = no_notes l more above.1 (cond (layer == l) (with set who) set) ∙ other_layer l layer (with set who) set above.0
no_notes l (action.Note (note.Trust layer who) ∷ more) above set = no_notes l more above.1 (cond (layer == l) (without set who) set) ∙ other_layer l layer (without set who) set above.0
no_notes l (action.Note (note.Round r) ∷ more) above set = no_notes l more above.1 set
no_notes l (action.Note (note.Decided v) ∷ more) above set = no_notes l more above.1 set
no_notes l (action.Note note.NoValue ∷ more) above set = no_notes l more above.1 set

module _ (l : ℕ) (first all : List Action) (f : IsFollowed l first all) where
  pub wakes_are : (tag : Tag) → IsOwnTag l tag → wakes_of tag all ≡ wakes_of tag first
  wakes_are tag own = ap (wakes_of tag) f.whole ∙ (wakes_of-append tag first f.more ∙ (ap (λ z. wakes_of tag first ++ z) (no_wakes l tag own f.more f.above) ∙ append-nil _))

  pub letters_are : (to : ℕ) (y : Payload) → IsOwnLetter l y → IsIn (action.Send to y) all → IsIn (action.Send to y) first
  letters_are to y own i = elim (in_append _ first f.more (subst (IsIn (action.Send to y)) f.whole i)) [ inl j ↦ j | inr j ↦ absurd (no_letters l to y own f.more f.above j) ]

  pub notes_are : (set : Set) → fold (after_note l) set (noted all) ≡ fold (after_note l) set (noted first)
  notes_are set =
      ap (λ xs. fold (after_note l) set (noted xs)) f.whole
      ∙ (ap (λ xs. fold (after_note l) set xs) (noted-append first f.more)
      ∙ (fold-append (after_note l) set (noted first) (noted f.more) ∙ no_notes l f.more f.above (fold (after_note l) set (noted first))))

-- ---- the reduction, and the algorithms

changes_above : (n : ℕ) (old new : Processes) → AllByRecursion (IsAbove 1) (map action.Note (changes 2 n old new))
changes_above n old new =
    images (IsAbove 1) action.Note (changes 2 n old new)
    (both (λ x. IsAbove 1 (action.Note x)) (map (note.Suspect 2) (gone n new old)) (map (note.Trust 2) (gone n old new))
    (images (λ x. IsAbove 1 (action.Note x)) (note.Suspect 2) (gone n new old) (always (λ q. IsAbove 1 (action.Note (note.Suspect 2 q))) (λ q. (refl, refl)) (gone n new old)))
    (images (λ x. IsAbove 1 (action.Note x)) (note.Trust 2) (gone n old new) (always (λ q. IsAbove 1 (action.Note (note.Trust 2 q))) (λ q. (refl, refl)) (gone n old new))))

reduction_above : (place : Place) (s : ReductionState) (below : Processes) (x : StepInput) → AllByRecursion (IsAbove 1) (step_reduction place s below x).actions
reduction_above place s below input.Start = (refl, tt)
reduction_above place s below (input.Wake Share) =
    both (IsAbove 1) (to_all place.processes (payload.Suspects below)) (next_share place s) (all_sent (IsAbove 1) place.processes (payload.Suspects below) (λ q. refl)) (refl, tt)
reduction_above place s below (input.Letter sender (payload.Suspects shared)) = changes_above place.processes s.output (gathered place s.output sender shared)
reduction_above place s below x = tt

algorithm_is_above : (l : ℕ) (a : Action) → IsOfAlgorithm a → IsAbove l a
algorithm_is_above l (action.Send to payload.Alive) h = h
algorithm_is_above l (action.Send to (payload.Heartbeat number)) h = h
algorithm_is_above l (action.Send to (payload.Suspects shared)) h = absurd h
algorithm_is_above l (action.Wake pause tag) h = absurd h
algorithm_is_above l (action.Note (note.Suspect layer who)) h = absurd h
algorithm_is_above l (action.Note (note.Trust layer who)) h = absurd h
algorithm_is_above l a h = tt

lower_followed : (m : Lower) (now : ℕ) (x : StepInput) → IsFollowed 1 (based m now x).actions (react_lower m now x).actions
unfolding react_lower
lower_followed m now x = go m.reduction
  where
    go : (o : Option ReductionState) → IsFollowed 1 (based m now x).actions (react_lower (record m { reduction = o }) now x).actions
    go None = record { more = []; above = tt; whole = sym (append-nil _) }
    go (Some r) = record {
      more = (step_reduction m.place r (suspected_by m.place (based m now x).state) x).actions;
      above = reduction_above m.place r (suspected_by m.place (based m now x).state) x;
      whole = refl;
    }

-- the base detector acts first, and then what stands above it
pub mind_followed : (m : Mind) (now : ℕ) (x : StepInput) → IsFollowed 1 (based m.lower now x).actions (react m now x).actions
mind_followed m now x =
    let low = lower_followed m.lower now x in
    let upper = react_algorithm m.algorithm x (suspects_of (react_lower m.lower now x).state) in
    record {
      more = low.more ++ upper.actions;
      above = both (IsAbove 1) low.more upper.actions low.above (weaker IsOfAlgorithm (IsAbove 1) (algorithm_is_above 1) _ (algorithm_acts m.algorithm x (suspects_of (react_lower m.lower now x).state)));
      whole = (stacked m now x).acts ∙ (ap (λ z. z ++ upper.actions) low.whole ∙ append_assoc _ low.more upper.actions);
    }

-- the layers act first, and then an algorithm
pub lower_acts_first : (l : ℕ) (m : Mind) (now : ℕ) (x : StepInput) → IsFollowed l (react_lower m.lower now x).actions (react m now x).actions
lower_acts_first l m now x = record {
  more = (react_algorithm m.algorithm x (suspects_of (react_lower m.lower now x).state)).actions;
  above = weaker IsOfAlgorithm (IsAbove l) (algorithm_is_above l) _ (algorithm_acts m.algorithm x (suspects_of (react_lower m.lower now x).state));
  whole = (stacked m now x).acts;
}
