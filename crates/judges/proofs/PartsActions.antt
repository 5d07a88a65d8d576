-- What the parts of a process do at an input: a base detector of any kind, a reduction above it, and above that an algorithm
-- of any kind.
use Rattle.judges.proofs.Words.{AllByRecursion, filter, Action, StepInput, IsIn, ◌≡◌, ℕ, inl, inr, refl, sym, ap, ◌∙◌, true, false, ◌&&◌, not, nat_le, map, ◌⊎◌, zero, suc, ◌≤◌, subst, Bool, cond, nat_eq, List, [], ◌∷◌, arith, and_parts, or_cases, not-true, leb-true, cases_eq, to_all, numbers_to, is_process, Place, ReductionState, gathered, next_share, step_reduction, both, images, always, IsDetectorStep, IsOfDetector, in_append, in_left, in_right}
use Rattle.judges.proofs.{Algorithms.{all_sent, IsOfAlgorithm}, Members.{in_image, in_filter}, Agreement.Joined.{IsOfLower}}
use Rattle.std.specs.FinSet as set
use Rattle.process_api.specs.{Sets.{Processes, up_to, gone, changes}, declared.action.Note.{Note}, Answer.{of_layer, notes_of_layer}, Place.{is_other}}
use Rattle.process_api.specs.declared.action.Action.TheVariants as action
use Rattle.process_api.specs.declared.action.Note.TheVariants as note
use Rattle.process_api.specs.declared.message.Payload.TheVariants as payload
use Rattle.process_api.specs.declared.message.StepInput.TheVariants as input
use Rattle.trace_laws.specs.Setting.{Setting, IsProcess}
use Rattle.std.specs.{Cmp.{nat_cmp_total}, FinMap.{nat_cmp-IsAntisymmetric}}
use Rattle.process_api.specs.declared.message.Tag.TheVariants as tag

-- What a process may do at an input, after which its base detector suspects these: the sets that it sends are these, and whom
-- it suspects on layer 2 a set has that comes
abbrev pub IsSharing : StepInput → Processes → Action → Type 0
IsSharing x after (action.Send to (payload.Suspects members)) = members ≡ after
IsSharing x after (action.Note (note.Suspect layer q)) = layer ≡ 2 → (sender : ℕ) × (members : Processes) × (x ≡ input.Letter sender (payload.Suspects members)) × (set.contains members q ≡ true)
IsSharing x after a = Unit {0}

-- the answer to an input of a process whose base detector suspects these before and after
pub record IsShared (x : StepInput) (before after : Processes) (actions : List Action) : Type 0 where
  pub acts : AllByRecursion (IsSharing x after) actions
  -- whoever becomes suspected is noted
  pub noted : (q : ℕ) → set.contains after q ≡ true → (set.contains before q ≡ true) ⊎ IsIn (action.Note (note.Suspect 1 q)) actions

-- the machines share their suspicions
pub record RunsReduction {Mind : Type 0} (S : Setting Mind) : Type 0 where
  pub suspects : Mind → Processes
  pub opens : (p : ℕ) → IsProcess S p → (q : ℕ) → set.contains (suspects (S.opening p)) q ≡ false
  pub joins : (mind : Mind) (now : ℕ) (x : StepInput) → IsShared x (suspects mind) (suspects (S.react mind now x).state) (S.react mind now x).actions

-- what a filter lets through passes its test
passed : {X : Type 0} (P : X → Type 0) (p : X → Bool) → ((x : X) → p x ≡ true → P x) → (xs : List X) → AllByRecursion P (filter p xs)
passed P p f [] = tt
passed P p f (x ∷ xs) =
    elim (p x) as (λ b. p x ≡ b → AllByRecursion P (cond b (x ∷ filter p xs) (filter p xs))) [
      | true ↦ λ e. (f x e, passed P p f xs)
      | false ↦ λ e. passed P p f xs
    ] refl

-- ---- a reduction: it notes on layer 2 only whom a letter's set has, and sends only whom the detector below suspects.

removed : (s : Processes) (k q : ℕ) → set.contains (set.remove s k) q ≡ true → set.contains s q ≡ true
removed s k q h = (and_parts _ _ (sym (set.contains-remove nat_cmp_total s k q) ∙ h)).1

within : (s : Processes) (n q : ℕ) → set.contains (up_to n s) q ≡ true → set.contains s q ≡ true
within s n q h = (and_parts _ _ (sym (set.contains-retain s (λ k. nat_le k n) q (λ x e. ap (λ k. nat_le k n) (sym (nat_cmp-IsAntisymmetric q x e)))) ∙ h)).0

module _ (place : Place) (s : ReductionState) (below : Processes) where
  came : (sender : ℕ) (shared : Processes) (q : ℕ) → set.contains (gathered place s.output sender shared) q ≡ true → set.contains s.output q ≡ false → set.contains shared q ≡ true
  came sender shared q h new =
      elim (or_cases (set.contains s.output q) (set.contains (up_to place.processes shared) q) (sym (set.contains-union nat_cmp_total s.output (up_to place.processes shared) q)
      ∙ removed (set.union s.output (up_to place.processes shared)) sender q (removed (set.remove (set.union s.output (up_to place.processes shared)) sender) place.own q h))) [
        | inl old ↦ absurd (cc (old, new))
        | inr there ↦ within shared place.processes q there
      ]

  pub reduction_shares : (x : StepInput) → AllByRecursion (IsSharing x below) (step_reduction place s below x).actions
  reduction_shares input.Start = (tt, tt)
  reduction_shares (input.Wake tag.Share) =
      let Its = IsSharing (input.Wake tag.Share) below in
      both Its (to_all place.processes (payload.Suspects below)) (next_share place s) (all_sent Its place.processes (payload.Suspects below) (λ q. refl)) (tt, tt)
  reduction_shares (input.Letter sender (payload.Suspects shared)) =
      let Its = λ (x : Note). IsSharing (input.Letter sender (payload.Suspects shared)) below (action.Note x) in
      let after = gathered place s.output sender shared in
      images (IsSharing (input.Letter sender (payload.Suspects shared)) below) action.Note (changes 2 place.processes s.output after)
      (both Its (map (note.Suspect 2) (gone place.processes after s.output)) (map (note.Trust 2) (gone place.processes s.output after))
      (images Its (note.Suspect 2) (gone place.processes after s.output) (passed (λ q. Its (note.Suspect 2 q)) (λ q. set.contains after q && not (set.contains s.output q))
      (λ q new _. let p = and_parts _ _ new in (sender, shared, refl, came sender shared q p.0 (not-true _ p.1))) (numbers_to place.processes)))
      (images Its (note.Trust 2) (gone place.processes s.output after) (always (λ q. Its (note.Trust 2 q)) (λ q. tt) (gone place.processes s.output after))))
  reduction_shares x = tt

-- ---- whoever becomes suspected by a base detector is noted, since its notes are the changes of its suspects.

in_numbers : (n q : ℕ) → 1 ≤ q → q ≤ n → IsIn q (numbers_to n)
in_numbers zero q low high = absurd (omega (arith, low, high))
in_numbers (suc n) q low high = elim (cases_eq q (suc n)) [
  | inl last ↦ in_right q (numbers_to n) (suc n ∷ []) (inl last)
  | inr apart ↦ in_left q (numbers_to n) (suc n ∷ []) (in_numbers n q low (omega (arith, high, apart)))
]

-- what is a note of a layer is noted
the_one : {x y : Note} (b : Bool) → IsIn x (cond b (y ∷ []) []) → x ≡ y
the_one true i = elim i [ inl e ↦ e | inr none ↦ absurd none ]
the_one false none = absurd none

itself : (layer : ℕ) (x y : Note) → IsIn x (of_layer layer y) → x ≡ y
itself layer x (note.Suspect l q) i = the_one (nat_eq l layer) i
itself layer x (note.Trust l q) i = the_one (nat_eq l layer) i
itself layer x y none = absurd none

noted_in : (layer : ℕ) (x : Note) (actions : List Action) → IsIn x (notes_of_layer layer actions) → IsIn (action.Note x) actions
noted_in layer x [] none = absurd none
noted_in layer x (action.Note y ∷ later) i = elim (in_append x (of_layer layer y) (notes_of_layer layer later) i) [ inl j ↦ inl (ap action.Note (itself layer x y j)) | inr j ↦ inr (noted_in layer x later j) ]
noted_in layer x (a ∷ later) i = inr (noted_in layer x later i)

module _ (place : Place) (before after : Processes) (was_paced is_paced : Bool) (actions : List Action) (laws : IsDetectorStep place before after was_paced is_paced actions) where
  pub noted_where_new : (q : ℕ) → set.contains after q ≡ true → (set.contains before q ≡ true) ⊎ IsIn (action.Note (note.Suspect 1 q)) actions
  noted_where_new q h =
      elim (set.contains before q) as (λ b. set.contains before q ≡ b → (b ≡ true) ⊎ IsIn (action.Note (note.Suspect 1 q)) actions) [
        | true ↦ λ was. inl refl
        | false ↦ λ new. by_law new (laws.others q h)
      ] refl
    where
      -- it is among 1 to n, and so among those that the notes tell of
      joins : set.contains before q ≡ false → is_process place.processes q ≡ true → IsIn (note.Suspect 1 q) (changes 1 place.processes before after)
      joins new one =
          in_left (note.Suspect 1 q) (map (note.Suspect 1) (gone place.processes after before)) (map (note.Trust 1) (gone place.processes before after))
          (in_image (note.Suspect 1) (gone place.processes after before) q
          (in_filter (λ p. set.contains after p && not (set.contains before p)) (numbers_to place.processes) q
          (in_numbers place.processes q (leb-true 1 q (and_parts (nat_le 1 q) (nat_le q place.processes) one).0) (leb-true q place.processes (and_parts (nat_le 1 q) (nat_le q place.processes) one).1))
          (λ i. h i && not (new i))))

      by_law : set.contains before q ≡ false → (set.contains before q ≡ true) ⊎ (is_other place.own place.processes q ≡ true) → (false ≡ true) ⊎ IsIn (action.Note (note.Suspect 1 q)) actions
      by_law new (inl was) = inl (sym new ∙ was)
      by_law new (inr other) = inr (noted_in 1 (note.Suspect 1 q) actions (subst (IsIn (note.Suspect 1 q)) (sym laws.notes) (joins new (and_parts (is_process place.processes q) (not (nat_eq q place.own)) other).0)))

-- ---- what the parts may do, by which part it is

pub detector_is_lower : (a : Action) → IsOfDetector a → IsOfLower a
detector_is_lower (action.Send to (payload.Suspects shared)) h = tt
detector_is_lower (action.Note (note.Suspect layer who)) h = tt
detector_is_lower (action.Note (note.Trust layer who)) h = tt
detector_is_lower a h = h

pub detector_is_sharing : (x : StepInput) (after : Processes) (a : Action) → IsOfDetector a → IsSharing x after a
detector_is_sharing x after (action.Send to (payload.Suspects shared)) h = absurd h
detector_is_sharing x after (action.Note (note.Suspect layer who)) h = λ two. absurd (omega (arith, h, two))
detector_is_sharing x after a h = tt

pub algorithm_is_sharing : (x : StepInput) (after : Processes) (a : Action) → IsOfAlgorithm a → IsSharing x after a
algorithm_is_sharing x after (action.Send to (payload.Suspects shared)) h = absurd h
algorithm_is_sharing x after (action.Note (note.Suspect layer who)) h = absurd h
algorithm_is_sharing x after a h = tt

changes_lower : (n : ℕ) (old new : Processes) → AllByRecursion IsOfLower (map action.Note (changes 2 n old new))
changes_lower n old new =
    images IsOfLower action.Note (changes 2 n old new)
    (both (λ x. IsOfLower (action.Note x)) (map (note.Suspect 2) (gone n new old)) (map (note.Trust 2) (gone n old new))
    (images (λ x. IsOfLower (action.Note x)) (note.Suspect 2) (gone n new old) (always (λ q. IsOfLower (action.Note (note.Suspect 2 q))) (λ q. tt) (gone n new old)))
    (images (λ x. IsOfLower (action.Note x)) (note.Trust 2) (gone n old new) (always (λ q. IsOfLower (action.Note (note.Trust 2 q))) (λ q. tt) (gone n old new))))

-- what the reduction does is no part of an algorithm
pub reduction_lower : (place : Place) (s : ReductionState) (below : Processes) (x : StepInput) → AllByRecursion IsOfLower (step_reduction place s below x).actions
reduction_lower place s below input.Start = (tt, tt)
reduction_lower place s below (input.Wake tag.Share) =
    both IsOfLower (to_all place.processes (payload.Suspects below)) (next_share place s) (all_sent IsOfLower place.processes (payload.Suspects below) (λ q. tt)) (tt, tt)
reduction_lower place s below (input.Letter sender (payload.Suspects shared)) = changes_lower place.processes s.output (gathered place s.output sender shared)
reduction_lower place s below x = tt
