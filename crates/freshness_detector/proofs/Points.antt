-- Who is suspected after a point is reached, and after a heartbeat came.
use Rattle.freshness_detector.proofs.Words.{◌≡◌, ℕ, refl, sym, ap, ◌∙◌, [], ◌∷◌, map, Bool, true, false, cond, not, ◌&&◌, ◌||◌, nat_eq, nat_le, nat_cmp, arith, eqb-true, false_from_ne_true, FreshnessState, watches, suspected, noted, heard, is_process, Place, Processes, changes, FreshnessNumbers, contains-remove_is, same_members}
use Rattle.std.proofs.lemmas.Bool.Decides.{nat_tests}
use Rattle.std.specs.FinSet as set
use Rattle.process_api.specs.declared.action.Action.TheVariants as action
use Rattle.process_api.specs.declared.action.Note.TheVariants as note
use Rattle.process_api.proofs.{Changes.{changes-left}, FreshnessLaws.{contains-suspected, only_others}, Keeping.{apart_from_itself}, LayerNotes.{changes-none}}

module _ (place : Place) (numbers : FreshnessNumbers) (s : FreshnessState) (suspects : Processes) (are : (q : ℕ) → set.contains suspects q ≡ set.contains (suspected place numbers s) q) where
  pub same_suspects : suspects ≡ suspected place numbers s
  same_suspects = same_members suspects (suspected place numbers s) are

  -- heartbeat j came from q
  module _ (q j : ℕ) where
    abbrev next : FreshnessState
    next = heard place numbers s q j

    came : (p : ℕ) → next.came p s.reached ≡ ((nat_eq p q && nat_le s.reached j) || s.came p s.reached)
    came p =
        elim (nat_eq p q) as (λ b. nat_eq p q ≡ b → (cond b (λ i. nat_le i j || s.came q i) (s.came p)) s.reached ≡ ((b && nat_le s.reached j) || s.came p s.reached)) [
          | true ↦ λ e. ap (λ k. nat_le s.reached j || s.came k s.reached) (sym (eqb-true p q e))
          | false ↦ λ e. refl
        ] refl

    is_in : (p : ℕ) → set.contains suspects p ≡ (is_process place.processes p && (watches place numbers p && (nat_le 1 s.reached && not (s.came p s.reached))))
    is_in p = are p ∙ contains-suspected place numbers s p

    will_be : (p : ℕ) → set.contains (suspected place numbers next) p
        ≡ (is_process place.processes p && (watches place numbers p && (nat_le 1 s.reached && not ((nat_eq p q && nat_le s.reached j) || s.came p s.reached))))
    will_be p = contains-suspected place numbers next p ∙ ap (λ b. is_process place.processes p && (watches place numbers p && (nat_le 1 s.reached && not b))) (came p)

    -- p: one of 1 to n, w: watched, r: a point was reached, o: it came before, e: it is of the sender
    left_by : (p w r o e f now later : Bool) → f ≡ true → now ≡ (p && (w && (r && not o))) → later ≡ (p && (w && (r && not ((e && f) || o)))) → (not e && now) ≡ later
    left_by p w r o e f now later g h k = grind (arith, nat_tests)

    kept_by : (p w r o e f now later : Bool) → (e ≡ true → (f && now) ≡ false) → now ≡ (p && (w && (r && not o))) → later ≡ (p && (w && (r && not ((e && f) || o)))) → now ≡ later
    kept_by p w r o e f now later g h k = grind (arith, nat_tests)

    -- it is as late as the last point: q is no more suspected
    module _ (fresh : nat_le s.reached j ≡ true) where
      pub left_members : (p : ℕ) → set.contains (set.remove suspects q) p ≡ set.contains (suspected place numbers next) p
      left_members p = contains-remove_is suspects q p ∙ left_by (is_process place.processes p) (watches place numbers p) (nat_le 1 s.reached) (s.came p s.reached) (nat_eq p q) (nat_le s.reached j) _ _ fresh (is_in p) (will_be p)

      pub left_notes : is_process place.processes q ≡ true → set.contains suspects q ≡ true → action.Note (note.Trust 1 q) ∷ [] ≡ noted place numbers s next
      left_notes one suspected_before =
          ap (map action.Note) (changes-left place.processes suspects q one suspected_before)
          ∙ (λ i. map action.Note (changes 1 place.processes (same_suspects i) (same_members _ _ left_members i)))

    -- it is older than the last point, or q isn't suspected
    module _ (stays : (nat_le s.reached j && set.contains suspects q) ≡ false) where
      pub kept_members : (p : ℕ) → set.contains suspects p ≡ set.contains (suspected place numbers next) p
      kept_members p = kept_by (is_process place.processes p) (watches place numbers p) (nat_le 1 s.reached) (s.came p s.reached) (nat_eq p q) (nat_le s.reached j) _ _ (λ e. ap (λ k. nat_le s.reached j && set.contains suspects k) (eqb-true p q e) ∙ stays) (is_in p) (will_be p)

      pub kept_notes : [] ≡ noted place numbers s next
      kept_notes =
          ap (map action.Note) (changes-none 1 place.processes suspects)
          ∙ (λ i. map action.Note (changes 1 place.processes (same_suspects i) (same_members _ _ kept_members i)))

-- before the first point nobody is suspected, whatever came
pub opens_with_nobody : (place : Place) (numbers : FreshnessNumbers) (s : FreshnessState) → s.reached ≡ 0 → (q : ℕ) → set.contains (set.empty {R = nat_cmp}) q ≡ set.contains (suspected place numbers s) q
opens_with_nobody place numbers s first q = set.contains-empty nat_cmp q ∙ sym (contains-suspected place numbers s q ∙ none (is_process place.processes q) (watches place numbers q) _ s.reached first)
  where
    none : (a b c : Bool) (r : ℕ) → r ≡ 0 → (a && (b && (nat_le 1 r && c))) ≡ false
    none a b c r e = grind (e, arith, nat_tests)

-- nobody suspects itself
pub not_itself : (place : Place) (numbers : FreshnessNumbers) (s : FreshnessState) → set.contains (suspected place numbers s) place.own ≡ false
not_itself place numbers s = false_from_ne_true _ (λ is. apart_from_itself place (only_others place numbers s place.own is))
