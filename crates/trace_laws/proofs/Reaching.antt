-- Worlds that the list comes by.
use Rattle.trace_laws.proofs.Words.{◌≡◌, ◌<◌, refl, sym, ap, ◌∙◌, subst, List, [], ◌∷◌, ◌++◌, length, append_assoc, append-nil, length-append, arith, map-append, length-map, Key, StepInput, EntryRecord, Setting, World, IsLeast, NoneBelow, Run, opening, made, taken, entries, IsTrace}
use Rattle.{trace_laws.proofs.Runs.{again, next}, std.specs.Prelude.{take}, std.proofs.Math.Seq.{take-append_seam}}
use Rattle.trace_laws.specs.{History.{Pair}, World.{IsReached}}

module _ {Mind : Type 0} (S : Setting Mind) where
  pub opening_reached : IsReached S (opening S) []
  opening_reached = record { history = []; trace_is = refl; goes_on = λ rest last r. r; comes_by = λ all last r. (all, refl, r) }

  -- one step further
  pub reached_next : (w : World Mind) (trace : List EntryRecord) (key : Key) (input : StepInput) → IsLeast w.pending key input → key.tick < S.horizon → IsReached S w trace → IsReached S (taken S w key input) (trace ++ (made S w key input).entry ∷ [])
  reached_next w trace key input least due was =
      let s : Pair = ((made S w key input).entry, input) in
      record {
        history = was.history ++ s ∷ [];
        trace_is = ap (λ es. es ++ s.0 ∷ []) was.trace_is ∙ sym (map-append (λ (t : Pair). t.0) was.history (s ∷ []));
        goes_on = λ rest last r. subst (λ h. Run S S.horizon (opening S) h last) (sym (append_assoc was.history (s ∷ []) rest))
            (was.goes_on (s ∷ rest) last (again S S.horizon w key input least due rest last r));
        comes_by = λ all last r.
            let before = was.comes_by all last r in
            let after = next S S.horizon w key input least due before.0 last before.2 in
            (after.0, before.1 ∙ (ap (λ h. was.history ++ h) after.1 ∙ sym (append_assoc was.history (s ∷ []) after.0)), after.2);
      }

  -- where no event is left, the entries so far are the trace
  pub reached_end : (w : World Mind) (trace : List EntryRecord) → IsReached S w trace → NoneBelow S.horizon w.pending → IsTrace S trace
  reached_end w trace was none = (was.history ++ [], w, was.goes_on [] w (none, refl), was.trace_is ∙ ap (entries) (sym (append-nil was.history)))

  -- where an event is left, every trace is longer than the entries so far
  pub reached_longer : (w : World Mind) (trace : List EntryRecord) (key : Key) (input : StepInput) → IsReached S w trace → IsLeast w.pending key input → key.tick < S.horizon → (whole : List EntryRecord) → IsTrace S whole → length trace < length whole
  reached_longer w trace key input was least due whole is =
      let before = was.comes_by is.0 is.1 is.2 in
      let after = next S S.horizon w key input least due before.0 is.1 before.2 in
      let long : whole ≡ entries (was.history ++ (((made S w key input).entry, input) ∷ after.0)) = is.3 ∙ ap (entries) (before.1 ∙ ap (λ h. was.history ++ h) after.1) in
      let n : length whole ≡ length (was.history ++ (((made S w key input).entry, input) ∷ after.0)) = ap length long ∙ length-map _ _ in
      let m : length trace ≡ length was.history = ap length was.trace_is ∙ length-map _ _ in
      omega (arith, n, m, length-append was.history (((made S w key input).entry, input) ∷ after.0))

  -- the entries so far are the front of every trace
  pub reached_front : (w : World Mind) (trace : List EntryRecord) → IsReached S w trace → (whole : List EntryRecord) → IsTrace S whole → trace ≡ take (length trace) whole
  reached_front w trace was whole is =
      let before = was.comes_by is.0 is.1 is.2 in
      let parts : whole ≡ trace ++ entries before.0 = is.3 ∙ (ap (entries) before.1 ∙ (map-append (λ (t : Pair). t.0) was.history before.0 ∙ ap (λ es. es ++ entries before.0) (sym was.trace_is))) in
      sym (ap (take (length trace)) parts ∙ take-append_seam trace (entries before.0))
