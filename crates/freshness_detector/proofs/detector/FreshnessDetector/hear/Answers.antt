use Rattle.freshness_detector.proofs.Words.{◌≡◌, ◌<◌, ℕ, ◌++◌, ap, sym, ◌∙◌, append-nil, ◌≤◌, Option, None, true, false, ◌||◌, nat_le, length, slice_index_or, slice_set, arith, and_parts, get_or_default, option_map_or, suspected, is_process, place_of, state_by, state_of, heard_by}
use Rattle.freshness_detector.proofs.{Points.{left_members, left_notes, kept_members, kept_notes}, Tables.{heard_tables}}
use Rattle.std.specs.FinSet as set
use Rattle.process_api.specs.Place.{is_other}
use Rattle.freshness_detector.specs.declared.detector.FreshnessDetector.{FreshnessDetector}
use Rattle.freshness_detector.proofs.detector.FreshnessDetector.hear.Goals as goal

-- what the table stands for once its place is written
told : (d : FreshnessDetector) (q j place : ℕ) (g before : Option ℕ) → place ≡ q → q ≤ d.opening.processes
    → ((i : ℕ) → option_map_or (nat_le i) g false ≡ (nat_le i j || option_map_or (nat_le i) before false)) → before ≡ slice_index_or d.latest.items place before
    → state_by d.sent d.reached (slice_set d.latest.items place g) ≡ heard_by d q j
told d q j place g before at known later read =
    let inside : place < length d.latest.items = omega (arith, d.places, d.latest.ok.0, known, at) in
    heard_tables d.latest.items place j g inside (λ i. later i ∙ ap (λ o. nat_le i j || option_map_or (nat_le i) o false) (read ∙ get_or_default d.latest.items place before None inside)) d.sent d.reached (place_of d.opening) d.numbers
    ∙ ap (λ q. heard_by d q j) at

pub invariant_of-self-clause-current : goal.invariant_of-self-clause-current
invariant_of-self-clause-current c = λ p.
    let d = c.args.self.now in
    let both = and_parts (nat_le d.reached c.args.number) (set.contains d.suspects c.args.q) (sym c.ends_suspicion-is_trusted_again.ensures ∙ c.if-is_trusted_again.true) in
    ap (λ m. set.contains m p) c.remove.ensures
    ∙ (left_members (place_of d.opening) d.numbers (state_of d) d.suspects d.current c.args.q c.args.number both.0 p
    ∙ ap (λ s. set.contains (suspected (place_of d.opening) d.numbers s) p) (sym (told c.args.self.now c.args.q c.args.number c.from-place.result c.greatest.result c.index.result.now (c.from-place.ensures ∙ c.number.ensures.value) c.requires.known c.greatest.ensures c.index.ensures)))

pub invariant_of-self-else-is_trusted_again-clause-current : goal.invariant_of-self-else-is_trusted_again-clause-current
invariant_of-self-else-is_trusted_again-clause-current c = λ p.
    let d = c.args.self.now in
    kept_members (place_of d.opening) d.numbers (state_of d) d.suspects d.current c.args.q c.args.number (sym c.ends_suspicion-is_trusted_again.ensures ∙ c.if-is_trusted_again.false) p
    ∙ ap (λ s. set.contains (suspected (place_of d.opening) d.numbers s) p) (sym (told c.args.self.now c.args.q c.args.number c.from-place.result c.greatest.result c.index.result.now (c.from-place.ensures ∙ c.number.ensures.value) c.requires.known c.greatest.ensures c.index.ensures))

pub returns-in_ok-note_that-clause-state : goal.returns-in_ok-note_that-clause-state
returns-in_ok-note_that-clause-state c = told c.args.self.now c.args.q c.args.number c.from-place.result c.greatest.result c.index.result.now (c.from-place.ensures ∙ c.number.ensures.value) c.requires.known c.greatest.ensures c.index.ensures

pub returns-in_ok-note_that-clause-actions : goal.returns-in_ok-note_that-clause-actions
returns-in_ok-note_that-clause-actions c =
    let d = c.args.self.now in
    let both = and_parts (nat_le d.reached c.args.number) (set.contains d.suspects c.args.q) (sym c.ends_suspicion-is_trusted_again.ensures ∙ c.if-is_trusted_again.true) in
    let other : is_other d.opening.own d.opening.processes c.args.q ≡ true = (and_parts _ _ c.requires.watched).0 in
    c.in_ok-note_that.ensures.ok
    ∙ ap (λ xs. c.args.out.now.items ++ xs) (left_notes (place_of d.opening) d.numbers (state_of d) d.suspects d.current c.args.q c.args.number both.0 (and_parts (is_process d.opening.processes c.args.q) _ other).0 both.1)

pub returns-else-is_trusted_again-clause-state : goal.returns-else-is_trusted_again-clause-state
returns-else-is_trusted_again-clause-state c = told c.args.self.now c.args.q c.args.number c.from-place.result c.greatest.result c.index.result.now (c.from-place.ensures ∙ c.number.ensures.value) c.requires.known c.greatest.ensures c.index.ensures

pub returns-else-is_trusted_again-clause-actions : goal.returns-else-is_trusted_again-clause-actions
returns-else-is_trusted_again-clause-actions c =
    let d = c.args.self.now in
    sym (append-nil c.args.out.now.items)
    ∙ ap (λ xs. c.args.out.now.items ++ xs) (kept_notes (place_of d.opening) d.numbers (state_of d) d.suspects d.current c.args.q c.args.number (sym c.ends_suspicion-is_trusted_again.ensures ∙ c.if-is_trusted_again.false))
