-- OUT is the set of a layer's detector: the layer's notes are how it changes.
use Rattle.detector_bounds.proofs.Words.{◌≡◌, ◌≢◌, inl, inr, ℕ, zero, suc, ◌+◌, ◌≤◌, refl, sym, ap, ◌∙◌, subst, Bool, true, false, cond, not, ◌&&◌, ◌||◌, ◌==◌, nat_eq, nat_le, List, [], ◌∷◌, ◌++◌, map, append_assoc, append-nil, fold, arith, and_right, lt-leb, le-leb, eq-eqb, ne_eqb, cases_eq, fold-append, notes_of_layer, EntryRecord, numbers_to, is_process, Processes, gone, changes, Action, and_true, Set, nobody, with, without, after_note, notes_until, out}
use Rattle.std.specs.FinSet as set
use Rattle.std.specs.List.{AllByRecursion, filter}
use Rattle.std.proofs.{Math.Bool.{and-false}, lemmas.Bool.Decides.{nat_tests}}
use Rattle.process_api.specs.declared.action.Action.TheVariants as action
use Rattle.process_api.specs.declared.action.Note.{Note}
use Rattle.process_api.specs.declared.action.Note.TheVariants as note
use Rattle.trace_laws.specs.Step.{noted}

-- ---- a step's notes

module _ (layer : ℕ) where
  one_layer : (l : ℕ) (x : Note) (s changed : Set) (all rest : List Note) → ((z : Set) → fold (after_note layer) z all ≡ fold (after_note layer) z rest) → after_note layer s x ≡ cond (nat_eq l layer) changed s
      → fold (after_note layer) (cond (nat_eq l layer) changed s) all ≡ fold (after_note layer) s (cond (nat_eq l layer) (x ∷ []) [] ++ rest)
  one_layer l x s changed all rest f is = go (nat_eq l layer) is
    where
      go : (b : Bool) → after_note layer s x ≡ cond b changed s → fold (after_note layer) (cond b changed s) all ≡ fold (after_note layer) s (cond b (x ∷ []) [] ++ rest)
      go true is = f changed ∙ ap (λ z. fold (after_note layer) z rest) (sym is)
      go false is = f s

  -- only notes of the layer count
  layer_notes : (actions : List Action) (s : Set) → fold (after_note layer) s (noted actions) ≡ fold (after_note layer) s (notes_of_layer layer actions)
  layer_notes [] s = refl
  layer_notes (action.Send to what ∷ actions) s = layer_notes actions s
  layer_notes (action.Wake pause tag ∷ actions) s = layer_notes actions s
  layer_notes (action.Note (note.Suspect l q) ∷ actions) s = one_layer l (note.Suspect l q) s (with s q) (noted actions) (notes_of_layer layer actions) (λ z. layer_notes actions z) refl
  layer_notes (action.Note (note.Trust l q) ∷ actions) s = one_layer l (note.Trust l q) s (without s q) (noted actions) (notes_of_layer layer actions) (λ z. layer_notes actions z) refl
  layer_notes (action.Note (note.Round r) ∷ actions) s = layer_notes actions s
  layer_notes (action.Note (note.Decided v) ∷ actions) s = layer_notes actions s
  layer_notes (action.Note note.NoValue ∷ actions) s = layer_notes actions s

-- whether a process is one of these
abbrev among : ℕ → List ℕ → Bool
among p [] = false
among p (q ∷ qs) = nat_eq q p || among p qs

among-append : (p : ℕ) (xs ys : List ℕ) → among p (xs ++ ys) ≡ (among p xs || among p ys)
among-append p [] ys = refl
among-append p (x ∷ xs) ys = grind (among-append p xs ys, arith)

among-numbers : (p n : ℕ) → among p (numbers_to n) ≡ is_process n p
among-numbers p zero = grind (arith, nat_tests)
among-numbers p (suc n) = grind (among-append p (numbers_to n) (suc n ∷ []), among-numbers p n, arith, nat_tests)

module _ (p : ℕ) (test : ℕ → Bool) (qs : List ℕ) (rest : among p (filter test qs) ≡ (among p qs && test p)) where
  it_passes : (t : Bool) → test p ≡ t → among p (cond t (p ∷ filter test qs) (filter test qs)) ≡ ((nat_eq p p || among p qs) && t)
  it_passes true is = (λ i. eq-eqb p p refl i || among p (filter test qs)) ∙ sym (λ i. (eq-eqb p p refl i || among p qs) && true)
  it_passes false is = rest ∙ ((λ i. among p qs && is i) ∙ (and-false (among p qs) ∙ sym (and-false (nat_eq p p || among p qs))))

  another : (q : ℕ) (t : Bool) → q ≢ p → among p (cond t (q ∷ filter test qs) (filter test qs)) ≡ ((nat_eq q p || among p qs) && test p)
  another q true other = (λ i. ne_eqb q p other i || rest i) ∙ (λ i. (sym (ne_eqb q p other) i || among p qs) && test p)
  another q false other = rest ∙ (λ i. (sym (ne_eqb q p other) i || among p qs) && test p)

among-filter : (p : ℕ) (test : ℕ → Bool) (qs : List ℕ) → among p (filter test qs) ≡ (among p qs && test p)
among-filter p test [] = refl
among-filter p test (q ∷ qs) = elim (cases_eq q p) [
  | inl same ↦ subst (λ z. among p (cond (test z) (z ∷ filter test qs) (filter test qs)) ≡ ((nat_eq z p || among p qs) && test p)) (sym same) (it_passes p test qs (among-filter p test qs) (test p) refl)
  | inr other ↦ another p test qs (among-filter p test qs) q (test q) other
]

one_more : (a b s : Bool) → (a || cond b true s) ≡ ((b || a) || s)
one_more true true s = refl
one_more true false s = refl
one_more false true s = refl
one_more false false s = refl

one_less : (a b s : Bool) → (not a && cond b false s) ≡ (not (b || a) && s)
one_less true true s = refl
one_less true false s = refl
one_less false true s = refl
one_less false false s = refl

-- who is of 1 to n and is in the set after its changes
changed : (was is : Bool) → (not (was && not is) && ((is && not was) || was)) ≡ is
changed true true = refl
changed true false = refl
changed false true = refl
changed false false = refl

among-gone : (p n : ℕ) (from to : Processes) → is_process n p ≡ true → among p (gone n from to) ≡ (set.contains from p && not (set.contains to p))
among-gone p n from to one =
    among-filter p (λ q. set.contains from q && not (set.contains to q)) (numbers_to n)
    ∙ ap (λ b. b && (set.contains from p && not (set.contains to p))) (among-numbers p n ∙ one)

module _ (layer : ℕ) where
  suspects_all : (p : ℕ) (qs : List ℕ) (s : Set) → fold (after_note layer) s (map (note.Suspect layer) qs) p ≡ (among p qs || s p)
  suspects_all p [] s = refl
  suspects_all p (q ∷ qs) s = ap (λ b. fold (after_note layer) (cond b (with s q) s) (map (note.Suspect layer) qs) p) (eq-eqb layer layer refl) ∙ (suspects_all p qs (with s q) ∙ one_more (among p qs) (nat_eq q p) (s p))

  trusts_all : (p : ℕ) (qs : List ℕ) (s : Set) → fold (after_note layer) s (map (note.Trust layer) qs) p ≡ (not (among p qs) && s p)
  trusts_all p [] s = refl
  trusts_all p (q ∷ qs) s = ap (λ b. fold (after_note layer) (cond b (without s q) s) (map (note.Trust layer) qs) p) (eq-eqb layer layer refl) ∙ (trusts_all p qs (without s q) ∙ one_less (among p qs) (nat_eq q p) (s p))

  -- what a step notes makes of OUT what the detector's set becomes
  pub noted_out : (n p : ℕ) (before after : Processes) (actions : List Action) (s : Set) → is_process n p ≡ true → notes_of_layer layer actions ≡ changes layer n before after → s p ≡ set.contains before p
      → fold (after_note layer) s (noted actions) p ≡ set.contains after p
  noted_out n p before after actions s one tells was =
      let first : Set = fold (after_note layer) s (map (note.Suspect layer) (gone n after before)) in
      ap (λ (z : Set). z p) (layer_notes layer actions s)
      ∙ (ap (λ xs. fold (after_note layer) s xs p) tells
      ∙ (ap (λ (z : Set). z p) (fold-append (after_note layer) s (map (note.Suspect layer) (gone n after before)) (map (note.Trust layer) (gone n before after)))
      ∙ (trusts_all p (gone n before after) first
      ∙ ((λ i. not (among-gone p n before after one i) && (suspects_all p (gone n after before) s i))
      ∙ ((λ i. not (set.contains before p && not (set.contains after p)) && (among-gone p n after before one i || was i))
      ∙ changed (set.contains before p) (set.contains after p))))))

-- ---- a trace

pub notes_until-append : (xs ys : List EntryRecord) (q t : ℕ) → notes_until (xs ++ ys) q t ≡ notes_until xs q t ++ notes_until ys q t
notes_until-append [] ys q t = refl
notes_until-append (e ∷ xs) ys q t =
    elim (e.key.receiver == q && nat_le e.key.tick t) as (λ b. cond b (e.notes ++ notes_until (xs ++ ys) q t) (notes_until (xs ++ ys) q t) ≡ cond b (e.notes ++ notes_until xs q t) (notes_until xs q t) ++ notes_until ys q t) [
      | true ↦ ap (λ z. e.notes ++ z) (notes_until-append xs ys q t) ∙ sym (append_assoc e.notes (notes_until xs q t) (notes_until ys q t))
      | false ↦ notes_until-append xs ys q t
    ]

-- later entries say nothing of a tick
pub none_later : (later : List EntryRecord) (q t : ℕ) → AllByRecursion (λ e. t + 1 ≤ e.key.tick) later → notes_until later q t ≡ []
none_later [] q t after = refl
none_later (e ∷ later) q t after =
    ap (λ b. cond b (e.notes ++ notes_until later q t) (notes_until later q t)) (and_right (e.key.receiver == q) (nat_le e.key.tick t) (lt-leb e.key.tick t (omega (arith, after.0))))
    ∙ none_later later q t after.1

module _ (layer : ℕ) where
  pub out_so_far : (earlier later : List EntryRecord) (q t p : ℕ) → AllByRecursion (λ e. t + 1 ≤ e.key.tick) later → out layer (earlier ++ later) q t p ≡ out layer earlier q t p
  out_so_far earlier later q t p after =
      ap (λ notes. fold (after_note layer) nobody notes p) (notes_until-append earlier later q t ∙ (ap (λ z. notes_until earlier q t ++ z) (none_later later q t after) ∙ append-nil _))

  -- an entry of a tick so far
  pub out_more : (past : List EntryRecord) (e : EntryRecord) (q t p : ℕ) → e.key.receiver ≡ q → e.key.tick ≤ t → out layer (past ++ e ∷ []) q t p ≡ fold (after_note layer) (out layer past q t) e.notes p
  out_more past e q t p at low =
      ap (λ notes. fold (after_note layer) nobody notes p) (notes_until-append past (e ∷ []) q t
      ∙ (ap (λ b. notes_until past q t ++ cond b (e.notes ++ []) []) (and_true (e.key.receiver == q) (nat_le e.key.tick t) (eq-eqb e.key.receiver q at) (le-leb e.key.tick t low))
      ∙ ap (λ z. notes_until past q t ++ z) (append-nil e.notes)))
      ∙ ap (λ (z : Set). z p) (fold-append (after_note layer) nobody (notes_until past q t) e.notes)

  pub out_same : (past : List EntryRecord) (e : EntryRecord) (q t p : ℕ) → e.key.receiver ≢ q → out layer (past ++ e ∷ []) q t p ≡ out layer past q t p
  out_same past e q t p other =
      ap (λ notes. fold (after_note layer) nobody notes p) (notes_until-append past (e ∷ []) q t
      ∙ (ap (λ b. notes_until past q t ++ cond (b && nat_le e.key.tick t) (e.notes ++ []) []) (ne_eqb e.key.receiver q other) ∙ append-nil _))
