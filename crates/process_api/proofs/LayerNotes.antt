-- Which notes of a layer some actions leave.
use Rattle.process_api.proofs.Basics.{◌≡◌, ℕ, refl, sym, ap, ◌∙◌, cond, nat_eq, List, [], ◌∷◌, ◌++◌, map, append_assoc, eq-eqb, cond-true, and-not_self, map-append, AllByRecursion, of_layer, notes_of_layer, IsOfDetector, Processes, changes, gone, Action, Payload}
use Rattle.process_api.proofs.Numbering.{filter-none}
use Rattle.std.specs.FinSet as set
use Rattle.process_api.specs.declared.action.Action.TheVariants as action
use Rattle.process_api.specs.declared.action.Note.{Note}
use Rattle.process_api.specs.declared.action.Note.TheVariants as note

pub notes_of_layer-append : (layer : ℕ) (xs ys : List Action) → notes_of_layer layer (xs ++ ys) ≡ notes_of_layer layer xs ++ notes_of_layer layer ys
notes_of_layer-append layer [] ys = refl
notes_of_layer-append layer (action.Send to what ∷ xs) ys = notes_of_layer-append layer xs ys
notes_of_layer-append layer (action.Wake pause tag ∷ xs) ys = notes_of_layer-append layer xs ys
notes_of_layer-append layer (action.Note noted ∷ xs) ys =
    ap (λ zs. of_layer layer noted ++ zs) (notes_of_layer-append layer xs ys) ∙ sym (append_assoc (of_layer layer noted) (notes_of_layer layer xs) (notes_of_layer layer ys))

-- letters are no notes
pub no_letters : (layer : ℕ) (what : Payload) (qs : List ℕ) → notes_of_layer layer (map (λ q. action.Send q what) qs) ≡ []
no_letters layer what [] = refl
no_letters layer what (q ∷ qs) = no_letters layer what qs

-- a base detector notes nothing of layer 2
other_layer : (l : ℕ) (x : Note) → l ≡ 1 → cond (nat_eq l 2) (x ∷ []) [] ≡ []
other_layer l x e = ap (λ k. cond {A = List Note} (nat_eq k 2) (x ∷ []) []) e

pub none_of_layer_2 : (xs : List Action) → AllByRecursion IsOfDetector xs → notes_of_layer 2 xs ≡ []
none_of_layer_2 [] all = refl
none_of_layer_2 (action.Send to what ∷ xs) all = none_of_layer_2 xs all.1
none_of_layer_2 (action.Wake pause tag ∷ xs) all = none_of_layer_2 xs all.1
none_of_layer_2 (action.Note (note.Suspect l q) ∷ xs) all = λ i. other_layer l (note.Suspect l q) all.0 i ++ none_of_layer_2 xs all.1 i
none_of_layer_2 (action.Note (note.Trust l q) ∷ xs) all = λ i. other_layer l (note.Trust l q) all.0 i ++ none_of_layer_2 xs all.1 i
none_of_layer_2 (action.Note (note.Round r) ∷ xs) all = absurd all.0
none_of_layer_2 (action.Note (note.Decided v) ∷ xs) all = absurd all.0
none_of_layer_2 (action.Note note.NoValue ∷ xs) all = absurd all.0

-- noted changes are notes of their layer
all_kept : (layer : ℕ) (kind : ℕ → Note) → ((q : ℕ) → of_layer layer (kind q) ≡ kind q ∷ []) → (qs : List ℕ) → notes_of_layer layer (map action.Note (map kind qs)) ≡ map kind qs
all_kept layer kind own [] = refl
all_kept layer kind own (q ∷ qs) = λ i. own q i ++ all_kept layer kind own qs i

own_layer : (layer : ℕ) (x : Note) → cond {A = List Note} (nat_eq layer layer) (x ∷ []) [] ≡ x ∷ []
own_layer layer x = cond-true _ _ _ (eq-eqb layer layer refl)

pub changes_kept : (layer n : ℕ) (old new : Processes) → notes_of_layer layer (map action.Note (changes layer n old new)) ≡ changes layer n old new
changes_kept layer n old new =
    ap (notes_of_layer layer) (map-append action.Note (map (note.Suspect layer) (gone n new old)) (map (note.Trust layer) (gone n old new)))
    ∙ (notes_of_layer-append layer (map action.Note (map (note.Suspect layer) (gone n new old))) (map action.Note (map (note.Trust layer) (gone n old new)))
    ∙ (λ i. all_kept layer (note.Suspect layer) (λ q. own_layer layer (note.Suspect layer q)) (gone n new old) i ++ all_kept layer (note.Trust layer) (λ q. own_layer layer (note.Trust layer q)) (gone n old new) i))

-- a set that stays has no changes
gone-itself : (n : ℕ) (s : Processes) → gone n s s ≡ []
gone-itself n s = filter-none _ n (λ q low high. and-not_self (set.contains s q))

pub changes-none : (layer n : ℕ) (s : Processes) → [] ≡ changes layer n s s
changes-none layer n s = sym (λ i. map (note.Suspect layer) (gone-itself n s i) ++ map (note.Trust layer) (gone-itself n s i))
