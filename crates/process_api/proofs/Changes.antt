-- How the suspects of a layer change: some join, or one leaves.
use Rattle.process_api.proofs.Basics.{◌≤◌, length, length-append, arith, ◌≡◌, ℕ, sym, ap, ◌∙◌, append-nil, [], ◌∷◌, ◌++◌, map, Bool, true, false, not, ◌&&◌, leb-true, and_parts, nat_tests, length-map, filter, numbers_to, is_process, Processes, insert_all, gone, changes}
use Rattle.process_api.proofs.{Numbering.{length-apart, filter-same, filter-none, filter-one}, Contains.{contains-insert_all, contains-remove_is}}
use Rattle.std.proofs.lemmas.Simd.{map-map}
use Rattle.std.specs.FinSet as set
use Rattle.process_api.specs.declared.action.Action.TheVariants as action
use Rattle.process_api.specs.declared.action.Note.TheVariants as note

module _ (n : ℕ) (s : Processes) where
  -- those of 1 to n that pass a test, none of whom is in the set, join it
  module _ (test : ℕ → Bool) (new : (q : ℕ) → set.contains s q ≡ true → test q ≡ false) where
    abbrev after : Processes
    after = insert_all s (filter test (numbers_to n))

    joined : gone n after s ≡ filter test (numbers_to n)
    joined = filter-same _ test n (λ q low high. grind (contains-insert_all s test n q, new q, low, high, arith, nat_tests))

    nobody_left : gone n s after ≡ []
    nobody_left = filter-none _ n (λ q low high. grind (contains-insert_all s test n q, arith, nat_tests))

    pub changes-joined : map (note.Suspect 1) (filter test (numbers_to n)) ++ [] ≡ changes 1 n s after
    changes-joined = sym (λ i. map (note.Suspect 1) (joined i) ++ map (note.Trust 1) (nobody_left i))

    pub notes-joined : map action.Note (changes 1 n s after) ≡ map (λ q. action.Note (note.Suspect 1 q)) (filter test (numbers_to n))
    notes-joined = ap (map action.Note) (sym changes-joined ∙ append-nil _) ∙ map-map action.Note (note.Suspect 1) (filter test (numbers_to n))

  -- one of 1 to n that is in the set leaves it
  module _ (q : ℕ) (is_one : is_process n q ≡ true) (is_in : set.contains s q ≡ true) where
    left : gone n s (set.remove s q) ≡ q ∷ []
    left = filter-one _ q n (leb-true 1 q (and_parts _ _ is_one).0) (leb-true q n (and_parts _ _ is_one).1) (λ p. grind (contains-remove_is s q p, is_in, arith, nat_tests))

    nobody_joined : gone n (set.remove s q) s ≡ []
    nobody_joined = filter-none _ n (λ p low high. grind (contains-remove_is s q p, arith, nat_tests))

    pub changes-left : note.Trust 1 q ∷ [] ≡ changes 1 n s (set.remove s q)
    changes-left = sym (λ i. map (note.Suspect 1) (nobody_joined i) ++ map (note.Trust 1) (left i))

-- nobody both joins and leaves
pub length-changes : (layer n : ℕ) (old new : Processes) → length (map action.Note (changes layer n old new)) ≤ n
length-changes layer n old new =
    omega (
      arith,
      length-map (changes layer n old new) action.Note,
      length-append (map (note.Suspect layer) (gone n new old)) (map (note.Trust layer) (gone n old new)),
      length-map (gone n new old) (note.Suspect layer),
      length-map (gone n old new) (note.Trust layer),
      length-apart (λ q. set.contains new q && not (set.contains old q)) (λ q. set.contains old q && not (set.contains new q)) n (λ q h. grind (h, arith, nat_tests)),
    )
