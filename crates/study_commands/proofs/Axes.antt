-- Axes, groups of pairs, assignments and processes of words, one after the other.
use Rattle.study_commands.proofs.Words.{◌≡◌, ℕ, ◌+◌, ◌<◌, List, [], ◌∷◌, ◌++◌, map, length, get_or, take, Bor, Some, map-append, take_more, AllZip, SaysAxis, process_said, SaysAssignment, Assignment, Axis, SaysGroup}
use Rattle.sweep.specs.declared.group.PairGroup.{PairGroup}

-- one more of both
zip_push : {A B : Type 0} (R : A → B → Type 0) (xs : List A) (ys : List B) (x : A) (y : B) → AllZip R xs ys → R x y
    → AllZip R (xs ++ x ∷ []) (ys ++ y ∷ [])
zip_push R [] [] x y z r = (r, tt)
zip_push R (a ∷ xs) (b ∷ ys) x y z r = (z.0, zip_push R xs ys x y z.1 r)
zip_push R _ _ x y z r = absurd z

module _ (words : List (Bor (List ℕ))) (i : ℕ) (d : Bor (List ℕ)) (within : i < length words) where
  pub one_more : (axes new : List Axis) (axis : Axis) → SaysAxis (get_or words i d).now axis → new ≡ axes ++ axis ∷ []
      → AllZip SaysAxis (map (λ w. w.now) (take i words)) axes
      → AllZip SaysAxis (map (λ w. w.now) (take (i + 1) words)) new
  one_more axes new axis says pushed so_far =
      rw (take_more words i d within, map-append, pushed) (zip_push SaysAxis _ axes _ axis so_far says)

  pub one_group_more : (groups new : List PairGroup) (group : PairGroup) → SaysGroup (get_or words i d).now group
      → new ≡ groups ++ group ∷ [] → AllZip SaysGroup (map (λ w. w.now) (take i words)) groups
      → AllZip SaysGroup (map (λ w. w.now) (take (i + 1) words)) new
  one_group_more groups new group says pushed so_far =
      rw (take_more words i d within, map-append, pushed) (zip_push SaysGroup _ groups _ group so_far says)

  pub one_set_more : (set new : List Assignment) (a : Assignment) → SaysAssignment (get_or words i d).now a
      → new ≡ set ++ a ∷ [] → AllZip SaysAssignment (map (λ w. w.now) (take i words)) set
      → AllZip SaysAssignment (map (λ w. w.now) (take (i + 1) words)) new
  one_set_more set new a says pushed so_far =
      rw (take_more words i d within, map-append, pushed) (zip_push SaysAssignment _ set _ a so_far says)

  -- one more of the processes that are said
  pub one_said : (said new : List ℕ) (process : ℕ) → process_said (get_or words i d).now ≡ Some process
      → new ≡ said ++ process ∷ [] → map process_said (map (λ w. w.now) (take i words)) ≡ map Some said
      → map process_said (map (λ w. w.now) (take (i + 1) words)) ≡ map Some new
  one_said said new process is pushed so_far =
      rw (take_more words i d within, pushed) (simp (map-append, so_far, is))
