use Rattle.consensus_s.proofs.Words.{◌≡◌, ◌++◌, ◌+◌, List, Option, [], ap, suc, sym, ℕ, ◌∙◌, cells_of}
use Rattle.std.proofs.{Common.{◌∷◌, add-one}, lemmas.List.{map-append}}
use Rattle.process_api.specs.Place.{numbers_to}
use Rattle.consensus_s.proofs.vectors.cells_by.Goals as goal

-- one cell more
one_more : (n : ℕ) (f : ℕ → Option ℕ) (old new : List (Option ℕ)) (value : Option ℕ) → old ≡ cells_of n f
    → value ≡ f (n + 1) → new ≡ old ++ value ∷ [] → new ≡ cells_of (n + 1) f
one_more n f old new value was is more =
    let last = is ∙ ap f (add-one n) in
    rw (add-one n) (more ∙ ((λ i. was i ++ last i ∷ []) ∙ sym (map-append f (numbers_to n) (suc n ∷ []))))

pub loop-before-preserved : goal.loop-before-preserved
loop-before-preserved g c =
    let was = c.loop-before in
    let value = c.cell.result in (
      was.invariant.0,
      λ f says.
          let is = says c.after.result value c.cell.ensures ∙ ap f c.after.ensures in
          one_more was.before f was.cells.items c.push.new.self.items value (was.invariant.1 f says) is c.in_ok-push.ensures.items,
    )
