-- The outcomes of all processes, one after the other.
use Rattle.drawing.proofs.Words.{◌≡◌, ◌<◌, ◌∙◌, ◌+◌, ℕ, suc, List, sym, ap, arith, flat_map, get_or, length, flat_map-map, Outcome, length-outcomes, outcomes-at, EntryRecord, numbers_to}
use Rattle.judges.specs.Outcomes.{outcome, outcomes}

module _ (trace : List EntryRecord) (n : ℕ) (xs : List Outcome) (are : xs ≡ outcomes trace n) where
  -- an item of them
  pub record IsTold (i : ℕ) (told : Outcome) : Type 0 where
    pub is : told ≡ outcome trace told.pid
    pub next : told.pid ≡ i + 1
    pub within : i < n

  pub told_at : (i : ℕ) (told : Outcome) → i < length xs → told ≡ get_or xs i told → IsTold i told
  told_at i told below is =
      let within : i < n = omega (arith, ap length are, length-outcomes trace n) in
      let same : told ≡ outcome trace (suc i) = is ∙ ap (λ xs. get_or xs i told) are ∙ outcomes-at trace n i told within in
      let own : told.pid ≡ suc i = ap (λ (o : Outcome). o.pid) same in
      record { is = same ∙ ap (outcome trace) (sym own); next = omega arith; within = within }

  -- what is drawn of each of them is drawn of each process
  pub all_told : {X : Type 0} (f : ℕ → List X) → flat_map (λ (o : Outcome). f o.pid) xs ≡ flat_map f (numbers_to n)
  all_told f = rw are (flat_map-map (λ (o : Outcome). f o.pid) (outcome trace) (numbers_to n))
