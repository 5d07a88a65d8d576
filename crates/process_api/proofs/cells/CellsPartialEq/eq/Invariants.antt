use Rattle.process_api.proofs.Basics.{◌≡◌, ◌==◌, ℕ, ◌<◌, None, true, get_or, option_eq}
use Rattle.process_api.proofs.cells.CellsPartialEq.eq.Given as goal

abbrev pub invariant-loop-place : goal.invariant-loop-place
invariant-loop-place l = (j : ℕ) → j < l.place → option_eq ◌==◌ (get_or l.fn.self j None) (get_or l.fn.other j None) ≡ true
