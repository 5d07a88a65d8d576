use Rattle.process_api.proofs.Basics.{◌≡◌, ◌-◌, length, cell_of}
use Rattle.process_api.proofs.row.widen.Given as goal

abbrev pub invariant-wide : goal.invariant-wide
invariant-wide g l = cell_of l.cells.items ≡ cell_of l.fn.cells.items

abbrev pub decreases-wide : goal.decreases-wide
decreases-wide g l = l.places - length l.cells.items
