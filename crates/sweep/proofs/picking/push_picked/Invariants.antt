use Rattle.sweep.proofs.Words.{◌≡◌, ◌++◌, take, fields_of, picked}
use Rattle.sweep.proofs.picking.push_picked.Given as goal

abbrev pub invariant-loop-place : goal.invariant-loop-place
invariant-loop-place l = fields_of l.fields ≡ fields_of l.initial.fields ++ picked (take l.place-index l.places) (fields_of l.all)
