use Rattle.shell.proofs.Basics.{flat_map, take, Wrote}
use Rattle.shell.proofs.writing.tell_pieces.Given as goal

-- the pieces so far went out
abbrev pub invariant-loop-piece : goal.invariant-loop-piece
invariant-loop-piece g l =
    Wrote g.O.Outlet.told g.O.Outlet.failed l.initial.outlet l.outlet (flat_map (λ p. p.now) (take l.piece-index l.pieces))
