use Rattle.std.proofs.Common.{◌≡◌, arith}
use Rattle.judges.proofs.grid.row.Goals as goal

pub returns-clause-trusted : goal.returns-clause-trusted
returns-clause-trusted g c = let all : c.loop-j.j ≡ c.args.pairs.now.processes = omega arith in rw all at c.loop-j.invariant.trusted
