use Rattle.network.proofs.Basics.{◌≡◌, ◌+◌, ◌-◌, ◌&&◌, nat_lt, find, range_with_len}
use Rattle.std.specs.FinSet as set
use Rattle.network.proofs.above.first_above.Given as goal

-- the first one is the first of the rest
abbrev pub invariant-loop-before : goal.invariant-loop-before
invariant-loop-before l = find (λ p. nat_lt l.n p && set.contains l.members p) (range_with_len 1 l.most) ≡ find (λ p. nat_lt l.n p && set.contains l.members p) (range_with_len (l.before + 1) (l.most - l.before))
