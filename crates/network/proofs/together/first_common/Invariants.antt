use Rattle.network.proofs.Basics.{◌≡◌, ◌+◌, ◌-◌, ◌&&◌, holds, find, range_with_len}
use Rattle.network.proofs.together.first_common.Given as goal

-- the first one is the first of the rest
abbrev pub invariant-loop-before : goal.invariant-loop-before
invariant-loop-before l = find (λ p. holds l.one p && holds l.other p) (range_with_len 1 l.most) ≡ find (λ p. holds l.one p && holds l.other p) (range_with_len (l.before + 1) (l.most - l.before))
