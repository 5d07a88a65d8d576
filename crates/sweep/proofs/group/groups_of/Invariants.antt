use Rattle.sweep.proofs.Words.{◌≡◌, map}
use Rattle.sweep.specs.declared.group.Group.TheVariants.{Said}
use Rattle.sweep.proofs.group.groups_of.Given as goal

abbrev pub invariant-loop-group : goal.invariant-loop-group
invariant-loop-group l =
    goal.iterator-loop-group.can_next l.group-iterator ×
    goal.iterator-loop-group.is_finite l.group-iterator ×
    (l.groups.items ≡ map Said l.yielded)
