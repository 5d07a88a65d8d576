use Rattle.sweep.proofs.Words.{◌≡◌, [], take, filter_map, decided_value}
use Rattle.sweep.proofs.decisions.do_disagree.Given as goal

abbrev pub invariant-loop-one : goal.invariant-loop-one
invariant-loop-one l = filter_map (λ o. decided_value o.value) (take l.one-index l.outcomes) ≡ []
