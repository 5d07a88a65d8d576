use Rattle.study.proofs.Basics.{◌≡◌, map, drop, chosen, sources_of, set_all}
use Rattle.study.proofs.placed.set_choices.Given as goal

abbrev pub invariant-loop-choice : goal.invariant-loop-choice
invariant-loop-choice l =
    set_all (map chosen l.choices) (sources_of l.initial.sources) ≡ set_all (map chosen (drop l.choice-index l.choices))
    (sources_of l.sources)
