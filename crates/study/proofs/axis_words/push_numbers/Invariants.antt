use Rattle.study.proofs.{Basics.{◌≡◌, ◌++◌, map, settings_in, range_of}, Pieces.{numbered}}
use Rattle.study.proofs.axis_words.push_numbers.Given as goal

abbrev pub invariant-loop-step : goal.invariant-loop-step
invariant-loop-step l =
    map settings_in l.values.items ≡ map settings_in l.initial.values.items ++ numbered (range_of l.range) l.step
