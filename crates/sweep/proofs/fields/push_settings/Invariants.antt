use Rattle.sweep.proofs.Words.{◌≡◌, ◌++◌, map, take, fields_of, chosen, values}
use Rattle.sweep.proofs.fields.push_settings.Given as goal

abbrev pub invariant-loop-choice : goal.invariant-loop-choice
invariant-loop-choice l = fields_of l.fields ≡ fields_of l.initial.fields ++ values (map chosen (take l.choice-index l.settings))
