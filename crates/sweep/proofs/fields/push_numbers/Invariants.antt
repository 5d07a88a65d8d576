use Rattle.sweep.proofs.Words.{◌≡◌, ◌++◌, map, take, fields_of, number_text}
use Rattle.sweep.proofs.fields.push_numbers.Given as goal

abbrev pub invariant-loop-number : goal.invariant-loop-number
invariant-loop-number l = fields_of l.fields ≡ fields_of l.initial.fields ++ map number_text (take l.number-index l.numbers)
