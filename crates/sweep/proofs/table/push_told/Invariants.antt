use Rattle.sweep.proofs.Words.{◌≡◌, ◌++◌, map, take, fields_of, number_text, number_of}
use Rattle.sweep.proofs.table.push_told.Given as goal

abbrev pub invariant-loop-told : goal.invariant-loop-told
invariant-loop-told l =
    fields_of l.fields
    ≡ fields_of l.initial.fields ++ map number_text (map (number_of l.columns) (map (λ d. d.1) (take l.told-index l.part)))
