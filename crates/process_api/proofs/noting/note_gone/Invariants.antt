use Rattle.process_api.proofs.Basics.{◌≡◌, ◌++◌, map, gone, note_of}
use Rattle.process_api.specs.declared.action.Action.TheVariants as action
use Rattle.process_api.proofs.noting.note_gone.Given as goal

-- what is noted, with what the rest brings, is what all bring
abbrev pub invariant-loop-who : goal.invariant-loop-who
invariant-loop-who l =
    let kind = note_of l.begins l.layer in
    l.out.items ++ map action.Note (map kind l.who-iterator) ≡ l.fn.out.items ++ map action.Note (map kind (gone l.processes l.from l.to))
