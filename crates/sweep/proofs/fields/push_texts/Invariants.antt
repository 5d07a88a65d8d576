use Rattle.sweep.proofs.Words.{◌≡◌, ◌++◌, map, take, string_bytes, fields_of}
use Rattle.sweep.proofs.fields.push_texts.Given as goal

abbrev pub invariant-loop-text : goal.invariant-loop-text
invariant-loop-text l = fields_of l.fields ≡ fields_of l.initial.fields ++ map string_bytes (take l.text-index l.texts)
