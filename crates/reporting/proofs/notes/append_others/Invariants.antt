use Rattle.reporting.proofs.Words.{◌≡◌, ◌∷◌, ◌++◌, take, flat_map, IsPlain, note_text}
use Rattle.reporting.proofs.notes.append_others.Given as goal

abbrev pub invariant-loop-note : goal.invariant-loop-note
invariant-loop-note l = record {
  text : l.text.items ≡ l.initial.text.items ++ flat_map (λ n. 32 ∷ note_text n) (take l.note-index l.notes);
  plain : IsPlain l.initial.text.items → IsPlain l.text.items;
}
