use Rattle.std.proofs.lemmas.List.{flat_map_more, take_more}
use Rattle.reporting.proofs.{Words.{◌≡◌, ◌+◌, ◌∷◌, ◌++◌, [], ◌∙◌, take, flat_map, ap, sym, subst, refl, append_assoc, IsPlain, note_text}, NoQuotes.{plain_both}}
use Rattle.reporting.proofs.notes.append_others.Goals as goal

pub loop-note-preserved : goal.loop-note-preserved
loop-note-preserved c =
    let notes = c.args.notes.now in
    let before = take c.loop-note.note-index notes in
    let note = c.note-item.result in
    let old = c.args.text.now.items in
    let more : take (c.loop-note.note-index + 1) notes ≡ before ++ note ∷ [] =
    take_more notes c.loop-note.note-index note c.loop-note-test.true ∙ ap (λ n. before ++ n ∷ []) (sym c.note-item.is) in
    let begun = old ++ flat_map (λ n. 32 ∷ note_text n) before in
    record {
      text = c.in_ok-append_note.ensures.text ∙ (ap (λ t. t ++ note_text note) (c.in_ok-push.ensures.items ∙ ap (λ t. t ++ 32 ∷ []) c.loop-note.invariant.text)
          ∙ (append_assoc begun (32 ∷ []) (note_text note) ∙ (flat_map_more (λ n. 32 ∷ note_text n) old before note ∙ ap (λ ns. old ++ flat_map (λ n. 32 ∷ note_text n) ns) (sym more))));
      plain = λ was. c.in_ok-append_note.ensures.plain (subst IsPlain (sym c.in_ok-push.ensures.items) (plain_both c.loop-note.text.items (32 ∷ []) (c.loop-note.invariant.plain was) refl));
    }
