use Rattle.windows.proofs.Words.{◌∙◌, ◌++◌, ◌∷◌, [], ap, map, map-append, sym, subst, append_assoc, event_of, IsParted}
use Rattle.windows.proofs.agenda.PartedCollects.collect.Goals as goal

pub returns : goal.returns
returns c first so_far had end es parted =
    let before = es ++ map event_of so_far in
    let x = c.args.letter in
    let p = c.file.new.self in
    subst (λ l. IsParted end l p) (append_assoc es (map event_of so_far) (event_of x ∷ []) ∙ ap (λ r. es ++ r) (sym (map-append event_of so_far (x ∷ []))))
    (subst (λ f. IsParted end (before ++ f ∷ []) p) c.into_event.ensures (c.in_ok-file.ensures end before (had end es parted)))
