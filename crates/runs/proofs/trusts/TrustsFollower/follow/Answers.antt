use Rattle.runs.proofs.{Words.{◌≡◌, ◌∙◌, [], ap, sym, arith, vec_len, eqb-true, nil_from_length, EntryRecord}, Trusting.{quiet_counted}}
use Rattle.runs.proofs.trusts.TrustsFollower.follow.Goals as goal

pub returns-then-is_empty : goal.returns-then-is_empty
returns-then-is_empty c =
    let empty : vec_len c.entry.inside.notes ≡ 0 = eqb-true _ _ (sym c.is_empty.ensures ∙ c.if-is_empty.true) in
    let none : c.args.entry.now.notes ≡ [] = sym (ap (λ (e : EntryRecord). e.notes) c.entry.view_is) ∙ nil_from_length c.entry.inside.notes.items (omega (arith, empty, c.entry.inside.notes.ok.0)) in
    λ first told was n opened.
    let h = was n opened in
    record { processes = h.processes; counts = quiet_counted n told c.args.entry.now c.args.self.now.counts.items none h.counts }

pub returns : goal.returns
returns c = λ first told was n opened. c.feed.ensures n told (was n opened)
