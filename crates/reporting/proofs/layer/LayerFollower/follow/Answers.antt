use Rattle.reporting.proofs.{Words.{◌≡◌, ◌∙◌, [], ap, sym, arith, vec_len, eqb-true, nil_from_length, EntryRecord, pairs_quiet, IsLayer, counted, new_tally}, Listing.{follows_quiet}, Fed.{on_ok}}
use Rattle.judges.proofs.Following.{next_followed}
use Rattle.reporting.proofs.layer.LayerFollower.follow.Goals as goal

pub returns-then-is_empty : goal.returns-then-is_empty
returns-then-is_empty c =
    let l = c.args.self.now in
    let entry = c.args.entry.now in
    let empty : vec_len c.entry.inside.notes ≡ 0 = eqb-true _ _ (sym c.is_empty.ensures ∙ c.if-is_empty.true) in
    let none : entry.notes ≡ [] = sym (ap (λ (e : EntryRecord). e.notes) c.entry.view_is) ∙ nil_from_length c.entry.inside.notes.items (omega (arith, empty, c.entry.inside.notes.ok.0)) in
    λ first told was listed.
    next_followed (IsLayer listed) l l entry (λ S layer trace h until. record {
      metering = pairs_quiet counted S layer new_tally trace entry l.pairs h.metering until none;
      lengths = λ on. follows_quiet S layer trace l.lengths (h.lengths on) entry none;
    }) first told (was listed)

pub returns : goal.returns
returns c =
    on_ok c.follow.result
    (λ follows first told was listed.
    next_followed (IsLayer listed) c.args.self.now _ c.args.entry.now (λ S layer trace h until.
    let metering = c.feed.ensures S layer new_tally trace h.metering until in
    record { metering = metering; lengths = λ on. follows S layer trace (h.lengths on) metering })
    first told (was listed))
    c.follow.ensures
