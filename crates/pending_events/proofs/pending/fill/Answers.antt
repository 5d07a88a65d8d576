use Rattle.pending_events.proofs.{Words.{◌∙◌, ◌+◌, ap, sym, subst, joined, IsParted}, Parted.{filled, filled_same, filled_some, lost}, Rows.{none_in}}
use Rattle.std.specs.FinMap as events
use Rattle.pending_events.proofs.pending.fill.Goals as goal

pub returns-in_err-fill-clause-parted : goal.returns-in_err-fill-clause-parted
returns-in_err-fill-clause-parted c =
    let row = c.replace-full.new.dest in
    subst (λ t. IsParted (t + 1) row c.take_first.new.self) (sym c.from.ensures)
    (lost c.requires.parted c.requires.none c.in-Some.ensures.calendar c.in-Some.ensures.taken row (none_in row (c.replace-full.ensures.after ∙ c.new.ensures)))

pub returns : goal.returns
returns c =
    let n = c.fill.new.self in
    let new = c.take_first.new.self in
    let t = c.in-Some.ensures.taken in
    let i = c.in-Some.ensures.calendar in
    let is = c.in_ok-fill.ensures.ok ∙ ap (joined events.empty) c.in_ok-bucket.ensures in
    let h = c.requires.parted in
    record {
      parted = subst (λ t. IsParted (t + 1) n new) (sym c.from.ensures) (filled h c.requires.none i t n is);
      same = filled_same h c.requires.none i t n is;
      left = λ empty. absurd (filled_some h c.requires.none i t n is empty);
    }
