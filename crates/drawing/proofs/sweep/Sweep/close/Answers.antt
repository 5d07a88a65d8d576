use Rattle.drawing.proofs.{Words.{◌∙◌, sym, ap, false, passed_by, Sweep}, Sweeping.{closed}, sweep.Sweep.close.Goals.{in-Some+in_ok-push, in_default}}
use Rattle.drawing.proofs.sweep.Sweep.close.Goals as goal

pub returns : goal.returns
returns c test from h l =
    let e = closed test from c.args.until c.args.self c.pass.new.self c.in_ok-pass.ensures h l in
    elim c.match-self.branch [
      | in-Some+in_ok-push w ↦
          ap (λ (s : Sweep). s.ended.items) w.self-is ∙ w.in_ok-push.ensures.items
          ∙ sym (ap (λ r. (passed_by c.args.until false c.pass.new.self.ended.items r).ended) w.in-Some.is) ∙ e
      | in_default w ↦
          ap (λ (s : Sweep). s.ended.items) w.self-is
          ∙ sym (ap (λ r. (passed_by c.args.until false c.pass.new.self.ended.items r).ended) w.in_default.is) ∙ e
    ]
