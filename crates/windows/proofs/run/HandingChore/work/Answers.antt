use Rattle.windows.proofs.{Words.{◌≡◌, [], ◌∙◌, map, sym, ap, subst, Vec, OnOk, OnErr, AreParts, TookAllBut, TookFrontOf}, Waiting.{no_parts}}
use Rattle.windows.proofs.run.HandingChore.work.Goals as goal

pub returns-clause-done : goal.returns-clause-done
returns-clause-done g c =
    let same : c.replace-parts.result.items ≡ c.args.self.now.left.parts.items = ap (λ (v : Vec _). v.items) c.replace-parts.ensures.value in
    let none : c.replace-parts.new.dest.items ≡ [] = ap (λ (v : Vec _). v.items) c.replace-parts.ensures.after ∙ c.new.ensures.items in
    let told = c.hand_on-self in
    record {
      waiting = subst AreParts (sym none) no_parts;
      took_all = subst (λ l. OnOk told.result (TookAllBut g.K.Sink.took c.args.self.now.left.parts.items (map (λ part. part.items) l) c.args.self.now.sink.now told.new.sink)) (sym none)
          (subst (λ l. OnOk told.result (TookAllBut g.K.Sink.took l [] c.args.self.now.sink.now told.new.sink)) same told.ensures.took);
      front = subst (λ l. OnErr told.result (TookFrontOf g.K.Sink.took g.K.Sink.took_front l c.args.self.now.sink.now told.new.sink)) same told.ensures.front;
      errors = told.ensures.errors;
      count = told.ensures.count;
    }
