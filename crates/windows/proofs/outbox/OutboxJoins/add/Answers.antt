use Rattle.windows.proofs.{Words.{◌∙◌, ap, sym, on_ok_weaker, joined, joined_one, for_self}, Letters.{own_more}}
use Rattle.std.specs.FinMap as events
use Rattle.windows.proofs.outbox.OutboxJoins.add.Goals as goal

pub returns-clause-grown : goal.returns-clause-grown
returns-clause-grown g c = on_ok_weaker c.join.result (λ more first before had.
    let x = c.args.event in
    let own = own_more first.own before x (sym c.requires.1.1.own_is ∙ had.own) in
    record {
      own = had.own;
      pending = more ∙ (ap (λ m. events.insert m x.0 x.1) had.pending ∙ sym (ap (joined first.pending.now) own.0 ∙ joined_one first.pending.now (for_self first.own before) x));
      letters = (had.letters.0, had.letters.1 ∙ sym own.1, had.letters.2);
    }) c.join.ensures
