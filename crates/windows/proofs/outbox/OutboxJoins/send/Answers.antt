use Rattle.windows.proofs.{Words.{◌∷◌, ◌++◌, ◌∙◌, [], ap, sym, map-append, on_ok_weaker, Letter, event_of, joined, filed}, Letters.{filed_more, other_more}}
use Rattle.windows.proofs.outbox.OutboxJoins.send.Goals as goal

pub returns-clause-grown : goal.returns-clause-grown
returns-clause-grown g c = on_ok_weaker c.put.result (λ more first before had.
    let letter : Letter = record { key = c.args.key; payload = c.args.payload.now } in
    let x = event_of letter in
    let other = other_more first.own before x (λ is. c.requires.other (is ∙ (sym had.own ∙ c.requires.sender.1.1.own_is))) in
    record {
      own = had.own;
      pending = had.pending ∙ sym (ap (joined first.pending.now) other.0);
      letters = (
        had.letters.0 ++ letter ∷ [],
        map-append event_of had.letters.0 (letter ∷ []) ∙ (ap (λ es. es ++ x ∷ []) had.letters.1 ∙ sym other.1),
        more ∙ ((λ i. filed (had.letters.2 i) (c.in_ok-new.ensures.letter i)) ∙ filed_more first.tray.now had.letters.0 (letter ∷ [])),
      );
    }) c.put.ensures.filed
