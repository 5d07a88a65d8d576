use Rattle.mailboxes.proofs.Words.{◌∙◌, ap, sym, Letter, Account, settles, merges}
use Rattle.mailboxes.proofs.mailbox.settle.Goals as goal

pub another-other-requires-clause-rule : goal.another-other-requires-clause-rule
another-other-requires-clause-rule c = settles _ _ c.requires.pass.1 c.requires.some c.requires.all c.requires.told c.requires.same

pub absorb-requires-clause-rule : goal.absorb-requires-clause-rule
absorb-requires-clause-rule c =
    let e = c.another-other.ensures in
    merges _ _ _ _ (e.queue.1 ∙ c.requires.pass.1) (λ none. c.requires.some (sym (ap (λ (a : Account Letter). a.parts) e.rule.0) ∙ none))
