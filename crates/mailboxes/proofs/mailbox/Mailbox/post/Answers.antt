use Rattle.mailboxes.proofs.Words.{◌≡◌, ap, arith, [], ◌∷◌, refl, Letter, Account, has_put, puts}
use Rattle.mailboxes.proofs.mailbox.Mailbox.post.Goals as goal

pub push_as-requires-clause-rule : goal.push_as-requires-clause-rule
push_as-requires-clause-rule g c =
    let one : c.ticket.inside.pass.me.view.client.parts ≡ 1 = ap (λ (a : Account Letter). a.parts) c.ticket.invariant.2 in
    λ n items views room b at. (has_put _ (c.args.letter ∷ []), puts _ _ (c.args.letter ∷ []) (λ none. omega arith) (ap (λ (a : Account Letter). a.told) c.ticket.invariant.2) items views b at, refl)
