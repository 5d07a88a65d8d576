use Rattle.steps.proofs.Words.{◌≡◌, ap, subst, sym, ◌∙◌, eqb-true}
use Rattle.steps.proofs.links.Links.post.Goals as goal

pub add-requires : goal.add-requires
add-requires g c =
    let was = c.requires.serves in
    let n = c.args.streams.now.processes in
    let own : c.args.to ≡ c.args.key.receiver = eqb-true c.args.to c.args.key.receiver (sym c.eq.ensures ∙ c.if-eq.true) in
    let is : c.in_ok-letter.field-0.0.receiver ≡ c.args.key.receiver = ap (λ e. e.0.receiver) c.in_ok-letter.ensures.event ∙ (ap (λ k. k.receiver) c.in-Some.ensures.due.0 ∙ own) in
    (n, (was.0, subst (λ p. g.J.Joins.serves was.0 c.args.added.now p n) (sym is) was.1))
