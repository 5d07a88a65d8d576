use Rattle.network.proofs.{Basics.{◌≡◌, ◌∙◌, ap, after, to_come}, Coming.{to_come-first, to_come-next}}
use Rattle.network.proofs.words.SourceWords.next.Goals as goal

pub returns-clause-value : goal.returns-clause-value
returns-clause-value c =
    let same : to_come c.self.inside.generator 0 ≡ to_come c.args.self.now 0 = cc in
    ap (λ p. p.0) c.next_word.ensures ∙ to_come-first c.self.inside.generator c.self.invariant ∙ same

pub returns-clause-rest : goal.returns-clause-rest
returns-clause-rest c =
    let same : after 1 (to_come c.self.inside.generator) ≡ after 1 (to_come c.args.self.now) = cc in
    to_come-next c.self.inside.generator c.next_word.new.self (ap (λ p. p.1) c.next_word.ensures) ∙ same
