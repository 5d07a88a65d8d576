use Rattle.deques.proofs.{Words.{subst, hand_at, TookOne}, Dealings.{hand_popped}}
use Rattle.deques.proofs.hand.Hand.take.Goals as goal

pub returns-in-Some : goal.returns-in-Some
returns-in-Some g c =
    let old = c.self.inside in
    subst (λ h. TookOne h (hand_at c.pop.new.self old.permits.items) c.in-Some.item) c.self.view_is
    (hand_popped old.owner c.pop.new.self old.permits.items c.in-Some.item c.self.invariant.2 c.self.invariant.3 c.in-Some.ensures)
