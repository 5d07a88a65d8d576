use Rattle.mailboxes.proofs.{Words.{ap, sym, subst, arith, All, All-push}, Homes.{back_of, IsEmpty}}
use Rattle.mailboxes.proofs.mailboxes.Mailboxes.new.Goals as goal

pub loop-preserved : goal.loop-preserved
loop-preserved c = (
  omega (arith, c.in_ok-push.ensures.len, c.loop.invariant.0),
  subst (All IsEmpty) (sym c.in_ok-push.ensures.items) (All-push IsEmpty c.loop.inboxes.items _ c.loop.invariant.1 (ap back_of c.in_ok-mailbox.ensures)),
)

pub of_inboxes-requires : goal.of_inboxes-requires
of_inboxes-requires c = c.loop.invariant.1
