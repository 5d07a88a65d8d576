use Rattle.mailboxes.proofs.Words.{subst, ap, HomeView, Account, Letter, IsPermutation}
use Rattle.mailboxes.proofs.mailbox.Mailbox.empty.Goals as goal

pub returns-clause-letters : goal.returns-clause-letters
returns-clause-letters g c =
    let a : Account Letter = c.drain.new.pass.me.view.client in
    (a.taken, subst (λ l. IsPermutation l a.taken) (ap (λ (h : HomeView). h.back) c.home.view_is) c.in_ok-drain.ensures.all, c.in_ok-drain.ensures.to)
