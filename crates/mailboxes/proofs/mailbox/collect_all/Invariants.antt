use Rattle.mailboxes.proofs.Words.{◌≡◌, ◌++◌, List, Letter, OnOk, Holds, IsSegPassOf}
use Rattle.mailboxes.proofs.mailbox.collect_all.Given as goal

abbrev pub invariant-loop-pass : goal.invariant-loop-pass
invariant-loop-pass g l =
    IsSegPassOf l.queue l.pass × (l.pass.id ≡ l.fn.pass.id) × (l.pass.me.view.client ≡ l.fn.pass.me.view.client)
    × ((letters : List Letter) → Holds l.fn.queue l.fn.pass l.fn.batch letters → (given rest : List Letter)
    × (letters ≡ given ++ rest) × Holds l.queue l.pass l.batch rest
    × OnOk l.told ((first : g.row.T.Denot) (so_far : List Letter) → g.T.Collects.collected first l.fn.to so_far → g.T.Collects.collected first l.to (so_far ++ given)))

abbrev pub decreases-loop-pass : goal.decreases-loop-pass
decreases-loop-pass g l = l.batch.len
