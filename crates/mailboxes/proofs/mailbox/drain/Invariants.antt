use Rattle.mailboxes.proofs.Words.{◌≡◌, ◌≢◌, ◌++◌, List, Letter, has_taken, IsSegPassOf}
use Rattle.mailboxes.proofs.mailbox.drain.Given as goal

abbrev pub invariant-loop : goal.invariant-loop
invariant-loop g l = IsSegPassOf l.queue l.pass × (l.pass.id ≡ 0) × (l.pass.me.view.client.parts ≡ l.pass.me.view.client.made) × (l.pass.me.view.client.parts ≢ 0) × (l.pass.me.view.client.put ≡ l.fn.pass.me.view.client.put) × (l.pass.me.view.client ≡ has_taken l.fn.pass.me.view.client l.pass.me.view.client.taken)
    × ((first : g.row.T.Denot) (so_far : List Letter) → g.T.Collects.collected first l.fn.to so_far → g.T.Collects.collected first l.to (so_far ++ l.pass.me.view.client.taken))
