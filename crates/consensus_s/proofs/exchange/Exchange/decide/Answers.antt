use Rattle.std.proofs.Common.{◌+◌}
use Rattle.consensus_s.proofs.exchange.Exchange.decide.Goals as goal

pub returns-clause-state : goal.returns-clause-state
returns-clause-state c = λ i. record {
  round = c.from.ensures i + 1;
  known = c.in_ok-common.ensures i;
  news = c.args.self.now.news;
  kept = c.leave.ensures i;
}
