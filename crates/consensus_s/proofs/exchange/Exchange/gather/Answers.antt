use Rattle.consensus_s.proofs.exchange.Exchange.gather.Goals as goal

pub returns : goal.returns
returns c = λ i. record {
  round = c.args.self.now.round;
  known = c.in_ok-known.ensures i;
  news = c.in_ok-news.ensures i;
  kept = c.leave.ensures i;
}
