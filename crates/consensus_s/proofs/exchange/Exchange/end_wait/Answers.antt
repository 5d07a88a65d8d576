use Rattle.consensus_s.proofs.{Words.{◌∙◌, ◌+◌, ap, sym, arith, lt-ltb, on_ok_weaker, enter, exchange_of}, Settled.{ends_round}}
use Rattle.std.specs.FinSet as set
use Rattle.consensus_s.proofs.exchange.Exchange.end_wait.Goals as goal

pub returns-in_ok-gather-clause-state : goal.returns-in_ok-gather-clause-state
returns-in_ok-gather-clause-state c =
    let o = c.args.opening.now in
    let s = exchange_of c.args.self.now in
    on_ok_weaker c.enter.result
    (λ e. e ∙ (ap (λ z. (enter o.processes o.own (s.round + 1) z).state) c.in_ok-gather.ensures
    ∙ ap (λ a. a.state) (sym (ends_round o.processes o.own (set.contains c.args.suspects.now) s (sym c.is_running.ensures ∙ c.if-not-is_running.false) (sym c.is_over.ensures ∙ c.if-not-is_over.false) (lt-ltb _ _ (omega (arith, c.from.ensures, c.if-self-from.true)))))))
    c.enter.ensures.state
