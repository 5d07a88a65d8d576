use Rattle.consensus_s.proofs.{Words.{◌≡◌, ◌≤◌, ℕ, sym, subst, arith, on_ok_weaker, exchange_of, IsOrderly}, Settled.{steps, acts, stays_orderly, few_actions}}
use Rattle.std.specs.FinSet as set
use Rattle.consensus_s.proofs.exchange.Exchange.step.Goals as goal

own_is : (own number : ℕ) → number ≡ own → 1 ≤ number → 1 ≤ own
own_is own number e low = omega (arith, e, low)

pub returns-clause-state : goal.returns-clause-state
returns-clause-state c =
    let o = c.args.opening.now in
    on_ok_weaker c.end_wait.result
    (steps o.processes o.own (set.contains c.args.suspects.now) (own_is o.own c.number.result c.number.ensures.value c.number.ensures.low) o.one_of_them c.requires.not_itself c.args.input.now (exchange_of c.args.self.now) (exchange_of c.begin.new.self) c.requires.orderly c.in_ok-begin.ensures.state (exchange_of c.end_wait.new.self))
    c.end_wait.ensures.state

pub returns-clause-actions : goal.returns-clause-actions
returns-clause-actions c =
    let o = c.args.opening.now in
    on_ok_weaker c.end_wait.result
    (acts o.processes o.own (set.contains c.args.suspects.now) (own_is o.own c.number.result c.number.ensures.value c.number.ensures.low) o.one_of_them c.requires.not_itself c.args.input.now (exchange_of c.args.self.now) (exchange_of c.begin.new.self) c.requires.orderly c.in_ok-begin.ensures.state
    c.args.out.now.items c.begin.new.out.items c.end_wait.new.out.items c.in_ok-begin.ensures.actions)
    c.end_wait.ensures.actions

pub returns-clause-orderly : goal.returns-clause-orderly
returns-clause-orderly c =
    let o = c.args.opening.now in
    on_ok_weaker c.end_wait.result
    (λ e. subst (IsOrderly o.own) (sym e) (stays_orderly o.processes o.own (set.contains c.args.suspects.now) (own_is o.own c.number.result c.number.ensures.value c.number.ensures.low) o.one_of_them c.requires.not_itself c.args.input.now (exchange_of c.args.self.now) c.requires.orderly))
    (returns-clause-state c)

pub returns-clause-few : goal.returns-clause-few
returns-clause-few c =
    let o = c.args.opening.now in
    on_ok_weaker c.end_wait.result
    (λ e. few_actions o.processes o.own (set.contains c.args.suspects.now) (own_is o.own c.number.result c.number.ensures.value c.number.ensures.low) o.one_of_them c.requires.not_itself c.args.input.now (exchange_of c.args.self.now) c.requires.orderly)
    c.end_wait.ensures.state
