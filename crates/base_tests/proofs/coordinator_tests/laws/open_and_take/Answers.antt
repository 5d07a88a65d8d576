use Rattle.std.proofs.{Common.{length, ap, sym, subst, arith}, lemmas.List.{length-append}}
use Rattle.std.specs.FinSet as set
use Rattle.process_api.specs.Coordinator.{Coordinator, step_coordinator}
use Rattle.consensus_es.specs.State.{IsOrderly, state_of}
use Rattle.base_tests.proofs.coordinator_tests.laws.open_and_take.Goals as goal

pub returns-clause-orderly : goal.returns-clause-orderly
returns-clause-orderly c =
    let m = c.args.membership.now in
    let orderly = IsOrderly m.processes m.own in
    let opened = subst orderly (sym c.open-progress.ensures) (c.law_settled.ensures.opens m.processes m.own 10) in
    let few = c.law_settled.ensures.little m.processes m.own m.from_one m.one_of_them (set.contains c.args.suspects.now) c.requires c.args.input.now (state_of c.open-progress.result) opened in
    subst orderly (sym c.in_ok-take.ensures.state) few.0

pub returns-clause-little : goal.returns-clause-little
returns-clause-little c =
    let m = c.args.membership.now in
    let opened = subst (IsOrderly m.processes m.own) (sym c.open-progress.ensures) (c.law_settled.ensures.opens m.processes m.own 10) in
    let few = c.law_settled.ensures.little m.processes m.own m.from_one m.one_of_them (set.contains c.args.suspects.now) c.requires c.args.input.now (state_of c.open-progress.result) opened in
    let actions = (step_coordinator m.processes m.own (set.contains c.args.suspects.now) c.args.input.now (state_of c.open-progress.result)).actions in
    omega (arith, ap length c.in_ok-take.ensures.actions, length-append c.args.out.now.items actions, few.1)

pub returns-clause-rounds : goal.returns-clause-rounds
returns-clause-rounds c =
    let m = c.args.membership.now in
    let opened = subst (IsOrderly m.processes m.own) (sym c.open-progress.ensures) (c.law_settled.ensures.opens m.processes m.own 10) in
    let few = c.law_settled.ensures.rounds m.processes m.own m.from_one m.one_of_them (set.contains c.args.suspects.now) c.requires c.args.input.now (state_of c.open-progress.result) opened in
    omega (arith, few, ap (λ (s : Coordinator). s.round) c.in_ok-take.ensures.state, ap (λ (s : Coordinator). s.round) c.open-progress.ensures)
