use Rattle.window_laws.specs.Inside.Alternation.{alternating, one_by_one}
use Rattle.run_tests.proofs.window_tests.orders.taking_turns.Goals as goal

pub returns-clause-list : goal.returns-clause-list
returns-clause-list c w is_world g stands letters next found left run =
    c.law_any_order.ensures.any_order w is_world g stands (alternating letters next) found left run

pub returns-clause-one_by_one : goal.returns-clause-one_by_one
returns-clause-one_by_one c w is_world g stands letters first second next next2 found left found2 left2 run run2 =
    c.law_any_order.ensures.alike w is_world g stands (alternating letters next) (one_by_one first second next2) found left found2 left2 run run2

pub returns-clause-list_order : goal.returns-clause-list_order
returns-clause-list_order c w is_world g stands history after run next from to none =
    let r = c.law_any_order.ensures.runs w is_world g stands history after run next from to none in
    (r.0, r.1, r.2, r.3, r.5, λ acts2 found2 left2 run2. c.law_any_order.ensures.alike w is_world g stands r.0 acts2 r.1 r.2 found2 left2 r.3 run2)
