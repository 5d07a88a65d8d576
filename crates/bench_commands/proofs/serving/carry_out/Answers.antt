use Rattle.bench_commands.proofs.Words.{inr, IfErr-weaker, Answers, AnswersOver, Leaves, LeavesOver, Writes, WritesOver, end_of, goes_as}
use Rattle.bench_commands.proofs.serving.carry_out.Goals as goal

pub returns-clause-text : goal.returns-clause-text
returns-clause-text g c =
    let input = g.I.Read.remaining c.args.input.now in
    let order = c.args.order.now in
    let s = c.in_ok-scenario.scenario in
    let stands = rw c.path_in.ensures at c.in_ok-scenario.ensures.stands in
    goes_as _ _ _ _ (AnswersOver s order) (Answers input order) (WritesOver s order) (Writes input order) (LeavesOver s order) (Leaves input order)
    (λ piece is. (s, stands, is)) (λ piece is. (s, stands, is)) (λ piece is. (s, stands, is)) end_of c.answer.result c.answer.ensures.text

pub returns-clause-why : goal.returns-clause-why
returns-clause-why g c =
    let stands = rw c.path_in.ensures at c.in_ok-scenario.ensures.stands in
    IfErr-weaker c.answer.result _ _ (λ fault is. inr (c.in_ok-scenario.scenario, stands, is)) c.answer.ensures.why
