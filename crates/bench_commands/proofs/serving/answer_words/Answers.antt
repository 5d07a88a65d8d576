use Rattle.bench_commands.proofs.{Words.{map, AsksHelp, States, Answers, Leaves, Writes, end_of, IsHelp, for_help, for_order}, Stopping.{answered}}
use Rattle.bench_commands.proofs.serving.answer_words.Goals as goal

pub returns-in-Ok-clause-text : goal.returns-in-Ok-clause-text
returns-in-Ok-clause-text g c =
    let input = g.I.Read.remaining c.args.input.now in
    let words = map (λ w. w.now) c.args.words.now in
    for_order _ _ _ _ end_of c.carry_out.result (States words) (λ _. AsksHelp words) (Answers input) (Writes input)
    (Leaves input) c.in-Ok.order c.in-Ok.ensures.stated c.carry_out.ensures.text

pub returns-in-Err-clause-text : goal.returns-in-Err-clause-text
returns-in-Err-clause-text g c =
    let input = g.I.Read.remaining c.args.input.now in
    let words = map (λ w. w.now) c.args.words.now in
    for_help _ _ _ _ end_of c.tell.result (States words) (λ _. AsksHelp words) (Answers input) (Writes input)
    (Leaves input) (λ _. IsHelp c.in-Err.error) (λ _. answered words c.in-Err.error c.in-Err.ensures.refused)
    c.tell.ensures.text
