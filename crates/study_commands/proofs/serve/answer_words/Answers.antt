use Rattle.study_commands.proofs.{Words.{map, inl, inr, refl, IfErr-weaker, on_ok_weaker, Answers, Leaves, Writes, end_of, AreAnswered, IsNoFault, States, for_help, for_order}, Stopping.{answered, telling_asked}}
use Rattle.study_commands.proofs.serve.answer_words.Goals as goal

pub returns-in-Ok-clause-text : goal.returns-in-Ok-clause-text
returns-in-Ok-clause-text g c =
    let input = g.I.Read.remaining c.args.input.now in
    let words = map (λ w. w.now) c.args.words.now in
    for_order _ _ _ _ end_of c.carry_out.result (States words) (AreAnswered words) (Answers input) (Writes input)
    (Leaves input) c.in-Ok.order c.in-Ok.ensures.stated c.carry_out.ensures.text

pub returns-in-Ok-clause-why : goal.returns-in-Ok-clause-why
returns-in-Ok-clause-why g c =
    IfErr-weaker c.carry_out.result _ _
    (λ fault is. inr (record { asked = c.in-Ok.order; stated = c.in-Ok.ensures.stated; why = is }))
    c.carry_out.ensures.why

pub returns-in-Err-clause-text : goal.returns-in-Err-clause-text
returns-in-Err-clause-text g c =
    let input = g.I.Read.remaining c.args.input.now in
    let words = map (λ w. w.now) c.args.words.now in
    for_help _ _ _ _ end_of c.tell.result (States words) (AreAnswered words) (Answers input) (Writes input)
    (Leaves input) (IsNoFault c.in-Err.error) (answered words c.in-Err.error c.in-Err.ensures.refused)
    c.tell.ensures.text

pub returns-in-Err-clause-why : goal.returns-in-Err-clause-why
returns-in-Err-clause-why g c =
    IfErr-weaker c.tell.result _ _
    (λ fault is. inl (record { reason = c.in-Err.error; explains = c.in-Err.ensures.refused; tells = is }))
    c.tell.ensures.why

pub returns-in-Ok-clause-told : goal.returns-in-Ok-clause-told
returns-in-Ok-clause-told g c =
    on_ok_weaker c.carry_out.result (λ told. inl (c.in-Ok.order, c.in-Ok.ensures.stated, told)) c.carry_out.ensures.told

pub returns-in-Err-clause-told : goal.returns-in-Err-clause-told
returns-in-Err-clause-told g c =
    on_ok_weaker c.tell.result (λ asks. inr (asks, refl))
    (telling_asked _ _ _ _ (map (λ w. w.now) c.args.words.now) c.tell.result c.in-Err.error c.in-Err.ensures.refused
    c.tell.ensures.text)
