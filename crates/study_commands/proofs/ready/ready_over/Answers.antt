use Rattle.study_commands.proofs.{Words.{rules, IsBefore, StopsSweep}, Swept.{cant_stop}}
use Rattle.study_commands.proofs.ready.ready_over.Goals as goal

pub returns-in_err-make_ready-clause-why : goal.returns-in_err-make_ready-clause-why
returns-in_err-make_ready-clause-why g c =
    let f = c.in_err-make_ready.field-0.0 in
    let its = c.in_err-make_ready.ensures.why in
    let why : IsBefore (StopsSweep (g.I.Read.remaining c.args.input.now) c.args.texts.now c.args.study.now) f =
    cant_stop c.in_ok-said.ensures.said its.0 f its.1 its.2 in
    search rules
