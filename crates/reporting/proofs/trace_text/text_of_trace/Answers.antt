use Rattle.reporting.proofs.{Words.{◌∙◌, [], Holds, trace_text}, Fed.{if_ok}, Followed.{text_same, text_told}}
use Rattle.reporting.proofs.trace_text.text_of_trace.Goals as goal

pub returns : goal.returns
returns c =
    let opened = c.in_ok-rows.rows in
    let now = c.follow_all.new.follower in
    let whole : Holds now (trace_text c.args.entries.now)
    = text_told opened now c.args.entries.now (c.in_ok-follow_all.ensures opened [] (text_same opened)) c.in_ok-rows.ensures in
    if_ok c.into_text.result (λ t is. is ∙ whole.is) c.into_text.ensures
