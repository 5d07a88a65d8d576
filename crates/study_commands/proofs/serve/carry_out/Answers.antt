use Rattle.study_commands.proofs.{Words.{rules, IfErr-weaker, on_ok_weaker}, Stopping.{no_sweep, stops_at_write, text_goes}}
use Rattle.study_commands.proofs.serve.carry_out.Goals as goal

pub text_of-requires : goal.text_of-requires
text_of-requires g c = let none = no_sweep c.args.order.now c.in_default.not-Sweep in search rules

pub returns-in-Sweep-clause-text : goal.returns-in-Sweep-clause-text
returns-in-Sweep-clause-text g c = rw c.in-Sweep.is c.serve_sweep.ensures.text

pub returns-in-Sweep-clause-why : goal.returns-in-Sweep-clause-why
returns-in-Sweep-clause-why g c = rw c.in-Sweep.is c.serve_sweep.ensures.why

pub returns-in_ok-text_of-in_default-clause-text : goal.returns-in_ok-text_of-in_default-clause-text
returns-in_ok-text_of-in_default-clause-text g c =
    let order = c.args.order.now in
    text_goes g.O.Outlet.told g.O.Outlet.failed _ _ (g.I.Read.remaining c.args.input.now) order
    (no_sweep order c.in_default.not-Sweep) c.put_bytes.result c.deref.result.now
    (rw c.deref.ensures.value c.in_ok-text_of-in_default.ensures.text) c.put_bytes.ensures.whole
    c.put_bytes.ensures.part

pub returns-in_ok-text_of-in_default-clause-why : goal.returns-in_ok-text_of-in_default-clause-why
returns-in_ok-text_of-in_default-clause-why g c =
    IfErr-weaker c.put_bytes.result _ _ (λ fault part. rw part.0 (stops_at_write _ c.args.order.now))
    c.put_bytes.ensures.part

pub returns-in-Sweep-clause-told : goal.returns-in-Sweep-clause-told
returns-in-Sweep-clause-told g c = rw c.in-Sweep.is c.serve_sweep.ensures.told

pub returns-in_ok-text_of-in_default-clause-told : goal.returns-in_ok-text_of-in_default-clause-told
returns-in_ok-text_of-in_default-clause-told g c =
    on_ok_weaker c.put_bytes.result (λ _. c.in_ok-text_of-in_default.ensures.told) c.put_bytes.ensures.whole
