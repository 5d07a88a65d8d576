use Rattle.std.proofs.Common.{ap, ◌∙◌}
use Rattle.{scenario_record.specs.Record.{opening_mind}, machines.proofs.Making.{one_more}}
use Rattle.run_tests.proofs.window_tests.refused.boxed_machines.Goals as goal

pub loop-before-preserved : goal.loop-before-preserved
loop-before-preserved g c =
    let S = c.args.scenario.now in
    let opens = c.in_ok-boxed.ensures ∙ c.in_ok-open.ensures ∙ c.opening.ensures.mind ∙ ap (opening_mind S) c.after.ensures in
    one_more _ (opening_mind S) c.loop-before.machines.items c.push.new.self.items c.in_ok-boxed.field-0 c.loop-before.before
    c.in_ok-push.ensures.items c.loop-before.invariant opens
