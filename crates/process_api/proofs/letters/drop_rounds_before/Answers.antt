use Rattle.std.proofs.Common.{◌∙◌}
use Rattle.process_api.proofs.Dropping.{first_one_left, all_since_round, none_since_round, is_empty}
use Rattle.process_api.proofs.letters.drop_rounds_before.Goals as goal

pub loop-first-preserved-else-first-round : goal.loop-first-preserved-else-first-round
loop-first-preserved-else-first-round g c =
    let p = c.pop_first.ensures in
    first_one_left c.loop-first.kept c.pop_first.new.self c.args.round c.in-Some.first.now c.in-Some.field-0-1.now c.in-Some.ensures.first c.if-first-round.false c.pop_first.result p.removal p.updates p.unchanged
    ∙ c.loop-first.invariant

pub returns-then-first-round : goal.returns-then-first-round
returns-then-first-round g c = all_since_round c.loop-first.kept c.args.round c.in-Some.first.now c.if-first-round.true c.in-Some.ensures.least ∙ c.loop-first.invariant

pub returns-in_default : goal.returns-in_default
returns-in_default g c = none_since_round c.loop-first.kept c.args.round (is_empty c.loop-first.kept.entries c.in_default.ensures.variant.1) ∙ c.loop-first.invariant
