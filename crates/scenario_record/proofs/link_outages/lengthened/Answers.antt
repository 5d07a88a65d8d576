use Rattle.std.proofs.{Common.{get_or}, lemmas.List.{get_or_default}}
use Rattle.scenario_record.specs.declared.outage.Outage.{Outage}
use Rattle.scenario_record.proofs.Stretches.{none_lengthened, one_lengthened, all_lengthened}
use Rattle.scenario_record.proofs.link_outages.lengthened.Goals as goal

abbrev nothing : Outage
nothing = record { begin = 0; until = 0 }

pub loop-outage-init : goal.loop-outage-init
loop-outage-init c = rw c.in_ok-stretches.ensures.items (none_lengthened c.args.sorted.now)

pub loop-outage-preserved : goal.loop-outage-preserved
loop-outage-preserved c =
    let sorted = c.args.sorted.now in
    let i = c.loop-outage.outage-index in
    let outage = get_or sorted i nothing in
    let at = get_or_default sorted i nothing outage c.loop-outage-test.true in
    rw c.in_ok-push.ensures.items
    (one_lengthened sorted c.loop-outage.stretches.items i c.loop-outage.greatest c.requires c.loop-outage.invariant outage c.loop-outage-test.true at c.max-greatest.result c.max-greatest.ensures)

pub returns : goal.returns
returns c =
    all_lengthened c.args.sorted.now c.loop-outage.stretches.items c.loop-outage.outage-index c.loop-outage.greatest c.requires
    c.loop-outage.invariant c.loop-outage-test.false
