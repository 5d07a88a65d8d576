use Rattle.study.specs.Sources.{sources_of}
use Rattle.study_commands.proofs.Swept.{breaks_of_run, sweep_leaves, sweep_why, swept}
use Rattle.study_commands.proofs.sweeping.serve_sweep.Goals as goal

pub fault_of-requires : goal.fault_of-requires
fault_of-requires g c =
    breaks_of_run c.in_ok-said.ensures.said g.O.Outlet.told g.O.Outlet.failed c.args.outlet.now c.run_study.new.outlet
    c.in-Err.error c.in-Err.ensures.breaks_off

pub returns-in-Ok-clause-text : goal.returns-in-Ok-clause-text
returns-in-Ok-clause-text g c =
    swept c.in_ok-said.ensures.said g.O.Outlet.told g.O.Outlet.failed c.args.outlet.now c.run_study.new.outlet
    c.in-Ok.ensures.done

pub returns-in-Ok-clause-told : goal.returns-in-Ok-clause-told
returns-in-Ok-clause-told g c = record {
  sources = sources_of c.in_ok-said.said.sources;
  grid = c.in_ok-said.said.grid;
  shard = c.in_ok-said.said.shard;
  layout = c.in_ok-said.said.layout;
  said = c.in_ok-said.ensures.said;
  begun = c.ready_over.new.watcher;
  told = c.in_ok-said.ensures.told;
  running = c.in-Ok.ensures.heard;
}

pub returns-clause-text : goal.returns-clause-text
returns-clause-text g c =
    sweep_leaves c.in_ok-said.ensures.said g.O.Outlet.told g.O.Outlet.failed c.args.outlet.now c.run_study.new.outlet
    c.in-Err.error c.fault_of.result c.in-Err.ensures.breaks_off c.fault_of.ensures

pub returns-clause-why : goal.returns-clause-why
returns-clause-why g c =
    sweep_why c.in_ok-said.ensures.said g.O.Outlet.told g.O.Outlet.failed c.args.outlet.now c.run_study.new.outlet
    c.in-Err.error c.fault_of.result c.in-Err.ensures.breaks_off c.fault_of.ensures
