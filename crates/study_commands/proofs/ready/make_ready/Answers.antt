use Rattle.study_commands.proofs.{Words.{refl, rules, sources_of, Memory}, Swept.{cant_of_run, if_err}}
use Rattle.sweep.specs.declared.error.SweepError.TheVariants as error
use Rattle.study_commands.proofs.ready.make_ready.Goals as goal

pub fault_of-requires : goal.fault_of-requires
fault_of-requires g c =
    let said = c.args.said.now in
    cant_of_run (sources_of said.sources) said.grid said.shard said.layout.groups c.in-Err.error c.in-Err.ensures.err

pub returns-in_ok-warn_of_study-in-Ok-clause-told : goal.returns-in_ok-warn_of_study-in-Ok-clause-told
returns-in_ok-warn_of_study-in-Ok-clause-told g c = record {
  read = c.check_study.new.watcher;
  reading = c.in-Ok.ensures.heard;
  told = c.in_ok-warn_of_study-in-Ok.ensures.told;
}

pub returns-in_err-warn_of_study-in-Ok-clause-why : goal.returns-in_err-warn_of_study-in-Ok-clause-why
returns-in_err-warn_of_study-in-Ok-clause-why g c =
    if_err c.from_residual.result _ Memory (search rules) (error.Memory, tt, refl)

pub returns-in-Err-clause-why : goal.returns-in-Err-clause-why
returns-in-Err-clause-why g c = (c.in-Err.error, c.in-Err.ensures.err, c.fault_of.ensures)
