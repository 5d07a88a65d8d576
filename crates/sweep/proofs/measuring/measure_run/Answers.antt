use Rattle.sweep.proofs.Words.{rules, IfOk-weaker}
use Rattle.sweep.proofs.measuring.measure_run.Goals as goal

pub returns : goal.returns
returns c =
    IfOk-weaker c.measure_scenario.result _ _
    (λ n told. record {
      trial = record { scenario = c.in-Ok.scenario; result = told.0 };
      is_trial = record { scenario = search rules; result = told.1 };
      numbers = told.2;
    })
    c.measure_scenario.ensures
