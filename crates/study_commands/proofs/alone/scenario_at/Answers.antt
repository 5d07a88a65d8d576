use Rattle.study_commands.proofs.{Words.{◌≡◌, ◌∙◌, sym, true, IfOk-weaker, is_alone}, Standing.{own_scenario}}
use Rattle.study_commands.proofs.alone.scenario_at.Goals as goal

pub returns-then-is_alone-clause-scenario : goal.returns-then-is_alone-clause-scenario
returns-then-is_alone-clause-scenario g c =
    let texts = c.args.texts.now in
    let alone : is_alone texts ≡ true = sym c.is_alone.ensures ∙ c.if-is_alone.true in
    IfOk-weaker c.own_scenario_at.result _ _
    (λ s own. own_scenario (g.I.Read.remaining c.args.input.now) texts s alone own) c.own_scenario_at.ensures.scenario
