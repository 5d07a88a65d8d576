use Rattle.study_commands.proofs.{Words.{◌≡◌, ◌∙◌, sym, true, IfOk-weaker, on_ok_weaker, sources_of, is_alone}, Standing.{own_scenario}}
use Rattle.study_commands.proofs.checking.serve_check.Goals as goal

pub returns-then-is_alone-clause-text : goal.returns-then-is_alone-clause-text
returns-then-is_alone-clause-text g c =
    let texts = c.args.texts.now in
    let alone : is_alone texts ≡ true = sym c.is_alone.ensures ∙ c.if-is_alone.true in
    IfOk-weaker c.check_own.result _ _
    (λ text told. record {
      scenario = told.0;
      is_scenario = own_scenario (g.I.Read.remaining c.args.input.now) texts told.0 alone told.1;
      tells = told.2;
    }) c.check_own.ensures.text

pub returns-then-is_alone-clause-told : goal.returns-then-is_alone-clause-told
returns-then-is_alone-clause-told g c =
    let texts = c.args.texts.now in
    let alone : is_alone texts ≡ true = sym c.is_alone.ensures ∙ c.if-is_alone.true in
    on_ok_weaker c.check_own.result (λ told. record {
      scenario = told.0;
      is_scenario = own_scenario (g.I.Read.remaining c.args.input.now) texts told.0 alone told.1;
      told = told.2;
    }) c.check_own.ensures.told

pub returns-clause-told : goal.returns-clause-told
returns-clause-told g c =
    on_ok_weaker c.check_sources.result (λ told. record {
      scenario = told.0;
      is_scenario = record {
        sources = sources_of c.in_ok-sources.sources;
        are_sources = c.in_ok-sources.ensures.sources;
        is_of = told.1;
      };
      told = told.2;
    }) c.check_sources.ensures.told
