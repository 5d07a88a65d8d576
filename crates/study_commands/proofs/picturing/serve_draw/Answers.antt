use Rattle.study_commands.proofs.{Words.{rules, IfErr-weaker, IfOk-weaker, IsOfPicture}, Refusing.{picture_stops}}
use Rattle.study_commands.proofs.picturing.serve_draw.Goals as goal

pub returns-in-Ok-clause-text : goal.returns-in-Ok-clause-text
returns-in-Ok-clause-text g c =
    IfOk-weaker c.picture_of.result _ _
    (λ text shows. record {
      of = c.in_ok-of.of.items;
      are_named = c.in_ok-of.ensures.named;
      scenario = c.in_ok-scenario.scenario;
      is_scenario = c.in_ok-scenario.ensures.scenario;
      shows =
          rw (c.deref.ensures.value, c.unwrap_or-from.ensures, c.unwrap_or-until.ensures, c.horizon.ensures.value)
          at shows;
    }) c.picture_of.ensures.shows

pub returns-in-Ok-clause-refused : goal.returns-in-Ok-clause-refused
returns-in-Ok-clause-refused g c =
    IfErr-weaker c.picture_of.result _ _
    (λ fault is.
    picture_stops (g.I.Read.remaining c.args.input.now) c.args.texts.now c.args.words.now c.in_ok-scenario.scenario c.in_ok-of.of.items fault
    c.in_ok-scenario.ensures.scenario c.in_ok-of.ensures.named
    (rw (c.deref.ensures.value, c.unwrap_or-from.ensures, c.unwrap_or-until.ensures, c.horizon.ensures.value) at is))
    c.picture_of.ensures.refused

pub returns-clause-refused : goal.returns-clause-refused
returns-clause-refused g c =
    let of = c.in_ok-of.of.items in
    let s = c.in_ok-scenario.scenario in
    let is : IsOfPicture c.args.texts.now.path.now c.args.words.now.picture s of c.unwrap_or-from.result c.unwrap_or-until.result
    c.fault_of.result =
    search rules in
    picture_stops (g.I.Read.remaining c.args.input.now) c.args.texts.now c.args.words.now s of c.fault_of.result c.in_ok-scenario.ensures.scenario
    c.in_ok-of.ensures.named
    (rw (c.unwrap_or-from.ensures, c.unwrap_or-until.ensures, c.horizon.ensures.value) at is)
