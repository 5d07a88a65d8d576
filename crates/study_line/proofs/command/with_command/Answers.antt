use Rattle.study_line.proofs.Basics.{◌≡◌, ◌∙◌, ◌||◌, ap, IfOk-at_ok, IfOk-weaker, app_of, with_subcommand, IsLocal}
use Rattle.clap.specs.declared.builder.command.Command.TheViews.{out-Command}
use Rattle.study_line.proofs.command.with_command.Goals as goal

pub returns : goal.returns
returns c app sub made added =
    let old = IfOk-at_ok (λ m. (app_of m ≡ app) × IsLocal m) c.in_ok-command.was made in
    let new = IfOk-at_ok (λ m. (app_of m ≡ sub) × IsLocal m) c.in_ok-added.was added in
    IfOk-weaker c.subcommand.result _ _ (λ r adds. (
      adds.shape new.1 ∙ ap (λ a. with_subcommand a (app_of c.in_ok-added.added).top) old.0
          ∙ ap (λ a. with_subcommand app a.top) new.0,
      adds.globals ∙ ap (λ b. b || (out-Command c.in_ok-added.added).has_globals) old.1 ∙ new.1,
    ))
    c.subcommand.ensures
