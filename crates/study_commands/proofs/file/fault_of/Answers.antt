use Rattle.{study_commands.proofs.Words.{rules, Says, line_with}, diagnosis.specs.Text.{refused_text}}
use Rattle.study_commands.proofs.file.fault_of.Goals as goal

pub returns : goal.returns
returns c =
    let says : Says c.ok.result (line_with c.args.path.now (refused_text c.args.refused.now)) = search rules in
    λ bytes refuses. record { diagnosed = c.args.refused.now; refuses = refuses; says = says }
