use Rattle.study_commands.proofs.{Words.{subst, ℕ, List, IsOfBytes}, Reasons.{bytes_file}}
use Rattle.study_commands.proofs.file.own_scenario_at.Goals as goal

pub returns-clause-why : goal.returns-clause-why
returns-clause-why g c =
    let Q : List ℕ → Type 0 = λ b. IsOfBytes c.args.path.now b c.refusal_of.result in
    bytes_file (g.I.Read.remaining c.args.input.now) c.args.path.now _ c.refusal_of.result c.in_ok-bytes.ensures.bytes
    (subst Q c.deref-in-Err.ensures.value c.refusal_of.ensures)
