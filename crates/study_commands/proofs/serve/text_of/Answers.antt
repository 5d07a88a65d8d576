use Rattle.study_commands.proofs.serve.text_of.Goals as goal

pub returns-in-Show-clause-why : goal.returns-in-Show-clause-why
returns-in-Show-clause-why g c = rw c.in-Show.is c.serve_show.ensures.why
