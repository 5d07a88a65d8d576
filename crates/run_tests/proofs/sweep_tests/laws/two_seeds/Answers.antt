use Rattle.run_tests.proofs.Words.{ap, sym, ◌∙◌, RunRecord, run_of}
use Rattle.run_tests.proofs.sweep_tests.laws.two_seeds.Goals as goal

pub returns : goal.returns
returns c same =
    let seed : RunRecord → _ = λ r. r.seed in
    c.law_deals.ensures.seeds c.requires.alone c.args.one c.args.other (run_of c.in_ok-first.first) (run_of c.in_ok-second.second) c.requires.one c.requires.other
    (ap seed (sym c.in_ok-first.ensures) ∙ same ∙ ap seed c.in_ok-second.ensures)
