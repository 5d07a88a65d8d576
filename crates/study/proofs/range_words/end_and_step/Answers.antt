use Rattle.study.proofs.{Basics.{None, if◌then◌else◌, codes, sym, ap, lit<, split_parts}, Parts.{has_not}}
use Rattle.study.specs.Words.{after}
use Rattle.study.proofs.range_words.end_and_step.Goals as goal

pub returns-in-None-clause-step : goal.returns-in-None-clause-step
returns-in-None-clause-step c =
    sym (ap (λ b. if b then after 58 c.args.words.now else codes "1")
    (has_not 58 c.args.words.now (split_parts 58 c.args.words.now None c.in-None.ensures.cases (lit< tt))))
