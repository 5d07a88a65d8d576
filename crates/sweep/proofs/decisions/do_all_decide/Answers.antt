use Rattle.sweep.proofs.{Words.{ap, ◌∙◌, ◌==◌, count_by, has_decided}, Single.{all_counted}}
use Rattle.sweep.proofs.decisions.do_all_decide.Goals as goal

pub returns : goal.returns
returns c all sums =
    ap (λ n. n == c.args.sums.to_decide) sums.decided
    ∙ ap (λ n. count_by has_decided all == n) sums.to_decide
    ∙ all_counted has_decided all
