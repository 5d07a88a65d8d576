use Rattle.windows.proofs.{Words.{rules}, Refused.{last_of}}
use Rattle.windows.proofs.workers.all_works.Goals as goal

pub returns-in_err-push-clause-err : goal.returns-in_err-push-clause-err
returns-in_err-push-clause-err g c =
    last_of c.args.before c.args.mine (c.in_ok-works.works, c.in_ok-works.work, c.in_ok-works.ensures.ok.0, c.in_ok-works.ensures.ok.1) c.from_residual-in_err-push.result (search rules)
