use Rattle.consensus_es.proofs.Words.{◌∙◌, sym, ap, unwrap_or, false, count_to, in_row}
use Rattle.process_api.proofs.Rows.{none_counted}
use Rattle.consensus_es.proofs.progress.count_acks.Goals as goal

pub returns-in_default : goal.returns-in_default
returns-in_default c =
    let n = c.args.membership.now.processes in
    sym (none_counted n) ∙ ap (λ o. count_to n (λ q. unwrap_or (in_row o q) false)) c.in_default.ensures
