use Rattle.process_api.proofs.{Basics.{◌∙◌, sym, ap, is_some, count_to, in_row}, Rows.{none_counted}}
use Rattle.process_api.proofs.letters.Letters.count.Goals as goal

pub returns-in-None : goal.returns-in-None
returns-in-None g c =
    let n = c.args.membership.now.processes in
    sym (none_counted n) ∙ ap (λ o. count_to n (λ q. is_some (in_row o q))) c.in-None.ensures
