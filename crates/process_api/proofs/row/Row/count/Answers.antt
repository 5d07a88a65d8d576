use Rattle.process_api.proofs.{Basics.{◌≡◌, ◌∙◌, ap, arith, is_some, of_sender, count_to}, Rows.{counted, count_most}}
use Rattle.std.specs.FinSet as set
use Rattle.process_api.proofs.row.Row.count.Goals as goal

pub returns : goal.returns
returns g c = c.len.ensures ∙ (ap set.len c.up_to.ensures ∙ counted c.args.self.now.senders c.args.self.now.cells.items c.args.processes c.args.self.now.counted)

pub overflow_cast-result : goal.overflow_cast-result
overflow_cast-result g c =
    let n = c.args.processes in
    let is : c.len.result ≡ count_to n (λ q. is_some (of_sender c.args.self.now q)) = c.len.ensures ∙ (ap set.len c.up_to.ensures ∙ counted c.args.self.now.senders c.args.self.now.cells.items n c.args.self.now.counted) in
    omega (arith, is, count_most n (λ q. is_some (of_sender c.args.self.now q)))
