use Rattle.process_api.proofs.{Basics.{◌∙◌, ap, nat_eq, nat_lt, ◌&&◌, all_to, is_set, most_processes}, Rows.{len_all}, Told.{members-up_to}}
use Rattle.std.specs.FinSet as set
use Rattle.process_api.proofs.proc_set.ProcSet.has_all.Goals as goal

pub returns : goal.returns
returns c =
    let words = c.self.inside.words in
    ap (nat_eq c.count.result) c.from-2.ensures
    ∙ (ap (λ k. nat_eq k c.args.n) (c.count.ensures ∙ ap set.len (members-up_to most_processes (is_set words) (is_set c.low.result) c.args.n
    (λ i below. c.low.ensures i below ∙ ap (λ m. is_set words i && nat_lt i m) c.from.ensures)))
    ∙ (len_all (is_set words) most_processes c.args.n
    ∙ ap (λ s. all_to c.args.n (set.contains s)) c.self.view_is))
