use Rattle.process_api.proofs.{Basics.{◌∙◌, ap, nat_lt, ◌&&◌, is_set, most_processes, up_to}, Told.{members-up_to}}
use Rattle.process_api.proofs.proc_set.ProcSet.up_to.Goals as goal

pub returns : goal.returns
returns c =
    members-up_to most_processes (is_set c.self.inside.words) (is_set c.low.result) c.args.n
    (λ i below. c.low.ensures i below ∙ ap (λ m. is_set c.self.inside.words i && nat_lt i m) c.from.ensures)
    ∙ ap (up_to c.args.n) c.self.view_is
