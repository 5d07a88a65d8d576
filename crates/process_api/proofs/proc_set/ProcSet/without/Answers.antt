use Rattle.process_api.proofs.{Basics.{◌∙◌, is_set, most_processes}, Told.{members-difference}}
use Rattle.std.specs.FinSet as set
use Rattle.process_api.proofs.proc_set.ProcSet.without.Goals as goal

pub returns : goal.returns
returns c =
    members-difference most_processes (is_set c.self.inside.words) (is_set c.without.result) (is_set c.other.inside.words) c.without.ensures
    ∙ (λ i. set.difference (c.self.view_is i) (c.other.view_is i))
