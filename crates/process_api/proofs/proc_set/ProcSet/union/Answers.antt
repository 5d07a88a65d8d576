use Rattle.process_api.proofs.{Basics.{◌∙◌, is_set, most_processes}, Told.{members-union}}
use Rattle.std.specs.FinSet as set
use Rattle.process_api.proofs.proc_set.ProcSet.union.Goals as goal

pub returns : goal.returns
returns c =
    members-union most_processes (is_set c.self.inside.words) (is_set c.either.result) (is_set c.other.inside.words) c.either.ensures
    ∙ (λ i. set.union (c.self.view_is i) (c.other.view_is i))
