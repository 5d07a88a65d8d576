use Rattle.std.proofs.Common.{ap, ◌∙◌}
use Rattle.std.specs.FinSet as set
use Rattle.process_api.proofs.Keeping.{without_itself}
use Rattle.reduction.proofs.gathering.Gathering.gathered.Goals as goal

pub returns-clause-not_itself : goal.returns-clause-not_itself
returns-clause-not_itself c =
    let own = c.args.self.now.opening.own in
    ap (λ s. set.contains s own) c.remove-2.ensures ∙ without_itself c.remove.new.self own
