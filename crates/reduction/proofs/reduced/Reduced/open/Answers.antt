use Rattle.std.proofs.Common.{ap, ◌∙◌, nat_cmp}
use Rattle.std.specs.FinSet as set
use Rattle.reduction.proofs.reduced.Reduced.open.Goals as goal

pub invariant_of-result : goal.invariant_of-result
invariant_of-result g c = record {
  paced = (c.args.opening.now.shares _ c.in-Some.is).0;
  not_itself = ap (λ s. set.contains s c.args.opening.now.own) c.new.ensures ∙ set.contains-empty nat_cmp c.args.opening.now.own;
}
