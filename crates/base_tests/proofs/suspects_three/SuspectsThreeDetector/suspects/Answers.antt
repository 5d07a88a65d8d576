use Rattle.std.proofs.Common.{◌∙◌, nat_cmp}
use Rattle.std.specs.Cmp.{nat_cmp_total}
use Rattle.std.specs.FinSet as set
use Rattle.base_tests.proofs.suspects_three.SuspectsThreeDetector.suspects.Goals as goal

pub returns-clause-not_itself : goal.returns-clause-not_itself
returns-clause-not_itself c = set.contains-insert nat_cmp_total set.empty 3 1 ∙ set.contains-empty nat_cmp 1
