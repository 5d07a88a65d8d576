use Rattle.std.specs.FinSet.{contains-empty}
use Rattle.base_tests.proofs.coordinator_tests.laws.waits_settle.Goals as goal

pub open_and_take-opened-requires : goal.open_and_take-opened-requires
open_and_take-opened-requires g c = rw c.new-suspects.ensures (contains-empty _ _)
