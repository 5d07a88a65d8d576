use Rattle.{std.proofs.Common.{ap, not}, std.specs.FinSet.{contains-empty}}
use Rattle.base_tests.proofs.exchange_tests.laws.waits_settle.Goals as goal

pub take_and_wake-taken-requires : goal.take_and_wake-taken-requires
take_and_wake-taken-requires g c = rw c.new.ensures (ap not (contains-empty _ _))
