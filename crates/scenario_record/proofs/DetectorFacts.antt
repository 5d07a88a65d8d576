-- A detector that opens with numbers in their ranges has pauses of at least 1.
use Rattle.std.proofs.Common.{◌≡◌, ℕ, ◌≤◌, true, nat_le, arith}
use Rattle.std.specs.Prelude.{IsTrue}
use Rattle.process_api.specs.{Detector.{opening_detector, has_pauses}, declared.numbers.DetectorNumbers.{DetectorNumbers}}
use Rattle.process_api.specs.declared.numbers.DetectorNumbers.TheVariants as numbers
use Rattle.{process_api.proofs.Minds.{and_true}, scenario_record.specs.Ranges.{AreInRange}}

at_least_one : (n : ℕ) → 1 ≤ n → nat_le 1 n ≡ true
at_least_one n h = grind arith

pub opens_paced : (its : DetectorNumbers) → AreInRange its → IsTrue (has_pauses (opening_detector its))
opens_paced (numbers.Timeout its) are = and_true _ _ (at_least_one its.period are.period_low) (at_least_one its.check are.check_low)
opens_paced (numbers.Freshness its) are = at_least_one its.eta are.eta_low
