use Rattle.freshness_detector.proofs.Words.{◌≡◌, numbers_to, insert_all, is_stale_at}
use Rattle.std.specs.List.{filter}
use Rattle.std.specs.FinSet as set
use Rattle.freshness_detector.proofs.detector.FreshnessDetector.suspects_at.Given as goal

abbrev pub invariant-loop-before : goal.invariant-loop-before
invariant-loop-before l = l.suspects ≡ insert_all set.empty (filter (is_stale_at l.fn.self l.fn.point) (numbers_to l.before))
