use Rattle.std.proofs.Common.{◌≡◌, false}
use Rattle.std.specs.List.{filter}
use Rattle.std.specs.FinSet as set
use Rattle.{process_api.specs.{Place.{numbers_to}, Sets.{insert_all}}, timeout_detector.specs.Inside.View.{is_overdue}}
use Rattle.timeout_detector.proofs.detector.TimeoutDetector.suspects_at.Given as goal

abbrev pub invariant-loop-before : goal.invariant-loop-before
invariant-loop-before l = record {
  value : l.suspects ≡ insert_all l.fn.self.suspects (filter (is_overdue l.fn.self l.fn.now) (numbers_to l.before));
  not_itself : set.contains l.suspects l.fn.self.opening.own ≡ false;
}
