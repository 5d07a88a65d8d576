use Rattle.judges.proofs.Words.{◌≡◌, ◌&&◌, if◌then◌else◌, not, None, Some, all_below, any_below, latest_below, earliest_below, row_suspected, column_suspected, row_trusted, column_trusted, row_right, column_right, counts_as_correct}
use Rattle.judges.proofs.grid.grid_verdicts.Given as goal

abbrev pub invariant-loop-i : goal.invariant-loop-i
invariant-loop-i g l = record {
  strong_completeness : l.told.strong_completeness ≡ latest_below (λ i. if counts_as_correct g.K.Gauge.passed g.K.Gauge.seen g.K.Gauge.fresh l.pairs i then row_suspected g.K.Gauge.passed g.K.Gauge.seen g.K.Gauge.fresh l.pairs i else Some 0) l.i;
  weak_completeness : l.told.weak_completeness ≡ latest_below (λ j. if not (counts_as_correct g.K.Gauge.passed g.K.Gauge.seen g.K.Gauge.fresh l.pairs j) then column_suspected g.K.Gauge.passed g.K.Gauge.seen g.K.Gauge.fresh l.pairs j else Some 0) l.i;
  strong_accuracy : l.told.strong_accuracy ≡ all_below (row_right g.K.Gauge.passed g.K.Gauge.seen g.K.Gauge.fresh l.pairs) l.i;
  weak_accuracy : l.told.weak_accuracy ≡ any_below (λ j. counts_as_correct g.K.Gauge.passed g.K.Gauge.seen g.K.Gauge.fresh l.pairs j && column_right g.K.Gauge.passed g.K.Gauge.seen g.K.Gauge.fresh l.pairs j) l.i;
  eventual_strong_accuracy : l.told.eventual_strong_accuracy ≡ latest_below (λ i. if counts_as_correct g.K.Gauge.passed g.K.Gauge.seen g.K.Gauge.fresh l.pairs i then row_trusted g.K.Gauge.passed g.K.Gauge.seen g.K.Gauge.fresh l.pairs i else Some 0) l.i;
  eventual_weak_accuracy : l.told.eventual_weak_accuracy ≡ earliest_below (λ j. if counts_as_correct g.K.Gauge.passed g.K.Gauge.seen g.K.Gauge.fresh l.pairs j then column_trusted g.K.Gauge.passed g.K.Gauge.seen g.K.Gauge.fresh l.pairs j else None) l.i;
}
