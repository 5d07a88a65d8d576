use Rattle.judges.proofs.Words.{◌≡◌, if◌then◌else◌, not, Some, all_below, suspected_from, trusted_from, latest_below, place, counts_as_correct}
use Rattle.judges.proofs.grid.row.Given as goal

abbrev pub invariant-loop-j : goal.invariant-loop-j
invariant-loop-j g l = record {
  suspected : l.suspected ≡ latest_below (λ j. if not (counts_as_correct g.K.Gauge.passed g.K.Gauge.seen g.K.Gauge.fresh l.pairs j) then suspected_from (place g.K.Gauge.passed g.K.Gauge.seen g.K.Gauge.fresh l.pairs l.i j) else Some 0) l.j;
  trusted : l.trusted ≡ latest_below (λ j. if counts_as_correct g.K.Gauge.passed g.K.Gauge.seen g.K.Gauge.fresh l.pairs j then trusted_from (place g.K.Gauge.passed g.K.Gauge.seen g.K.Gauge.fresh l.pairs l.i j) else Some 0) l.j;
  right : l.right ≡ all_below (λ j. not (place g.K.Gauge.passed g.K.Gauge.seen g.K.Gauge.fresh l.pairs l.i j).mistaken) l.j;
}
