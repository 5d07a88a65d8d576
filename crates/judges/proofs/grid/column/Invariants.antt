use Rattle.judges.proofs.Words.{◌≡◌, if◌then◌else◌, not, None, Some, all_below, suspected_from, trusted_from, latest_below, earliest_below, place, counts_as_correct}
use Rattle.judges.proofs.grid.column.Given as goal

abbrev pub invariant-loop-i : goal.invariant-loop-i
invariant-loop-i g l = record {
  suspected : l.suspected ≡ earliest_below (λ i. if counts_as_correct g.K.Gauge.passed g.K.Gauge.seen g.K.Gauge.fresh l.pairs i then suspected_from (place g.K.Gauge.passed g.K.Gauge.seen g.K.Gauge.fresh l.pairs i l.j) else None) l.i;
  trusted : l.trusted ≡ latest_below (λ i. if counts_as_correct g.K.Gauge.passed g.K.Gauge.seen g.K.Gauge.fresh l.pairs i then trusted_from (place g.K.Gauge.passed g.K.Gauge.seen g.K.Gauge.fresh l.pairs i l.j) else Some 0) l.i;
  right : l.right ≡ all_below (λ i. not (place g.K.Gauge.passed g.K.Gauge.seen g.K.Gauge.fresh l.pairs i l.j).mistaken) l.i;
}
