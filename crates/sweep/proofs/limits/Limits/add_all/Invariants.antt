use Rattle.sweep.proofs.Words.{◌≡◌, ◌<◌, ◌+◌, length, runs, TellsOn, next_counted}
use Rattle.sweep.proofs.limits.Limits.add_all.Given as goal

abbrev pub invariant-loop-each : goal.invariant-loop-each
invariant-loop-each g l = record {
  run_low : l.self.run < length (runs l.grid);
  number : next_counted l.grid l.self ≡ next_counted l.grid l.initial.self + l.each-index;
  heard : TellsOn l.grid g.W.Watcher.heard l.initial.watcher l.watcher l.numbers l.initial.self l.self;
}
