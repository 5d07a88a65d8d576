use Rattle.study_commands.proofs.Words.{◌≡◌, false, map, take, warning_of, warning_line, HaveJoined}
use Rattle.study_commands.proofs.warn.warn_all.Given as goal

abbrev pub invariant-loop-warning : goal.invariant-loop-warning
invariant-loop-warning g l = record {
  told : HaveJoined g.W.Warned.warned l.fn.watcher l.watcher
      (map (warning_line l.grid l.of) (map warning_of (take l.warning-index l.warnings)));
  hidden : g.W.Watcher.shows l.fn.watcher ≡ false → g.W.Watcher.shows l.watcher ≡ false;
}
