use Rattle.study_commands.proofs.Words.{◌≡◌, ◌+◌, ◌-◌, list_any, range_with_len, is_no_end}
use Rattle.study_commands.proofs.common_link.lacks_end.Given as goal

abbrev pub invariant-loop-to : goal.invariant-loop-to
invariant-loop-to l =
    list_any (is_no_end l.ends l.from) (range_with_len 1 l.processes)
    ≡ list_any (is_no_end l.ends l.from) (range_with_len l.to (l.processes + 1 - l.to))
