use Rattle.study_commands.proofs.Words.{◌≡◌, ◌+◌, ◌-◌, list_any, range_with_len, sends_by_link}
use Rattle.study_commands.proofs.common_link.do_any_send.Given as goal

abbrev pub invariant-loop-from : goal.invariant-loop-from
invariant-loop-from l =
    list_any (sends_by_link l.pairs l.processes) (range_with_len 1 l.processes)
    ≡ list_any (sends_by_link l.pairs l.processes) (range_with_len l.from (l.processes + 1 - l.from))
