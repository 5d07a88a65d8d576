use Rattle.std.proofs.Common.{◌∙◌, sym}
use Rattle.command_tests.proofs.judged.run_twice.Goals as goal

-- each is the one trace
pub returns : goal.returns
returns g c =
    c.law_only_history.ensures.trace.1.1 _ c.trace_of-first.ensures
    ∙ sym (c.law_only_history.ensures.trace.1.1 _ c.trace_of-second.ensures)
