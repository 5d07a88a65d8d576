use Rattle.qos_report.proofs.Words.{trace_header, err_part}
use Rattle.qos_report.proofs.streaming.write_header.Goals as goal

pub returns-then-is_traced-clause-whole : goal.returns-then-is_traced-clause-whole
unfolding trace_header
returns-then-is_traced-clause-whole g c = rw c.if-is_traced.true c.write_text.ensures.whole

pub returns-then-is_traced-clause-part : goal.returns-then-is_traced-clause-part
unfolding trace_header
returns-then-is_traced-clause-part g c =
    err_part c.write_text.result c.write_text.ensures.part c.write_text.ensures.only (λ w. (c.if-is_traced.true, w))
