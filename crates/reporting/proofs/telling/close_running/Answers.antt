use Rattle.reporting.proofs.{Words.{◌∙◌, Some, ap, sym, subst, false, IsWhere, there_where, found_text, report_text, AreLayers, IsTextWhere}, Fed.{found_is}}
use Rattle.reporting.proofs.telling.close_running.Goals as goal

pub returns-in_ok-report-in-Some : goal.returns-in_ok-report-in-Some
returns-in_ok-report-in-Some c = λ trace reported h small.
    let S = c.args.scenario.now in
    let some = there_where (AreLayers false S trace) reported c.in-Some.layers (subst (IsWhere reported (AreLayers false S trace)) c.in-Some.is h.1) in
    let told = c.in_ok-found-in-Some.ensures.found false S trace (h.0, some.1) small in
    record {
      summary = told.summary;
      report = subst (λ b. IsTextWhere b (report_text S trace) (Some c.in_ok-report-in-Some.report)) (sym some.0)
          (c.in_ok-report-in-Some.ensures ∙ ap (λ algorithm. found_text algorithm c.in_ok-found-in-Some.found) c.algorithm.ensures ∙ found_is S trace c.in_ok-found-in-Some.found told);
    }
