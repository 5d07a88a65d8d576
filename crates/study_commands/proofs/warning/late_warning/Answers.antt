use Rattle.study_commands.proofs.{Words.{◌≡◌, ◌∙◌, ap, length, map, length-map, option_map, late_with, lates}, FirstRuns.{found_at, same_lates}}
use Rattle.study_commands.proofs.warning.late_warning.Goals as goal

pub returns : goal.returns
returns c = λ tables are.
    let runs = c.args.runs.now in
    let taken : c.deref.result.now ≡ map (λ r. late_with r.detector r.horizon) runs =
    c.deref.ensures.value ∙ c.in_ok-lates.ensures in
    let long : length c.deref.result.now ≡ length runs = ap length taken ∙ length-map runs _ in
    c.late_found.ensures
    ∙ ap (option_map lates) (c.first_of.ensures ∙ found_at c.args.begin (length runs) c.deref.result.now _
    (taken ∙ same_lates tables runs are) long)
