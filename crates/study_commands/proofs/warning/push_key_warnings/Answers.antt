use Rattle.study_commands.proofs.{Words.{◌≡◌, ◌∙◌, ◌++◌, ap, length, map, length-map, on_ok_weaker, filter_map, option_map, paths_said, warning_of, unlinked_where, unused}, FirstRuns.{found_at, same_unlinked}}
use Rattle.study_commands.proofs.warning.push_key_warnings.Goals as goal

pub returns : goal.returns
returns c =
    let runs = c.args.runs.now in
    let before = map warning_of c.args.all.now.items in
    let paths = paths_said c.args.keys.now in
    let taken : c.deref.result.now ≡ map (λ r. unlinked_where r.uses_link r.processes) runs =
    c.deref.ensures.value ∙ c.in_ok-unlinked.ensures in
    let long : length c.deref.result.now ≡ length runs = ap length taken ∙ length-map runs _ in
    on_ok_weaker c.push_found.result (λ is. λ tables are. is
    ∙ ap (λ o. before ++ filter_map (λ p. option_map (unused p) o) paths) (c.first_of.ensures
    ∙ found_at c.args.begin (length runs) c.deref.result.now _ (taken ∙ same_unlinked tables runs are) long))
    c.push_found.ensures
