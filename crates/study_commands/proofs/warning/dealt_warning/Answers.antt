use Rattle.study_commands.proofs.{Words.{◌≡◌, ◌∙◌, ap, length, map, length-map, option_map, path_of, period_of, uneven_in, unevens}, FirstRuns.{found_at, same_unevens}}
use Rattle.study_commands.proofs.warning.dealt_warning.Goals as goal

pub returns : goal.returns
returns c = λ tables are.
    let runs = c.args.runs.now in
    let ticks = c.args.dealt.now.ticks.items in
    let taken : c.deref-2.result.now ≡ map (λ r. uneven_in (period_of r.detector) ticks) runs =
    c.deref-2.ensures.value ∙ c.in_ok-unevens.ensures
    ∙ ap (λ ts. map (λ r. uneven_in (period_of r.detector) ts) runs) c.deref.ensures.value in
    let long : length c.deref-2.result.now ≡ length runs = ap length taken ∙ length-map runs _ in
    c.uneven_found.ensures
    ∙ ap (option_map (unevens (path_of c.args.dealt.now.key.now))) (c.first_of.ensures
    ∙ found_at c.args.begin (length runs) c.deref-2.result.now _ (taken ∙ same_unevens ticks tables runs are) long)
