use Rattle.study_commands.proofs.Words.{◌≡◌, ◌∙◌, ◌-◌, ap, length, map, subst, sym, length-range_with_len, on_ok_weaker, AllZip, range_with_len, sources_of, IsRunOf, warning_of, warning_line, IsFirst, warnings, numbers_of, HaveJoined}
use Rattle.study_commands.proofs.FirstRuns.{tables_of}
use Rattle.study_commands.proofs.warn.warn_of_study.Goals as goal

pub returns-clause-told : goal.returns-clause-told
returns-clause-told g c =
    let sources = sources_of c.args.sources.now in
    let grid = c.args.grid.now in
    let begin = c.points_of-begin.result.0 in
    let count = c.points_of-begin.result.1 - begin in
    let runs = c.in_ok-runs.runs.items in
    let numbers = numbers_of grid c.args.shard in
    let found = tables_of sources grid begin runs c.in_ok-runs.ensures.first in
    let tables = found.0 in
    let is : range_with_len begin (length runs) ≡ numbers =
    ap (range_with_len begin) c.in_ok-runs.ensures.count ∙ sym c.points_of-begin.ensures.numbers in
    let counted : count ≡ length numbers =
    sym (length-range_with_len begin count) ∙ ap length (sym c.points_of-begin.ensures.numbers) in
    let lent : c.deref.result.now ≡ runs = c.deref.ensures.value in
    let here : AllZip IsRunOf tables c.deref.result.now = subst (AllZip IsRunOf tables) (sym lent) found.2 in
    let all : map warning_of c.in_ok-warnings.warnings.items ≡ warnings numbers tables sources grid =
    c.in_ok-warnings.ensures tables here
    ∙ ap (λ rs. warnings (range_with_len begin (length rs)) tables sources grid) lent
    ∙ ap (λ ns. warnings ns tables sources grid) is in
    let lines : map (warning_line grid count) (map warning_of c.deref-2.result.now)
    ≡ map (warning_line grid (length numbers)) (warnings numbers tables sources grid) =
    ap (λ ws. map (warning_line grid count) (map warning_of ws)) c.deref-2.ensures.value
    ∙ ap (map (warning_line grid count)) all
    ∙ ap (λ n. map (warning_line grid n) (warnings numbers tables sources grid)) counted in
    on_ok_weaker c.warn_all.result (λ told. record {
      tables = tables;
      each = subst (λ ns. AllZip (IsFirst sources grid) ns tables) is found.1;
      told = subst (HaveJoined g.W.Warned.warned c.args.watcher.now c.warn_all.new.watcher) lines told;
    }) c.warn_all.ensures.told
