use Rattle.study_commands.proofs.Words.{rules, ◌≡◌, ◌∙◌, ◌++◌, ◌+◌, ◌-◌, ◌<◌, ◌≤◌, ℕ, ap, arith, length, length-append, map, subst, sym, Ok, Result, IfOk, slice_index_or, length-map, AllocError, sources_of, AreFirst, IsFirstOf, FirstRun}
use Rattle.study_commands.proofs.FirstRuns.{runs_more}
use Rattle.study_commands.proofs.first_runs.first_runs.Goals as goal

pub loop-next-preserved : goal.loop-next-preserved
loop-next-preserved g c =
    let sources = sources_of c.args.sources.now in
    let grid = c.args.grid.now in
    let next = c.loop-next.next in
    let inv = c.loop-next.invariant in
    let before = c.loop-next.all.items in
    let more = c.in_ok-more.more.items in
    let answers = c.in_ok-answers.answers.items in
    let its = c.in_ok-answers.ensures in
    let made : c.extend_from_slice.new.self.items ≡ before ++ more = search rules in
    let counted : length answers ≡ c.min-count.result = its.count_is in
    let taken : map Ok more ≡ answers = c.in_ok-more.ensures in
    let oks : length {A = Result FirstRun AllocError} (map Ok more) ≡ length more = length-map more Ok in
    let same : length {A = Result FirstRun AllocError} (map Ok more) ≡ length answers = ap length taken in
    let low : c.min-count.result ≤ c.args.end - next = search rules in
    let size : length c.extend_from_slice.new.self.items ≡ length before + length more =
    ap length made ∙ length-append before more in
    let each : (i : ℕ) (d : Result FirstRun AllocError) → i < length answers
    → IfOk (slice_index_or answers i d) (IsFirstOf sources grid (next + i)) =
    λ i d lt. let h = (its.each i d (omega (arith, lt, counted))).met in search rules in
    record {
      high = omega (arith, inv.high, low);
      count = omega (arith, inv.count, size, oks, same, counted);
      first = subst (AreFirst sources grid c.args.begin) (sym made)
          (runs_more sources grid c.args.begin next before more answers inv.count taken each inv.first);
    }
