use Rattle.sweep.proofs.Words.{rules, ◌≡◌, ℕ, ◌+◌, ◌-◌, ◌*◌, ◌≤◌, length, arith, sym, ap, ◌∙◌, subst, range_with_len, mul-le-mul_right, sources_of, wrote_nothing, points, runs, runs_each, unit_count, WroteUpTo, HeardLimits, numbers_in, Memory}
use Rattle.sweep.proofs.{Reading.{if_err, if_any_err}, Numbered.{point_at_end, point_below, count_each, count_order, some_each}, Advancing.{wrote_none}, Heard.{heard_none}, Limiting.{way_begin, way_same, heard_up_to}}
use Rattle.sweep.proofs.sweeping.write_points.Goals as goal

pub loop-next-init : goal.loop-next-init
loop-next-init g c =
    let sources = sources_of c.args.sources.now in
    let grid = c.args.grid.now in
    let layout = c.args.layout.now in
    let first : ℕ = unit_count layout.rows grid c.args.swept.0 in
    let at : c.in_ok-progress.progress.unit ≡ first = c.in_ok-progress.ensures.unit ∙ c.unit_count.ensures in
    let some : 1 ≤ runs_each layout.rows grid = some_each layout.rows grid c.requires.some in
    let P : ℕ → Type 0 = λ n. WroteUpTo sources grid layout g.O.Outlet.told g.O.Outlet.failed c.args.outlet.now c.args.outlet.now first n in
    let e : c.args.swept.0 * c.runs-runs.result ≡ c.args.swept.0 * length (runs grid) = ap (λ n. c.args.swept.0 * n) c.runs-runs.ensures.value in
    record {
      failures = search rules;
      run_low = omega (arith, c.in_ok-progress.ensures.run, some);
      number = omega (arith, ap (λ n. n * runs_each layout.rows grid) at, count_each layout.rows grid c.args.swept.0, e, c.in_ok-progress.ensures.run);
      high = rw e (mul-le-mul_right {m = c.args.swept.0} {n = c.args.swept.1} (length (runs grid)) c.requires.order);
      low = omega (arith, e);
      limits_low = omega (arith, c.at-limits.ensures.run, c.requires.some);
      limits_number = omega (arith, ap (λ n. n * length (runs grid)) c.at-limits.ensures.point, e, c.at-limits.ensures.run);
      heard = way_begin sources grid g.W.Watcher.heard c.args.swept.0 c.at-limits.result c.args.watcher.now c.hear.new.self
          c.at-limits.ensures.point (c.at-limits.ensures.counted sources grid) c.hear.ensures;
      way = record {
        out = subst P (sym at) (wrote_none sources grid layout g.O.Outlet.told g.O.Outlet.failed c.args.outlet.now first (wrote_nothing g.O.Outlet.told g.O.Outlet.failed c.args.outlet.now));
        added = c.in_ok-progress.ensures.added sources some;
      };
    }

pub returns-in_err-progress-clause-stops : goal.returns-in_err-progress-clause-stops
returns-in_err-progress-clause-stops g c =
    let grid = c.args.grid.now in
    let layout = c.args.layout.now in
    let first : ℕ = unit_count layout.rows grid c.args.swept.0 in
    if_err c.from_residual.result _ Memory (search rules) (
      first,
      count_order layout.rows grid c.args.swept.0 c.args.swept.1 c.requires.order,
      wrote_none (sources_of c.args.sources.now) grid layout g.O.Outlet.told g.O.Outlet.failed c.args.outlet.now first
          (wrote_nothing g.O.Outlet.told g.O.Outlet.failed c.args.outlet.now),
    )

pub returns-in_err-progress-clause-heard_some : goal.returns-in_err-progress-clause-heard_some
returns-in_err-progress-clause-heard_some g c =
    if_any_err c.from_residual.result _ (heard_none g.W.Watcher.heard (sources_of c.args.sources.now) c.args.grid.now c.args.watcher.now c.hear.new.self
    (numbers_in c.args.swept) c.hear.ensures)

-- a batch's end is at most the end of all points' runs
module _ (points runs end next count : ℕ) where
  within_end : (number : ℕ) → number ≡ next → next + count ≤ end * runs → end ≤ points → number + count ≤ points * runs
  within_end number is le order =
      let up : end * runs ≤ points * runs = mul-le-mul_right {m = end} {n = points} runs order in
      omega (arith, is, le, up)

pub returns-in_err-numbers-clause-stops : goal.returns-in_err-numbers-clause-stops
returns-in_err-numbers-clause-stops g c =
    let grid = c.args.grid.now in
    let rows = c.args.layout.now.rows in
    let inv = c.loop-next.invariant in
    let before = rw c.runs-runs.ensures.value at c.loop-next-test.true in
    let below = point_below c.loop-next.progress.unit c.loop-next.progress.run (runs_each rows grid) c.loop-next.next inv.run_low inv.number
    (unit_count rows grid c.args.swept.1) (omega (arith, before, count_each rows grid c.args.swept.1)) in
    if_err c.from_residual-in_err-numbers.result _ Memory (search rules) (c.loop-next.progress.unit, omega (arith, below), inv.way.out)

pub add_all-requires-clause-within : goal.add_all-requires-clause-within
add_all-requires-clause-within g c =
    let within = rw c.runs-runs.ensures.value at c.in_ok-numbers.ensures.within in
    rw c.deref.ensures.value (within_end (length (points c.args.grid.now)) (length (runs c.args.grid.now)) c.args.swept.1 c.loop-next.next _ _ c.loop-next.invariant.limits_number within c.requires.within)

pub take_all-requires-clause-within : goal.take_all-requires-clause-within
take_all-requires-clause-within g c =
    let within = rw c.runs-runs.ensures.value at c.in_ok-numbers.ensures.within in
    rw c.deref-in-loop-next.ensures.value (within_end (length (points c.args.grid.now)) (length (runs c.args.grid.now)) c.args.swept.1 c.loop-next.next _ _ c.loop-next.invariant.number within c.requires.within)

pub returns-in_err-take_all-clause-stops : goal.returns-in_err-take_all-clause-stops
returns-in_err-take_all-clause-stops g c =
    let grid = c.args.grid.now in
    let rows = c.args.layout.now.rows in
    let inv = c.loop-next.invariant in
    let within = rw c.runs-runs.ensures.value at c.in_ok-numbers.ensures.within in
    let stops = rw c.deref-in-loop-next.ensures.value at c.in_err-take_all.ensures.stops in
    if_err c.from_residual-in_err-take_all.result _ c.in_err-take_all.field-0.0 (search rules)
    (stops (sources_of c.args.sources.now) c.args.outlet.now (unit_count rows grid c.args.swept.0) (unit_count rows grid c.args.swept.1)
    (omega (arith, inv.number, within, count_each rows grid c.args.swept.1)) (rw inv.number (rw c.groups.ensures at c.in_ok-numbers.ensures.numbers)) inv.way)

pub loop-next-preserved : goal.loop-next-preserved
loop-next-preserved g c =
    let sources = sources_of c.args.sources.now in
    let grid = c.args.grid.now in
    let layout = c.args.layout.now in
    let inv = c.loop-next.invariant in
    let heard = rw c.deref.ensures.value at c.add_all.ensures.heard in
    let done = rw c.deref-in-loop-next.ensures.value at c.in_ok-take_all.ensures.done in
    let way = way_same sources grid g.W.Watcher.heard c.args.swept.0 c.loop-next.limits c.args.watcher.now c.loop-next.watcher c.make_way.new.self inv.heard c.make_way.ensures in
    let added = heard sources c.groups.result.now c.args.watcher.now c.args.swept.0 (rw inv.limits_number c.in_ok-numbers.ensures.numbers) way in
    record {
      failures = search rules;
      run_low = search rules;
      number = search rules;
      high = rw (← c.runs-runs.ensures.value) (search rules);
      low = omega (arith, inv.low);
      limits_low = search rules;
      limits_number = search rules;
      heard = way_same sources grid g.W.Watcher.heard c.args.swept.0 c.add_all.new.self c.args.watcher.now c.add_all.new.watcher c.hear-in-loop-next.new.self added c.hear-in-loop-next.ensures;
      way = done sources c.args.outlet.now (unit_count layout.rows grid c.args.swept.0) (rw inv.number (rw c.groups.ensures at c.in_ok-numbers.ensures.numbers)) inv.way;
    }

pub returns-clause-done : goal.returns-clause-done
returns-clause-done g c =
    let grid = c.args.grid.now in
    let layout = c.args.layout.now in
    let inv = c.loop-next.invariant in
    let last : ℕ = unit_count layout.rows grid c.args.swept.1 in
    let past = rw c.runs-runs.ensures.value at c.loop-next-test.false in
    let P : ℕ → Type 0 = λ n. WroteUpTo (sources_of c.args.sources.now) grid layout g.O.Outlet.told g.O.Outlet.failed c.args.outlet.now c.loop-next.outlet (unit_count layout.rows grid c.args.swept.0) n in
    subst P (point_at_end c.loop-next.progress.unit c.loop-next.progress.run (runs_each layout.rows grid) c.loop-next.next inv.run_low inv.number last
    (omega (arith, inv.high, past, count_each layout.rows grid c.args.swept.1))) inv.way.out

-- ---- what is heard

pub returns-in_err-numbers-clause-heard_some : goal.returns-in_err-numbers-clause-heard_some
returns-in_err-numbers-clause-heard_some g c =
    let inv = c.loop-next.invariant in
    if_any_err c.from_residual-in_err-numbers.result _ (heard_up_to (sources_of c.args.sources.now) c.args.grid.now g.W.Watcher.heard c.args.swept.0 c.loop-next.limits
    c.args.watcher.now c.loop-next.watcher c.args.swept.1 inv.limits_low (omega (arith, inv.limits_number, inv.high)) inv.heard)

up_to : (new old next more count bound : ℕ) → new ≡ old + more → old ≡ next → more ≡ count → next + count ≤ bound → new ≤ bound
up_to new old next more count bound is from long le = omega arith

pub returns-in_err-take_all-clause-heard_some : goal.returns-in_err-take_all-clause-heard_some
returns-in_err-take_all-clause-heard_some g c =
    let sources = sources_of c.args.sources.now in
    let grid = c.args.grid.now in
    let inv = c.loop-next.invariant in
    let within = rw c.runs-runs.ensures.value at c.in_ok-numbers.ensures.within in
    let heard = rw c.deref.ensures.value at c.add_all.ensures.heard in
    let way = way_same sources grid g.W.Watcher.heard c.args.swept.0 c.loop-next.limits c.args.watcher.now c.loop-next.watcher c.make_way.new.self inv.heard c.make_way.ensures in
    let added = heard sources c.groups.result.now c.args.watcher.now c.args.swept.0 (rw inv.limits_number c.in_ok-numbers.ensures.numbers) way in
    let len : length c.deref.result.now ≡ length c.in_ok-numbers.numbers.items = ap length c.deref.ensures.value in
    if_any_err c.from_residual-in_err-take_all.result _ (heard_up_to sources grid g.W.Watcher.heard c.args.swept.0 c.add_all.new.self c.args.watcher.now c.add_all.new.watcher
    c.args.swept.1 c.add_all.ensures.run (up_to _ _ c.loop-next.next _ _ _ c.add_all.ensures.number inv.limits_number len within) added)

pub returns-clause-heard : goal.returns-clause-heard
returns-clause-heard g c =
    let inv = c.loop-next.invariant in
    let begin : ℕ = c.args.swept.0 in
    let past = rw c.runs-runs.ensures.value at c.loop-next-test.false in
    let last = point_at_end c.loop-next.limits.point c.loop-next.limits.run (length (runs c.args.grid.now)) c.loop-next.next inv.limits_low inv.limits_number c.args.swept.1 (omega (arith, inv.high, past)) in
    let P : ℕ → Type 0 = λ n. HeardLimits g.W.Watcher.heard c.args.watcher.now c.loop-next.watcher (sources_of c.args.sources.now) c.args.grid.now (range_with_len begin (n - begin)) in
    subst P last inv.heard.told
