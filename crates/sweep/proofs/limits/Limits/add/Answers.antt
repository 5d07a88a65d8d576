use Rattle.sweep.proofs.{Words.{rules, ◌≡◌, ℕ, ◌+◌, ◌-◌, length, arith, sym, subst, range_with_len, runs, HeardLimits}, Limiting.{counted_to, all_counted, next_told}}
use Rattle.sweep.proofs.limits.Limits.add.Goals as goal

pub returns-then-self-runs-clause-heard : goal.returns-then-self-runs-clause-heard
returns-then-self-runs-clause-heard g c = λ sources groups start begin numbers way.
    let more = counted_to sources c.args.grid.now groups c.args.self.now c.args.numbers.now c.from.result c.requires.run (search rules) numbers way.counting in
    record { told = way.told; order = way.order; counting = record { trials = more.0; each = more.1; counted = more.2 } }

pub returns-clause-heard : goal.returns-clause-heard
returns-clause-heard g c = λ sources groups start begin numbers way.
    let grid = c.args.grid.now in
    let l = c.args.self.now in
    let whole : l.run + 1 ≡ length (runs grid) = omega (arith, c.requires.run, c.if-self-runs.false, c.runs-runs.ensures.value) in
    let are = all_counted sources grid groups l c.args.numbers.now c.from.result c.requires.run (search rules) numbers way.counting whole in
    let P : ℕ → Type 0 = λ n. HeardLimits g.W.Watcher.heard start c.say.new.watcher sources grid (range_with_len begin (n - begin)) in
    record {
      told = subst P (sym c.at.ensures.point)
          (next_told g.W.Watcher.heard sources grid start c.args.watcher.now c.say.new.watcher begin l.point way.order way.told _ are c.say.ensures);
      order = omega (arith, way.order, c.at.ensures.point);
      counting = c.at.ensures.counted sources grid;
    }
