use Rattle.sweep.proofs.{Words.{rules, ℕ, ◌+◌, arith, refl, sym, subst, runs_each, WroteUpTo, Memory, Write}, Numbered.{unit_below, point_below}, Reading.{if_err}, Advancing.{added_to, rows_added, wrote_more, wrote_front}}
use Rattle.sweep.proofs.progress.Progress.take.Goals as goal

pub rows_of-requires : goal.rows_of-requires
rows_of-requires g c =
    unit_below c.args.layout.now.rows c.args.grid.now c.args.self.now.unit c.args.self.now.run _ c.requires.run c.requires.within

pub returns-then-self-runs-clause-done : goal.returns-then-self-runs-clause-done
returns-then-self-runs-clause-done g c = λ sources start begin numbers way.
    let more = added_to sources c.args.grid.now c.args.layout.now c.args.self.now c.args.numbers.now c.add.new.self c.in_ok-add.ensures (omega (arith, c.runs_each-runs.ensures.value, c.runs_each-runs.ensures.high)) numbers way.added in
    record { out = way.out; added = record { trials = more.trials; each = more.each; summed = more.summed; run_low = search rules } }

pub returns-in_err-write_text-clause-stops : goal.returns-in_err-write_text-clause-stops
returns-in_err-write_text-clause-stops g c =
    if_err c.from_residual-in_err-write_text.result _ Write (search rules) (λ sources start begin end few numbers way.
    let grid = c.args.grid.now in
    let layout = c.args.layout.now in
    let p = c.args.self.now in
    let below = point_below p.unit p.run (runs_each layout.rows grid) _ c.requires.run refl end (omega (arith, few)) in
    let more = added_to sources grid layout p c.args.numbers.now c.add.new.self c.in_ok-add.ensures (omega (arith, c.runs_each-runs.ensures.value, c.runs_each-runs.ensures.high)) numbers way.added in
    let rows = rows_added sources grid layout p c.add.new.self c.in_ok-text.text.items more (omega arith) c.in_ok-text.ensures in
    (p.unit + 1, omega (arith, below), wrote_front sources grid layout g.O.Outlet.told g.O.Outlet.failed start c.args.outlet.now c.write_text.new.outlet begin p.unit c.in_ok-text.text.items way.out rows (search rules)))

pub returns-in_err-self-clause-stops : goal.returns-in_err-self-clause-stops
returns-in_err-self-clause-stops g c =
    if_err c.from_residual-in_err-self.result _ Memory (search rules) (λ sources start begin end few numbers way.
    let grid = c.args.grid.now in
    let layout = c.args.layout.now in
    let p = c.args.self.now in
    let below = point_below p.unit p.run (runs_each layout.rows grid) _ c.requires.run refl end (omega (arith, few)) in
    let more = added_to sources grid layout p c.args.numbers.now c.add.new.self c.in_ok-add.ensures (omega (arith, c.runs_each-runs.ensures.value, c.runs_each-runs.ensures.high)) numbers way.added in
    let rows = rows_added sources grid layout p c.add.new.self c.in_ok-text.text.items more (omega arith) c.in_ok-text.ensures in
    (p.unit + 1, omega (arith, below), wrote_more sources grid layout g.O.Outlet.told g.O.Outlet.failed start c.args.outlet.now c.write_text.new.outlet begin p.unit c.in_ok-text.text.items way.out rows (search rules)))

pub returns-clause-done : goal.returns-clause-done
returns-clause-done g c = λ sources start begin numbers way.
    let grid = c.args.grid.now in
    let layout = c.args.layout.now in
    let p = c.args.self.now in
    let more = added_to sources grid layout p c.args.numbers.now c.add.new.self c.in_ok-add.ensures (omega (arith, c.runs_each-runs.ensures.value, c.runs_each-runs.ensures.high)) numbers way.added in
    let rows = rows_added sources grid layout p c.add.new.self c.in_ok-text.text.items more (omega arith) c.in_ok-text.ensures in
    let P : ℕ → Type 0 = λ n. WroteUpTo sources grid layout g.O.Outlet.told g.O.Outlet.failed start c.write_text.new.outlet begin n in
    record {
      out = subst P (sym c.in_ok-self.ensures.unit)
          (wrote_more sources grid layout g.O.Outlet.told g.O.Outlet.failed start c.args.outlet.now c.write_text.new.outlet begin p.unit c.in_ok-text.text.items way.out rows (search rules));
      added = c.in_ok-self.ensures.added sources (omega arith);
    }
