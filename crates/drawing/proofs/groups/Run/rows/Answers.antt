use Rattle.drawing.proofs.{Words.{◌≡◌, ◌∙◌, ◌+◌, ◌-◌, refl, subst, arith, ap, length, length-outcomes, AreRows, has_row_in, placeless, groups_bottom}, Counting.{groups_low}, LineShapes.{told_at}}
use Rattle.drawing.proofs.groups.Run.rows.Goals as goal

pub push_group-requires : goal.push_group-requires
push_group-requires c =
    let run = c.args.self.now in
    let t = told_at run.trace.now run.scenario.now.processes _ (c.deref-outcome-items.ensures.value ∙ c.in_ok-outcomes.ensures.outcomes)
    c.loop-outcome.outcome-index c.outcome-item.result c.loop-outcome-test.true c.outcome-item.is in
    let before : c.loop-outcome.outcome-index ≡ c.outcome-item.result.pid - 1 = omega (arith, t.next) in
    record {
      told_is = t.is;
      low = omega (arith, t.next);
      high = omega (arith, t.next, t.within);
      before = subst (λ k. AreRows run k c.loop-outcome.rows) before c.loop-outcome.invariant;
    }

pub loop-outcome-init : goal.loop-outcome-init
unfolding groups_bottom placeless
loop-outcome-init c = record { shapes = ap placeless c.new.ensures.items; bands = c.new-2.ensures.items; top = refl; left_out = refl }

pub loop-outcome-preserved : goal.loop-outcome-preserved
loop-outcome-preserved c =
    let run = c.args.self.now in
    let t = told_at run.trace.now run.scenario.now.processes _ (c.deref-outcome-items.ensures.value ∙ c.in_ok-outcomes.ensures.outcomes)
    c.loop-outcome.outcome-index c.outcome-item.result c.loop-outcome-test.true c.outcome-item.is in
    let next : (c.outcome-item.result.pid - 1) + 1 ≡ c.loop-outcome.outcome-index + 1 = omega (arith, t.next) in
    subst (λ k. AreRows run k c.push_group.new.rows) next c.in_ok-push_group.ensures

pub returns : goal.returns
returns c =
    let run = c.args.self.now in
    let n = run.scenario.now.processes in
    let items = c.deref-outcome-items.ensures.value ∙ c.in_ok-outcomes.ensures.outcomes in
    let all : c.loop-outcome.outcome-index ≡ n = omega (arith, c.loop-outcome-test.false, c.loop-outcome.auto.outcome-index-end, ap length items, length-outcomes run.trace.now n) in
    let rows = subst (λ k. AreRows run k c.loop-outcome.rows) all c.loop-outcome.invariant in
    record { all = rows; high = omega (arith, rows.top, groups_low (has_row_in run) n n run.few, run.few) }
