use Rattle.reporting.proofs.Words.{◌≡◌, ◌-◌, take, drop, length, arith, length-drop, common_steps, take_all, take-add, Appends, Appends-trans}
use Rattle.reporting.proofs.outlet.put_all.Goals as goal

pub loop-done-preserved : goal.loop-done-preserved
loop-done-preserved g c = record {
  within = grind (arith, common_steps, c.in-Ok.ensures.bound);
  told =
      let rest = drop c.loop-done.done c.args.piece.now in
      let whole : take (length c.args.piece.now - c.loop-done.done) rest ≡ rest = take_all _ rest (simp length-drop (omega arith)) in
      let step : Appends (g.O.Outlet.told c.loop-done.outlet) (g.O.Outlet.told c.put.new.self) (take c.in-Ok.taken rest) = rw whole at c.in-Ok.ensures.bytes in
      rw take-add (Appends-trans _ _ _ (take c.loop-done.done c.args.piece.now) (take c.in-Ok.taken rest) c.loop-done.invariant.told step);
  count = grind (arith, common_steps, c.in-Ok.ensures.count);
}
