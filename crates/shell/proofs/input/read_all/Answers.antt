use Rattle.shell.proofs.Basics.{◌≡◌, ◌+◌, ◌≤◌, ℕ, List, ◌++◌, Option, length, take, arith, length-append, Consumes, common_steps, length-take, TakesAtMost}
use Rattle.std.proofs.KnownBytes.{Consumes-trans}
use Rattle.shell.proofs.input.read_all.Goals as goal

taken : (a b c : Option (List ℕ)) (xs ys : List ℕ) (k n : ℕ) → Consumes a b xs → Consumes b c (take k ys) → length xs + k ≤ n → TakesAtMost n a c
taken a b c xs ys k n p q le =
    (xs ++ take k ys, Consumes-trans a b c xs (take k ys) p q, omega (arith, length-append xs (take k ys), length-take k ys))

pub returns-in-Ok-clause-taken : goal.returns-in-Ok-clause-taken
returns-in-Ok-clause-taken g c =
    taken _ _ _ _ _ _ _ c.loop.invariant.gone c.in-Ok.ensures.bytes.0
    (omega (arith, c.in-Ok.ensures.bound.0, c.read.auto.buf, length-take c.min-asked.result c.loop.piece, c.min-asked.ensures, c.len-room.ensures, c.loop.invariant.within))

pub returns-then-is_err-clause-taken : goal.returns-then-is_err-clause-taken
returns-then-is_err-clause-taken g c =
    taken _ _ _ _ _ _ _ c.loop.invariant.gone c.in-Ok.ensures.bytes.0 (omega (arith, c.if-count-room.false, c.len-room.ensures, c.loop.invariant.within))

pub loop-preserved : goal.loop-preserved
loop-preserved g c = record {
  within = grind (arith, common_steps);
  gone =
      let joined : c.extend_from_slice.new.self.items ≡ c.loop.bytes.items ++ take c.in-Ok.count c.read.new.buf = grind (arith, common_steps) in
      rw joined (Consumes-trans _ _ _ _ _ c.loop.invariant.gone c.in-Ok.ensures.bytes.0);
}
