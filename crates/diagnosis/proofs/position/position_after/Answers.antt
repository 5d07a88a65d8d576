use Rattle.std.proofs.Common.{◌≡◌, rules, sym, ◌∙◌, ap, get_or, true, false, cond, arith}
use Rattle.diagnosis.proofs.{Positions.{start, step, done, width}, position.position_after.Goals.{then-byte-eq10, else-byte-eq10+then-starts_character, else-byte-eq10+else-starts_character}}
use Rattle.diagnosis.proofs.position.position_after.Goals as goal

pub loop-byte-init : goal.loop-byte-init
loop-byte-init c = start c.args.before.now

pub loop-byte-preserved : goal.loop-byte-preserved
loop-byte-preserved c =
    let text = c.args.before.now in
    let i = c.loop-byte.byte-index in
    let next = step text i c.loop-byte.line c.loop-byte.column in
    elim c.if-byte-eq10.branch [
      | then-byte-eq10 w ↦ next _ _ true c.loop-byte-test.true (search (rules, w.if-byte-eq10.true)) w.line-is w.column-is c.loop-byte.invariant
      | else-byte-eq10+then-starts_character w ↦ let one : width (get_or text i 0) ≡ 1 = ap (λ b. cond b 1 0) (sym w.starts_character.ensures ∙ w.if-starts_character.true) in
          next _ _ false c.loop-byte-test.true (search rules) w.line-is (rw (w.column-is, one)) c.loop-byte.invariant
      | else-byte-eq10+else-starts_character w ↦ let none : width (get_or text i 0) ≡ 0 = ap (λ b. cond b 1 0) (sym w.starts_character.ensures ∙ w.if-starts_character.false) in
          next _ _ false c.loop-byte-test.true (search rules) w.line-is (w.column-is ∙ omega (arith, none)) c.loop-byte.invariant
    ]

pub returns : goal.returns
returns c =
    let at_end = done c.args.before.now c.loop-byte.byte-index c.loop-byte.line c.loop-byte.column c.loop-byte-test.false c.loop-byte.invariant in
    record { line = at_end.0; column = at_end.1 }
