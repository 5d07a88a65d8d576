use Rattle.reporting.proofs.{Words.{◌≡◌, ◌≢◌, ◌+◌, ◌-◌, suc, sym, ap, ◌∙◌, arith, closed, metered}, EachProcess.{pushed_other, skipped_own}, layer_pairs.close_row.Goals.{then-column-row+in_ok-push, else-column-row}}
use Rattle.reporting.proofs.layer_pairs.close_row.Goals as goal

pub loop-column-preserved : goal.loop-column-preserved
loop-column-preserved c =
    elim c.if-column-row.branch [
      | then-column-row+in_ok-push w ↦
          let other : c.loop-column.column + 1 ≢ suc c.args.row = λ e. omega (arith, e, w.if-column-row.true) in
          rw w.rows-is (pushed_other (λ p. closed (metered c.args.pairs.now c.args.row (p - 1))) c.args.rows.now.items c.loop-column.rows.items _ c.loop-column.column (suc c.args.row) w.close.result
          c.loop-column.invariant w.in_ok-push.ensures.items other
          (ap (λ k. closed (metered c.args.pairs.now c.args.row k)) (omega arith) ∙ ap closed (sym w.meter_at.ensures) ∙ sym w.close.ensures.value))
      | else-column-row w ↦
          let own : c.loop-column.column + 1 ≡ suc c.args.row = omega (arith, w.if-column-row.false) in
          rw w.rows-is (skipped_own (λ p. closed (metered c.args.pairs.now c.args.row (p - 1))) c.args.rows.now.items c.loop-column.rows.items c.loop-column.column (suc c.args.row) c.loop-column.invariant own)
    ]
