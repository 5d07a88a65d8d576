use Rattle.std.proofs.Common.{◌≡◌, ◌+◌, ◌-◌, ◌*◌, ap, ◌∙◌, arith}
use Rattle.streams.specs.{Fate.{stands_at}, declared.kept.Pair.{Pair}}
use Rattle.streams.proofs.AtHand.{elsewhere, one_more}
use Rattle.streams.proofs.kept.draw_run.Goals as goal

pub loop-row-preserved : goal.loop-row-preserved
loop-row-preserved c =
    let row = c.loop-row.row in
    let to = c.args.place in
    let there = c.requires.place.0 in
    let drawn : Pair = record { first = c.next_pair-first.result.0; second = c.next_pair-first.result.1 } in (
      (λ k other. elsewhere c.args.places row to k c.loop-row.pairs drawn there other ∙ c.loop-row.invariant.0 k other),
      (λ seed from k one before.
          let so_far = c.loop-row.invariant.1 seed from k one before in
          let twice : 2 * (k + row) ≡ 2 * (k + (row + 1) - 1) = omega arith in (
            (λ small. c.next_pair-first.ensures.next seed from to (k + row) (omega arith) (omega arith)
                (so_far.0 (omega arith)) ∙ ap (stands_at seed from to) twice),
            one_more row seed from to k c.args.places c.loop-row.pairs drawn there
                (λ small. c.next_pair-first.ensures.words seed from to (k + row) small (so_far.0 (omega arith)))
                so_far.1,
          )),
    )

pub returns-clause-run : goal.returns-clause-run
returns-clause-run c seed from k one before row below =
    (c.loop-row.invariant.1 seed from k one before).1 row (omega arith)
