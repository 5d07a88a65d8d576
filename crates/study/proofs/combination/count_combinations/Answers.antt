use Rattle.study.proofs.{Basics.{◌≡◌, ◌∙◌, ap, sym, ◌+◌, ◌*◌, ◌-◌, ◌^◌, ◌≤◌, min, length, drop, arith, one-le-mul}, Points.{ways, length_from, axis_some, some_ways, counted}}
use Rattle.study.proofs.combination.count_combinations.Goals as goal

pub loop-axis-preserved : goal.loop-axis-preserved
loop-axis-preserved c =
    let i = c.loop-axis.axis-index in
    let axes = c.args.axes.now in
    let rest = length (ways (drop (i + 1) axes)) in
    let from : length (ways (drop i axes)) ≡ c.len.result * rest =
    length_from axes i c.axis-item.result c.loop-axis-test.true c.axis-item.is ∙ ap (λ n. n * rest) (sym c.len.ensures) in
    let is : c.saturating_mul-count.result ≡ min (c.loop-axis.count * c.len.result) (2 ^ 64 - 1) =
    c.saturating_mul-count.ensures in
    let some : 1 ≤ c.len.result = omega (arith, axis_some c.axis-item.result, c.len.ensures) in
    let more : 1 ≤ c.loop-axis.count * c.len.result = one-le-mul c.loop-axis.invariant.low some in
    record {
      whole =
          ap (λ n. min (n * rest) (2 ^ 64 - 1)) is
          ∙ counted (2 ^ 64 - 1) c.loop-axis.count c.len.result rest (length (ways (drop i axes)))
          (min (length (ways axes)) (2 ^ 64 - 1))
          c.loop-axis.invariant.whole from (some_ways (drop (i + 1) axes));
      low = omega arith;
      high = omega arith;
    }
