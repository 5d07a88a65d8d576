use Rattle.run_tests.proofs.Words.{◌≡◌, ◌-◌, flat_map, range_with_len, block}
use Rattle.run_tests.proofs.sweep_tests.laws.points_of_shards.Given as goal

abbrev pub invariant-loop-before : goal.invariant-loop-before
invariant-loop-before l =
    flat_map (λ r. range_with_len r.start (r.end - r.start)) l.ranges.items
    ≡ flat_map (λ number. block (range_with_len 0 l.points) (record { number = number; of = l.shards })) (range_with_len 1 l.before)
