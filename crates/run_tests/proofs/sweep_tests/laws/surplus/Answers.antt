use Rattle.run_tests.proofs.Words.{◌≡◌, ℕ, ◌-◌, List, length, ap, sym, refl, ◌∙◌, arith, range_with_len, ShardRecord, IsShard, block}
use Rattle.std.proofs.lemmas.List.FromFn.{length-range_with_len}
use Rattle.run_tests.proofs.sweep_tests.laws.surplus.Goals as goal

pub returns : goal.returns
returns c =
    let all : List ℕ = range_with_len 0 c.args.points in
    let one : ShardRecord = record { number = c.args.number; of = c.args.shards } in
    let other : ShardRecord = record { number = c.args.another; of = c.args.shards } in
    let is_one : IsShard one = let in_range = c.in_ok-one.ensures.range.0 refl in record { low = in_range.0; high = in_range.1 } in
    let is_other : IsShard other = let in_range = c.in_ok-other.ensures.range.0 refl in record { low = in_range.0; high = in_range.1 } in
    let these : length (block all one) ≡ c.points-these.result.end - c.points-these.result.start =
    ap (λ s. length (block all s)) (sym c.in_ok-one.ensures.value) ∙ ap length c.points-these.ensures.block ∙ length-range_with_len _ _ in
    let those : length (block all other) ≡ c.points-those.result.end - c.points-those.result.start =
    ap (λ s. length (block all s)) (sym c.in_ok-other.ensures.value) ∙ ap length c.points-those.ensures.block ∙ length-range_with_len _ _ in
    omega (arith, these, those, c.law_shards.ensures.even all one other is_one is_other refl refl, c.saturating_sub.ensures)
