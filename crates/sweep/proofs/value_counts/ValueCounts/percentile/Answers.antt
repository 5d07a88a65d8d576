use Rattle.sweep.proofs.{Words.{◌≡◌, ℕ, ◌+◌, ◌-◌, ◌*◌, ◌^◌, ◌<◌, ◌≤◌, min, List, length, map, ap, ◌∙◌, arith, mul-le-mul_right, deref_pair, most_values}, Counting.{percentile_found, none_found}}
use Rattle.std.proofs.lemmas.Map.Iter.{rest_more, rest_all}
use Rattle.sweep.proofs.value_counts.ValueCounts.percentile.Goals as goal

wanted_is : (p infinite : ℕ) (values : List ℕ) {total all from wanted : ℕ} → p ≤ 100 → length values < most_values → infinite < 2 ^ 64 → total ≡ length values
    → all ≡ min (total + infinite) (2 ^ 128 - 1) → from ≡ p → wanted ≡ min (from * all) (2 ^ 128 - 1) → wanted ≡ p * (length values + infinite)
wanted_is p infinite values {total} {all} {from} high few low is sum same times =
    let every : all ≡ length values + infinite = omega arith in
    let product : from * all ≡ p * (length values + infinite) = ap (λ n. n * all) same ∙ ap (λ n. p * n) every in
    let most : p * (length values + infinite) ≤ 100 * (length values + infinite) = mul-le-mul_right (length values + infinite) high in
    omega (arith, times, product, most)

pub returns-then-wanted-reached : goal.returns-then-wanted-reached
returns-then-wanted-reached c values few_values few told =
    let p = c.args.hundredths in
    let infinite = c.args.infinite in
    let wants = wanted_is p infinite values c.requires.high few_values few told.total c.saturating_add-all.ensures c.from.ensures c.saturating_mul-wanted.ensures in
    let next = rest_more deref_pair c.loop-value.value-iterator c.next.new.self c.next.result (c.in-Some.value, c.in-Some.count) c.in-Some.is c.next.ensures.steps in
    let found = percentile_found p c.loop-value.seen c.saturating_mul-wanted.result values infinite c.args.self.now.counts.entries (map deref_pair c.loop-value.yielded) c.loop-value.value-iterator
    c.loop-value.invariant.walked told.counts few_values wants c.loop-value.invariant.seen c.loop-value.invariant.short
    (deref_pair (c.in-Some.value, c.in-Some.count)) c.next.new.self c.saturating_add-seen.result next c.iter-value-items.ensures.ordered c.saturating_add-seen.ensures (omega (arith, c.saturating_mul-reached.ensures, c.if-wanted-reached.true)) in
    rw c.from-then-wanted-reached.ensures found

pub returns : goal.returns
returns c values few_values few told =
    let p = c.args.hundredths in
    let infinite = c.args.infinite in
    let wants = wanted_is p infinite values c.requires.high few_values few told.total c.saturating_add-all.ensures c.from.ensures c.saturating_mul-wanted.ensures in
    let next = rest_all deref_pair c.loop-value.value-iterator c.next.new.self c.next.result c.in-None.is c.next.ensures.steps in
    none_found p c.loop-value.seen c.saturating_mul-wanted.result values infinite c.args.self.now.counts.entries (map deref_pair c.loop-value.yielded) c.loop-value.value-iterator
    c.loop-value.invariant.walked told.counts few_values wants c.loop-value.invariant.seen c.loop-value.invariant.short next
