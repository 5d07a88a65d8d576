use Rattle.run_tests.proofs.Words.{◌≡◌, ℕ, ◌+◌, ◌-◌, [], ◌∷◌, ◌++◌, List, sym, ap, ◌∙◌, arith, rules, flat_map, range_with_len, flat_map_more, block, range_more}
use Rattle.std.specs.declared.ops.Range.{Range}
use Rattle.run_tests.proofs.sweep_tests.laws.points_of_shards.Goals as goal

pub loop-before-preserved : goal.loop-before-preserved
loop-before-preserved c =
    let n : ℕ = c.loop-before.before in
    let F : Range ℕ → List ℕ = λ r. range_with_len r.start (r.end - r.start) in
    let G : ℕ → List ℕ = λ number. block (range_with_len 0 c.args.points) (record { number = number; of = c.args.shards }) in
    let pushed : c.push.new.self.items ≡ c.loop-before.ranges.items ++ c.points.result ∷ [] = search rules in
    let here : F c.points.result ≡ G (1 + n) = sym (ap (λ s. block (range_with_len 0 c.args.points) s) (search rules) ∙ c.points.ensures.block) in
    ap (flat_map F) pushed ∙ sym (flat_map_more F [] c.loop-before.ranges.items c.points.result)
    ∙ (λ i. c.loop-before.invariant i ++ here i)
    ∙ flat_map_more G [] (range_with_len 1 n) (1 + n) ∙ ap (flat_map G) (sym (range_more 1 n))

pub returns : goal.returns
returns c =
    let all : c.loop-before.before ≡ c.args.shards = omega (arith, c.loop-before-test.false, c.loop-before.auto.before-end) in
    let G : ℕ → List ℕ = λ number. block (range_with_len 0 c.args.points) (record { number = number; of = c.args.shards }) in
    c.loop-before.invariant ∙ ap (λ n. flat_map G (range_with_len 1 n)) all ∙ c.law_shards.ensures.whole (range_with_len 0 c.args.points)
