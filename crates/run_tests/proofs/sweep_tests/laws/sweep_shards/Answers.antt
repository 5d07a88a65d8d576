use Rattle.run_tests.proofs.{Words.{◌≡◌, ℕ, Some, sym, subst, arith, AllZip, range_with_len, sources_of, Held, ShardRecord, WroteStudy, Text, IsStudyText}, InTurn.{none_out, one_more}}
use Rattle.run_tests.proofs.sweep_tests.laws.sweep_shards.Goals as goal

pub loop-before-init : goal.loop-before-init
loop-before-init g c =
    none_out (sources_of c.args.sources.now) c.args.grid.now c.args.layout.now c.args.shards c.new-outlet.result c.new-outlet.ensures

pub sweep-requires-clause-failures : goal.sweep-requires-clause-failures
sweep-requires-clause-failures g c κs within = omega (arith, c.loop-before.invariant.failures)

pub loop-before-preserved : goal.loop-before-preserved
loop-before-preserved g c =
    let P : ShardRecord → Type 0 = λ s. WroteStudy (sources_of c.args.sources.now) c.args.grid.now s c.args.layout.now
    (λ (o : Held). Some o.bytes) (λ o. o.failures) c.loop-before.outlet c.sweep.new.outlet in
    one_more (sources_of c.args.sources.now) c.args.grid.now c.args.layout.now c.args.shards c.loop-before.before c.loop-before.outlet
    c.sweep.new.outlet c.loop-before.invariant (subst P c.in-Some.ensures.value c.in_ok-sweep.ensures.done)

pub returns : goal.returns
returns g c =
    let out = c.loop-before.invariant in
    let all : c.loop-before.before ≡ c.args.shards =
    omega (arith, c.loop-before-test.false, c.loop-before.auto.before-end) in
    let IsText : ShardRecord → Text → Type 0 = λ s t. IsStudyText (sources_of c.args.sources.now) c.args.grid.now s c.args.layout.now t in
    let P : ℕ → Type 0 = λ n. AllZip (λ number text. IsText (record { number = number; of = c.args.shards }) text)
    (range_with_len 1 n) out.texts in
    let Q : Text → Type 0 = λ t. IsText (record { number = 1; of = 1 }) t in
    record { whole = subst Q (sym out.bytes) (c.law_shard_texts.ensures out.texts (subst P all out.each)) }
