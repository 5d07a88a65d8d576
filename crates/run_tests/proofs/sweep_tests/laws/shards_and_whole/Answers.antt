use Rattle.run_tests.proofs.Words.{◌++◌, Some, sym, ap, ◌∙◌, subst, sources_of, Held, ShardRecord, WroteStudy, HasOneText}
use Rattle.run_tests.proofs.sweep_tests.laws.shards_and_whole.Goals as goal

-- both are the one text of the whole
pub returns : goal.returns
returns g c =
    let P : ShardRecord → Type 0 = λ s. WroteStudy (sources_of c.args.sources.now) c.args.grid.now s c.args.layout.now
    (λ (o : Held). Some o.bytes) (λ o. o.failures) c.new-whole.result c.sweep.new.outlet in
    let Q : ShardRecord → Type 0 = λ s. HasOneText (sources_of c.args.sources.now) c.args.grid.now s c.args.layout.now in
    let out = subst P c.whole.ensures c.in_ok-sweep.ensures.done in
    let one = subst Q c.whole-3.ensures c.law_one_text.ensures in
    let same = one c.in_ok-parts.parts.bytes out.text c.in_ok-parts.ensures.whole out.is_text in
    record { same = same ∙ sym (out.wrote.bytes ∙ ap (λ o. o.bytes ++ out.text) c.new-whole.ensures) }
