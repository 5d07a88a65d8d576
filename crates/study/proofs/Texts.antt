-- The table, the scenario and the text of a run.
use Rattle.study.proofs.Basics.{◌≡◌, Option, None, Some, MatchOption, Ok, Err, sym, ap, ◌∙◌, Members, with_outages, record_of, processes_of, laid_links, SourcesRecord, horizon_of, seed_of, lay_links, IsLaidBy, file_over}
use Rattle.{study.proofs.OneNetwork.{one_drawn, one_links}, scenario_record.specs.Record.{Record}}
use Rattle.study.specs.Laid.{RunSources, IsRunTable, IsScenarioOf}

-- ---- a run has one table and one scenario

one_laid_by : (t f u v : Members) → IsLaidBy t f u → IsLaidBy t f v → u ≡ v
one_laid_by t f u v a b =
    let drawn = one_drawn (processes_of t) (horizon_of t) (seed_of t) f a.its b.its a.fits.is.says b.fits.is.says in
    let links = one_links _ a.its.links.items b.its.links.items a.fits.is.says.links b.fits.is.says.links in
    a.laid_is ∙ ((λ i. with_outages (drawn i) (lay_links (laid_links (links i) (processes_of t)) t)) ∙ sym b.laid_is)

one_laid : (s : SourcesRecord) (o : Option Members) (u v : Members)
    → MatchOption o (u ≡ s.scenario) (λ f. IsLaidBy s.scenario f u)
    → MatchOption o (v ≡ s.scenario) (λ f. IsLaidBy s.scenario f v) → u ≡ v
one_laid s None u v a b = a ∙ sym b
one_laid s (Some f) u v a b = one_laid_by s.scenario f u v a b

pub one_table : (r : RunSources) (t u : Members) → IsRunTable r t → IsRunTable r u → t ≡ u
one_table (Ok s) t u a b = one_laid s (file_over s) t u a b
one_table (Err e) t u a b = absurd a

pub one_scenario : (r : RunSources) (a b : Record) → IsScenarioOf r a → IsScenarioOf r b → a ≡ b
one_scenario r a b x y =
    x.stands_for.record_is ∙ (ap record_of (one_table r x.table y.table x.is_table y.is_table) ∙ sym y.stands_for.record_is)
