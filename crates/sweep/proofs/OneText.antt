-- A study has one text: the runs have one result each, and the rows are told by them.
use Rattle.sweep.proofs.Words.{◌≡◌, ℕ, ◌<◌, ◌++◌, List, length, refl, sym, ap, ◌∙◌, subst, arith, flat_map, SourcesRecord, Record, Chosen, GridRecord, RunRecord, ShardRecord, RunResult, finished, limited, IsResult, Trial, LayoutRecord, Text, AreRowsFor, point_at, unit_point, unit_runs, unit_first, lead_of, header_of, units_of, IsTrialOf, AreRowsOf, HasRowsOf, HasOneText}
use Rattle.{sweep.proofs.OneRow.{one_list, one_rows_for}, trace_laws.specs.Setting.{setting_of}}
use Rattle.{trace_laws.proofs.Closed.{one_trace}, study.specs.Placed.{sources_of_run}}
use Rattle.study.proofs.Texts.{one_scenario}

one_result : (S : Record) (a b : RunResult) → IsResult S a → IsResult S b → a ≡ b
one_result S (finished t) (finished u) a b = ap finished (one_trace (setting_of S) u t b.is_trace a.is_trace)
one_result S (finished t) limited a b =
    let long : S.limit < length t = b t a.is_trace in absurd (omega (arith, long, a.within))
one_result S limited (finished u) a b =
    let long : S.limit < length u = a u b.is_trace in absurd (omega (arith, long, b.within))
one_result S limited limited a b = refl

one_trial : (sources : SourcesRecord) (settings : List Chosen) (run : RunRecord) (t u : Trial) → IsTrialOf sources settings run t
    → IsTrialOf sources settings run u → t ≡ u
one_trial sources settings run t u a b =
    let same = one_scenario (sources_of_run settings run sources) t.scenario u.scenario a.scenario b.scenario in
    let P : Record → Type 0 = λ S. IsResult S u.result in
    let result = one_result t.scenario t.result u.result a.result (subst P (sym same) b.result) in
    λ i. record { scenario = same i; result = result i }

module _ (sources : SourcesRecord) (g : GridRecord) (layout : LayoutRecord) where
  one_rows : (unit : ℕ) (a b : Text) → AreRowsOf sources g layout unit a → AreRowsOf sources g layout unit b → a ≡ b
  one_rows unit a b x y =
      let settings : List Chosen = point_at g (unit_point layout.rows g unit) in
      let lead : List Text = lead_of layout.rows g unit in
      let first : ℕ = unit_first layout.rows g unit in
      let same = one_list (IsTrialOf sources settings) (one_trial sources settings) (unit_runs layout.rows g unit) x.trials y.trials x.each y.each in
      let P : List Trial → Type 0 = λ l. AreRowsFor layout.picks lead layout.groups first l b in
      one_rows_for layout.picks lead first x.trials layout.groups a b x.told (subst P (sym same) y.told)

  all_rows_one : (units : List ℕ) (a b : Text) → HasRowsOf sources g layout units a → HasRowsOf sources g layout units b → a ≡ b
  all_rows_one units a b x y =
      x.text_is
      ∙ ap (λ l. flat_map (λ r. r) l) (one_list (AreRowsOf sources g layout) one_rows units x.parts y.parts x.each y.each)
      ∙ sym y.text_is

  pub one_text : (shard : ShardRecord) → HasOneText sources g shard layout
  one_text shard a b x y =
      x.text_is ∙ ap (λ t. header_of g shard layout ++ t) (all_rows_one (units_of layout.rows g shard) x.rows y.rows x.has y.has) ∙ sym y.text_is
