use Rattle.scenario.proofs.Words.{◌≡◌, map, take, false, filter_map, list_any, as_integer, view, natural, is_bad_proposal}
use Rattle.scenario.proofs.proposals.proposals_among.Given as goal

abbrev pub invariant-loop-value : goal.invariant-loop-value
invariant-loop-value l = record {
  good : list_any is_bad_proposal (filter_map (λ v. as_integer (view v)) (take l.value-index l.values)) ≡ false;
  made : l.found.items ≡ map natural (filter_map (λ v. as_integer (view v)) (take l.value-index l.values));
}
