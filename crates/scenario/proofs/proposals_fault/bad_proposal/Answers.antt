use Rattle.scenario.proofs.{Words.{◌∙◌, Some, ap, rules, sym, items_view, view}, Items.{item_view}, Findings.{integer_is}}
use Rattle.scenario.proofs.proposals_fault.bad_proposal.Goals as goal

pub returns-then-not-lies_within : goal.returns-then-not-lies_within
returns-then-not-lies_within c = λ file asks there. (
  asks,
  record {
    its = items_view c.args.values.now;
    there = sym there;
    is = item_view c.args.values.now c.loop-i.i c.index-values-i.result c.loop-i-test.true c.index-values-i.is ∙ ap Some (integer_is (view c.index-values-i.result) _ (search rules));
    outside = search rules;
  },
)
