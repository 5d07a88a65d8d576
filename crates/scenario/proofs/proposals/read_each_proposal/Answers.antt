use Rattle.scenario.proofs.{Words.{◌≡◌, ◌==◌, rules, true, false, map, length, Some, codes, list_any, items_view, table_view, array_in, the_integers, natural, is_bad_proposal}, Firsts.{applies, passes}}
use Rattle.scenario.proofs.ProposalFacts.{other_count, right_count}
use Rattle.scenario.proofs.proposals.read_each_proposal.Goals as goal

pub returns-then-len-from-clause-judged : goal.returns-then-len-from-clause-judged
returns-then-len-from-clause-judged c = λ other.
    let array : Some (items_view c.in-Some.values.now.items) ≡ array_in (codes "proposals") (table_view c.args.top.now) = search rules in
    let made : c.in-Some-2.proposals.items ≡ map natural (the_integers (items_view c.in-Some.values.now.items)) = search rules in
    let count : (length c.in-Some-2.proposals.items == c.args.n) ≡ false = search rules in
    applies _ _ (other_count c.args.n (codes "proposals") (table_view c.args.top.now) (items_view c.in-Some.values.now.items) c.in-Some-2.proposals.items array made count)

pub returns-clause-judged : goal.returns-clause-judged
returns-clause-judged c =
    let array : Some (items_view c.in-Some.values.now.items) ≡ array_in (codes "proposals") (table_view c.args.top.now) = search rules in
    let made : c.in-Some-2.proposals.items ≡ map natural (the_integers (items_view c.in-Some.values.now.items)) = search rules in
    let good : list_any is_bad_proposal (the_integers (items_view c.in-Some.values.now.items)) ≡ false = search rules in
    let count : (length c.in-Some-2.proposals.items == c.args.n) ≡ true = search rules in
    passes _ _ (right_count c.args.n (codes "proposals") (table_view c.args.top.now) (items_view c.in-Some.values.now.items) c.in-Some-2.proposals.items array made good count)
