use Rattle.scenario.proofs.{Words.{◌≡◌, ◌∙◌, ◌+◌, ap, sym, rules, arith, Some, None, find, range_with_len, flat_map, table_view, record_of, is_below, pairs_from, link_in}, BelowFacts.{below_of_parts}, Steps.{next_row}}
use Rattle.scenario.proofs.below.first_below.Goals as goal

pub loop-from-init : goal.loop-from-init
loop-from-init c =
    let n = c.args.top.now.numbers.processes in
    let lookahead = c.args.top.now.numbers.lookahead in
    below_of_parts (record_of (table_view c.args.top.now.table.now)) n lookahead c.args.links.now c.requires.numbers.processes c.requires.numbers.lookahead c.requires.links
    ∙ ap (λ k. find (is_below (link_in n c.args.links.now) lookahead) (flat_map (pairs_from n) (range_with_len 1 k))) (omega arith)

pub returns-in-Some-clause-value : goal.returns-in-Some-clause-value
returns-in-Some-clause-value c =
    let n = c.args.top.now.numbers.processes in
    let P = is_below (link_in n c.args.links.now) c.args.top.now.numbers.lookahead in
    let here : Some c.in-Some.pair ≡ find P (pairs_from n c.loop-from.from) = sym c.in-Some.is ∙ c.first_from.ensures.value in
    sym (c.loop-from.invariant ∙ next_row P (pairs_from n) c.loop-from.from (n + 1) (Some c.in-Some.pair) c.loop-from-test.true here)

pub loop-from-preserved : goal.loop-from-preserved
loop-from-preserved c =
    let n = c.args.top.now.numbers.processes in
    let P = is_below (link_in n c.args.links.now) c.args.top.now.numbers.lookahead in
    let here : None ≡ find P (pairs_from n c.loop-from.from) = search (rules, c.in_default.is, c.first_from.ensures.value) in
    c.loop-from.invariant ∙ next_row P (pairs_from n) c.loop-from.from (n + 1) None c.loop-from-test.true here
