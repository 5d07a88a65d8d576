use Rattle.scenario.proofs.{Words.{◌≡◌, ◌∙◌, ◌<◌, ℕ, ap, sym, length, get_or, take, is_some, None, rules, arith, true, false, subst, take_all, table_view, delays_of, is_bad_pair, tables_in}, Elements.{IsAt}}
use Rattle.scenario.proofs.{Slots.{at_place, bad_among, again, clean, kept}, Firsts.{applies}, KeyFacts.{pair_keys, pair_place}, Taking.{links_whole}}
use Rattle.scenario.proofs.links.read_pairs.Goals as goal

pub returns-in_default-clause-judged : goal.returns-in_default-clause-judged
returns-in_default-clause-judged c = λ other.
    let spot : IsAt c.args.tables.now c.loop-i.i c.index-tables-i.result = record { low = c.loop-i-test.true; is = c.index-tables-i.is } in
    let n = c.args.top.now.numbers.processes in
    let bad : is_bad_pair n (table_view c.index-tables-i.result.now) ≡ true = search (rules, c.read_pair.ensures.test) in
    applies _ _ (rw (← c.requires.numbers.processes, ← c.requires.tables) (bad_among (pair_keys n) (is_bad_pair n) delays_of c.args.tables.now c.loop-i.i c.index-tables-i.result spot bad))

pub returns-then-is_some-clause-judged : goal.returns-then-is_some-clause-judged
returns-then-is_some-clause-judged c = λ other.
    let spot : IsAt c.args.tables.now c.loop-i.i c.index-tables-i.result = record { low = c.loop-i-test.true; is = c.index-tables-i.is } in
    let n = c.args.top.now.numbers.processes in
    let pair : ℕ × ℕ = (c.in-Some.pair.from, c.in-Some.pair.to) in
    let within : c.place_of-place.result < length c.loop-i.links.items = subst (λ m. c.place_of-place.result < m) (sym c.loop-i.invariant.hold.full) c.place_of-place.ensures.within in
    let here : is_some (get_or c.loop-i.links.items (pair_place n pair) None) ≡ true = ap (λ q. is_some (get_or c.loop-i.links.items q None)) (sym c.place_of-place.ensures.value) ∙ at_place c.loop-i.links.items c.place_of-place.result c.index.result.now true within c.index.ensures (sym c.is_some.ensures ∙ c.if-is_some.true) in
    applies _ _ (rw (← c.requires.numbers.processes, ← c.requires.tables) (again (pair_keys n) (is_bad_pair n) delays_of c.args.tables.now c.loop-i.i c.index-tables-i.result spot c.loop-i.links.items c.loop-i.invariant.hold pair c.in-Some.ensures.pair c.in-Some.ensures.processes here))

pub loop-i-preserved : goal.loop-i-preserved
loop-i-preserved c =
    let spot : IsAt c.args.tables.now c.loop-i.i c.index-tables-i.result = record { low = c.loop-i-test.true; is = c.index-tables-i.is } in
    let n = c.args.top.now.numbers.processes in
    let pair : ℕ × ℕ = (c.in-Some.pair.from, c.in-Some.pair.to) in
    let within : c.place_of-place.result < length c.loop-i.links.items = subst (λ m. c.place_of-place.result < m) (sym c.loop-i.invariant.hold.full) c.place_of-place.ensures.within in
    let free : is_some (get_or c.loop-i.links.items (pair_place n pair) None) ≡ false = ap (λ q. is_some (get_or c.loop-i.links.items q None)) (sym c.place_of-place.ensures.value) ∙ at_place c.loop-i.links.items c.place_of-place.result c.index.result.now false within c.index.ensures (sym c.is_some.ensures ∙ c.if-is_some.false) in
    record {
      clean = clean (pair_keys n) (is_bad_pair n) delays_of c.args.tables.now c.loop-i.i c.index-tables-i.result spot c.loop-i.links.items c.loop-i.invariant.hold pair c.in-Some.ensures.pair c.in-Some.ensures.processes free c.loop-i.invariant.clean (sym c.in-Some.ensures.test);
      hold = rw c.place_of-place.ensures.value (kept (pair_keys n) (is_bad_pair n) delays_of c.args.tables.now c.loop-i.i c.index-tables-i.result spot c.loop-i.links.items c.loop-i.invariant.hold pair c.in-Some.ensures.pair c.in-Some.ensures.processes c.in-Some.pair.link c.in-Some.ensures.link free);
    }

pub returns-clause-value : goal.returns-clause-value
returns-clause-value c = λ common.
    let all : take c.loop-i.i c.args.tables.now ≡ c.args.tables.now = take_all c.loop-i.i c.args.tables.now (omega arith) in
    rw (← c.requires.numbers.processes, ← c.requires.tables) (links_whole common c.args.top.now.numbers.processes c.loop-i.links.items (tables_in c.args.tables.now) (rw all at c.loop-i.invariant.hold))
