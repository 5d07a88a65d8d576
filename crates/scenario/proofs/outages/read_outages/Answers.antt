use Rattle.scenario.proofs.{Words.{◌≡◌, ◌∙◌, ◌≤◌, ◌+◌, ◌++◌, [], sym, map, length, rules, arith, length-append, take_all, length-map, outages_among, outage_table, outages_in, tables_in}, Cuts.{pairs_all, pairs_length}}
use Rattle.scenario.proofs.outages.read_outages.Goals.{else-is_empty-via-then-is_empty+else-is_empty-2, else-is_empty-via-else-is_empty}
use Rattle.scenario.proofs.outages.read_outages.Goals as goal

pub returns-then-is_empty-2-clause-value : goal.returns-then-is_empty-2-clause-value
unfolding outages_among
returns-then-is_empty-2-clause-value c =
    let no_tables : length c.args.tables.now ≡ 0 = search rules in
    let none_drawn : length c.args.drawn.now ≡ 0 = search rules in
    let tables : [] ≡ c.args.tables.now = take_all 0 c.args.tables.now (omega arith) in
    let drawn : [] ≡ c.args.drawn.now = take_all 0 c.args.drawn.now (omega arith) in
    rw (← c.requires.tables, ← tables, ← drawn) c.new.ensures.items

pub add_drawn-requires-clause-all : goal.add_drawn-requires-clause-all
add_drawn-requires-clause-all c =
    sym (length-map c.add_tables.new.lists.items (λ v. v.items))
    ∙ pairs_length c.args.top.now.numbers.processes (outages_in c.add_tables.new.lists.items) (tables_in c.args.tables.now) c.in_ok-add_tables.ensures.lists

pub returns-clause-value : goal.returns-clause-value
returns-clause-value c =
    let n = c.args.top.now.numbers.processes in
    let tables = tables_in c.args.tables.now in
    let drawn = map outage_table c.args.drawn.now in
    let sides : 1 ≤ length c.args.tables.now + length c.args.drawn.now = elim c.else-is_empty.branch [
      | else-is_empty-via-then-is_empty+else-is_empty-2 w ↦ let some : 1 ≤ length c.args.drawn.now = search rules in omega arith
      | else-is_empty-via-else-is_empty w ↦ let some : 1 ≤ length c.args.tables.now = search rules in omega arith
    ] in
    let some : 1 ≤ length (tables ++ drawn) = simp (length-append, length-map) sides in
    c.in_ok-links.ensures
    ∙ (c.in_ok-add_drawn.ensures.lists tables c.in_ok-add_tables.ensures.lists ∙ rw (← c.requires.tables) (pairs_all n (tables ++ drawn) some))
