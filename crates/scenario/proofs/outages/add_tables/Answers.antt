use Rattle.scenario.proofs.{Words.{◌≡◌, ◌∙◌, sym, refl, take, take_all, list_any-append, length-map, table_view, is_bad_outage, outages_in, tables_in}, Elements.{IsAt}, Slots.{bad_one, one_more}, Firsts.{answered, applies, passes, unread}, Cuts.{pairs_length}}
use Rattle.scenario.specs.declared.error.ScenarioError.TheVariants.{Memory}
use Rattle.scenario.proofs.outages.add_tables.Goals as goal

pub loop-i-init : goal.loop-i-init
loop-i-init c = record { clean = refl; lists = c.requires.none }

pub returns-in_default-clause-judged : goal.returns-in_default-clause-judged
returns-in_default-clause-judged c = λ other.
    let spot : IsAt c.args.tables.now c.loop-i.i c.index-tables-i.result = record { low = c.loop-i-test.true; is = c.index-tables-i.is } in
    applies _ _ (bad_one (is_bad_outage c.args.top.now.numbers.processes) c.args.tables.now c.loop-i.i c.index-tables-i.result spot (sym c.in_default.ensures.test))

pub add-requires-clause-all : goal.add-requires-clause-all
add-requires-clause-all c =
    sym (length-map c.loop-i.lists.items (λ v. v.items)) ∙ pairs_length c.args.top.now.numbers.processes (outages_in c.loop-i.lists.items) (tables_in (take c.loop-i.i c.args.tables.now)) c.loop-i.invariant.lists

pub returns-in_err-add : goal.returns-in_err-add
returns-in_err-add c = record {
  judged = answered _ Memory c.from_residual.result c.from_residual.ensures.1 (λ other. cc);
  lists = unread _ c.from_residual.result _ c.from_residual.ensures.1;
}

pub loop-i-preserved : goal.loop-i-preserved
loop-i-preserved c =
    let tables = c.args.tables.now in
    let table = c.index-tables-i.result in
    let more = one_more tables c.loop-i.i table (record { low = c.loop-i-test.true; is = c.index-tables-i.is }) in
    record {
      clean = rw (more, list_any-append, c.loop-i.invariant.clean, ← c.in-Some.ensures.test) refl;
      lists = rw more (c.in_ok-add.ensures.lists (table_view table.now) c.in-Some.ensures.says (tables_in (take c.loop-i.i tables)) c.loop-i.invariant.lists);
    }

pub returns : goal.returns
returns c =
    let all : take c.loop-i.i c.args.tables.now ≡ c.args.tables.now = take_all c.loop-i.i c.args.tables.now c.loop-i-test.false in
    record { judged = passes _ _ (rw all at c.loop-i.invariant.clean); lists = rw all at c.loop-i.invariant.lists }
