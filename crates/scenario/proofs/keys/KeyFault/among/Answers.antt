use Rattle.scenario.proofs.{Words.{◌≡◌, ◌∙◌, ap, sym, is_some, true, table_view, fault_of, array_key, fields_of_array, table_of}, Elements.{IsAt, numbered_table}, Slots.{bad_one}}
use Rattle.scenario.proofs.keys.KeyFault.among.Goals as goal

pub at-found-requires : goal.at-found-requires
at-found-requires c =
    let spot : IsAt c.args.tables.now c.loop-i.i c.index-tables-i.result = record { low = c.loop-i-test.true; is = c.index-tables-i.is } in
    sym (ap (λ p. table_of p (table_view c.args.top.now)) c.place.ensures ∙ numbered_table c.args.tables.now (table_view c.args.top.now) (array_key c.args.array) c.loop-i.i c.index-tables-i.result c.requires spot)

pub returns-then-is_some-clause-test : goal.returns-then-is_some-clause-test
returns-then-is_some-clause-test c =
    let spot : IsAt c.args.tables.now c.loop-i.i c.index-tables-i.result = record { low = c.loop-i-test.true; is = c.index-tables-i.is } in
    let here : is_some c.at-found.result ≡ true = sym c.is_some.ensures ∙ c.if-is_some.true in
    here ∙ sym (bad_one (fault_of c.args.self (fields_of_array c.args.array)) c.args.tables.now c.loop-i.i c.index-tables-i.result spot (sym (rw c.place.ensures at c.at-found.ensures.test) ∙ here))
