use Rattle.scenario.proofs.{Words.{◌∙◌, sym, table_view}, Firsts.{answered}, Rereading.{no_key_refused, keys_refused, numbers_refused, parts_refused, drawn_refused, none_refused, same_record, read_in_range}}
use Rattle.scenario.proofs.read.read_with_outages.Goals as goal

pub returns-then-lacks_key-clause-judged : goal.returns-then-lacks_key-clause-judged
returns-then-lacks_key-clause-judged c = no_key_refused c.args.drawn.now (table_view c.args.table.now) (sym c.if-lacks_key.ensures)

pub returns-in_err-check_keys-clause-judged : goal.returns-in_err-check_keys-clause-judged
returns-in_err-check_keys-clause-judged c =
    answered _ c.in_err-check_keys.field-0.0 c.from_residual-in_err-check_keys.result c.from_residual-in_err-check_keys.ensures.1
    (keys_refused c.args.drawn.now (table_view c.args.table.now) (sym c.if-lacks_key.ensures) c.in_err-check_keys.field-0.0 c.in_err-check_keys.ensures.judged)

pub returns-in_err-numbers-clause-judged : goal.returns-in_err-numbers-clause-judged
returns-in_err-numbers-clause-judged c =
    answered _ c.in_err-numbers.field-0.0 c.from_residual-in_err-numbers.result c.from_residual-in_err-numbers.ensures.1
    (numbers_refused c.args.drawn.now (table_view c.args.table.now) (sym c.if-lacks_key.ensures) c.in_ok-check_keys.ensures.judged c.in_err-numbers.field-0.0 c.in_err-numbers.ensures.judged)

pub returns-in_err-parts-clause-judged : goal.returns-in_err-parts-clause-judged
returns-in_err-parts-clause-judged c =
    answered _ c.in_err-parts.field-0.0 c.from_residual-in_err-parts.result c.from_residual-in_err-parts.ensures.1
    (parts_refused c.args.drawn.now (table_view c.args.table.now) (sym c.if-lacks_key.ensures) c.in_ok-check_keys.ensures.judged c.in_ok-numbers.ensures.judged c.in_err-parts.field-0.0 c.in_err-parts.ensures.judged)

pub returns-in_err-outages-clause-judged : goal.returns-in_err-outages-clause-judged
returns-in_err-outages-clause-judged c =
    answered _ c.in_err-outages.field-0.0 c.from_residual-in_err-outages.result c.from_residual-in_err-outages.ensures.1
    (drawn_refused c.args.drawn.now (table_view c.args.table.now) (sym c.if-lacks_key.ensures) c.in_ok-check_keys.ensures.judged c.in_ok-numbers.ensures.judged c.in_ok-parts.ensures.judged c.in_ok-numbers.numbers.processes c.in_ok-numbers.ensures.value.processes c.in_err-outages.field-0.0 c.in_err-outages.ensures.judged)

pub of-requires : goal.of-requires
of-requires c =
    let numbers = c.in_ok-numbers in
    read_in_range c.args.drawn.now (table_view c.args.table.now) (sym c.if-lacks_key.ensures) c.in_ok-check_keys.ensures.judged numbers.ensures.judged c.in_ok-parts.ensures.judged
    numbers.numbers.processes numbers.ensures.value.processes c.in_ok-outages.ensures.judged c.fields_of.result c.in_ok-outages.outages.items
    (c.fields_of.ensures (table_view c.args.table.now) numbers.ensures.value c.in_ok-parts.ensures.value) c.in_ok-outages.ensures.value
    numbers.numbers.seed numbers.ensures.value.seed numbers.ensures.value.seed_high

pub returns-clause-judged : goal.returns-clause-judged
returns-clause-judged c =
    let numbers = c.in_ok-numbers in
    none_refused c.args.drawn.now (table_view c.args.table.now) (sym c.if-lacks_key.ensures) c.in_ok-check_keys.ensures.judged numbers.ensures.judged c.in_ok-parts.ensures.judged
    numbers.numbers.processes numbers.ensures.value.processes c.in_ok-outages.ensures.judged

pub returns-clause-value : goal.returns-clause-value
returns-clause-value c =
    let numbers = c.in_ok-numbers in
    c.of.ensures
    ∙ same_record c.args.drawn.now (table_view c.args.table.now) (sym c.if-lacks_key.ensures) c.in_ok-check_keys.ensures.judged numbers.ensures.judged c.in_ok-parts.ensures.judged
    numbers.numbers.processes numbers.ensures.value.processes c.in_ok-outages.ensures.judged c.fields_of.result c.in_ok-outages.outages.items
    (c.fields_of.ensures (table_view c.args.table.now) numbers.ensures.value c.in_ok-parts.ensures.value) c.in_ok-outages.ensures.value
