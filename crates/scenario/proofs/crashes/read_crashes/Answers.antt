use Rattle.scenario.proofs.{Words.{◌≡◌, ◌∙◌, ◌-◌, sym, length, take, get_or, is_some, None, rules, arith, true, false, take_all, table_view, crash_tick, is_bad_crash, IsProcess, tables_in}, Elements.{IsAt}}
use Rattle.scenario.proofs.{Slots.{at_place, bad_among, again, clean, kept}, Firsts.{applies}, KeyFacts.{process_keys}, Taking.{crashes_whole}}
use Rattle.scenario.proofs.crashes.read_crashes.Goals as goal

pub returns-in_default-clause-judged : goal.returns-in_default-clause-judged
returns-in_default-clause-judged c = λ other.
    let spot : IsAt c.args.tables.now c.loop-i.i c.index-tables-i.result = record { low = c.loop-i-test.true; is = c.index-tables-i.is } in
    let n = c.args.top.now.numbers.processes in
    let bad : is_bad_crash n (table_view c.index-tables-i.result.now) ≡ true = search (rules, c.read_crash.ensures.test) in
    applies _ _ (rw (← c.requires.numbers.processes, ← c.requires.tables) (bad_among (process_keys n) (is_bad_crash n) crash_tick c.args.tables.now c.loop-i.i c.index-tables-i.result spot bad))

pub returns-then-is_some-clause-judged : goal.returns-then-is_some-clause-judged
returns-then-is_some-clause-judged c = λ other.
    let spot : IsAt c.args.tables.now c.loop-i.i c.index-tables-i.result = record { low = c.loop-i-test.true; is = c.index-tables-i.is } in
    let n = c.args.top.now.numbers.processes in
    let p = c.in-Some.crash.process in
    let full : length c.loop-i.ticks.items ≡ n = c.loop-i.invariant.hold.full in
    let good : IsProcess n p = c.in-Some.ensures.one_of_them in
    let here : is_some (get_or c.loop-i.ticks.items (p - 1) None) ≡ true = at_place c.loop-i.ticks.items (p - 1) c.index.result.now true (omega arith) c.index.ensures (sym c.is_some.ensures ∙ c.if-is_some.true) in
    applies _ _ (rw (← c.requires.numbers.processes, ← c.requires.tables) (again (process_keys n) (is_bad_crash n) crash_tick c.args.tables.now c.loop-i.i c.index-tables-i.result spot c.loop-i.ticks.items c.loop-i.invariant.hold p c.in-Some.ensures.process good here))

pub loop-i-preserved : goal.loop-i-preserved
loop-i-preserved c =
    let spot : IsAt c.args.tables.now c.loop-i.i c.index-tables-i.result = record { low = c.loop-i-test.true; is = c.index-tables-i.is } in
    let n = c.args.top.now.numbers.processes in
    let p = c.in-Some.crash.process in
    let full : length c.loop-i.ticks.items ≡ n = c.loop-i.invariant.hold.full in
    let good : IsProcess n p = c.in-Some.ensures.one_of_them in
    let free : is_some (get_or c.loop-i.ticks.items (p - 1) None) ≡ false = at_place c.loop-i.ticks.items (p - 1) c.index.result.now false (omega arith) c.index.ensures (sym c.is_some.ensures ∙ c.if-is_some.false) in
    record {
      clean = clean (process_keys n) (is_bad_crash n) crash_tick c.args.tables.now c.loop-i.i c.index-tables-i.result spot c.loop-i.ticks.items c.loop-i.invariant.hold p c.in-Some.ensures.process good free c.loop-i.invariant.clean (sym c.in-Some.ensures.test);
      hold = kept (process_keys n) (is_bad_crash n) crash_tick c.args.tables.now c.loop-i.i c.index-tables-i.result spot c.loop-i.ticks.items c.loop-i.invariant.hold p c.in-Some.ensures.process good c.in-Some.crash.at c.in-Some.ensures.tick free;
    }

pub returns-clause-value : goal.returns-clause-value
returns-clause-value c =
    let all : take c.loop-i.i c.args.tables.now ≡ c.args.tables.now = take_all c.loop-i.i c.args.tables.now (omega arith) in
    rw (← c.requires.numbers.processes, ← c.requires.tables) (crashes_whole c.args.top.now.numbers.processes c.loop-i.ticks.items (tables_in c.args.tables.now) (rw all at c.loop-i.invariant.hold))
