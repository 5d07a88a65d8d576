use Rattle.command_line.proofs.{Basics.{◌≢◌, ◌∙◌, codes, sym, List, Row, Text, found_of, rows_of}, Words.{check_asks_nothing, compare_asks_nothing, list_asks_nothing, run_asks_nothing}}
use Rattle.command_line.specs.{Order.{StatesNothingIn}, declared.order.Order.{Order}}
use Rattle.command_line.specs.declared.order.Order.TheVariants as order
use Rattle.std.specs.Cmp.Lexicographic.{other_text, same_text}
use Rattle.command_line.proofs.order.read_found.Goals as goal

other_asks_nothing : (name : Text) (rows : List Row) → name ≢ codes "check" → name ≢ codes "list" → name ≢ codes "run" → name ≢ codes "compare" → StatesNothingIn name rows
other_asks_nothing name rows check list run compare (order.Check path) h = check h.0
other_asks_nothing name rows check list run compare (order.List path print) h = list h.0
other_asks_nothing name rows check list run compare (order.Run path workers window print) h = run h.0
other_asks_nothing name rows check list run compare (order.Compare path workers window) h = compare h.0

pub returns-else-eq-4-clause-missing : goal.returns-else-eq-4-clause-missing
returns-else-eq-4-clause-missing c none =
    other_asks_nothing c.args.name.now (rows_of (found_of c.args.found.now)) (other_text _ _ (sym c.if-eq.false ∙ c.eq.ensures)) (other_text _ _ (sym c.if-eq-2.false ∙ c.eq-else-eq.ensures))
    (other_text _ _ (sym c.if-eq-3.false ∙ c.eq-else-eq-2.ensures)) (other_text _ _ (sym c.if-eq-4.false ∙ c.eq-else-eq-3.ensures))

pub returns-then-eq-clause-missing : goal.returns-then-eq-clause-missing
returns-then-eq-clause-missing c none = check_asks_nothing (rows_of (found_of c.args.found.now)) c.args.name.now (same_text _ _ (sym c.if-eq.true ∙ c.eq.ensures)) (c.read_check.ensures.missing none)

pub returns-then-eq-2-clause-missing : goal.returns-then-eq-2-clause-missing
returns-then-eq-2-clause-missing c none = list_asks_nothing (rows_of (found_of c.args.found.now)) c.args.name.now (same_text _ _ (sym c.if-eq-2.true ∙ c.eq-else-eq.ensures)) (c.read_list.ensures.missing none)

pub returns-then-eq-3-clause-missing : goal.returns-then-eq-3-clause-missing
returns-then-eq-3-clause-missing c none = run_asks_nothing (rows_of (found_of c.args.found.now)) c.args.name.now (same_text _ _ (sym c.if-eq-3.true ∙ c.eq-else-eq-2.ensures)) (c.read_run.ensures.missing none)

pub returns-then-eq-4-clause-missing : goal.returns-then-eq-4-clause-missing
returns-then-eq-4-clause-missing c none = compare_asks_nothing (rows_of (found_of c.args.found.now)) c.args.name.now (same_text _ _ (sym c.if-eq-4.true ∙ c.eq-else-eq-3.ensures)) (c.read_compare.ensures.missing none)
