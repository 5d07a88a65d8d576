use Rattle.study.proofs.{Basics.{arith, map, length-map, settings_in, IsFault, first_fault, entries_said}, KeyNames.{carried}, Pieces.{fault_at, read_more, all_read}}
use Rattle.study.proofs.axis_words.read_entries.Goals as goal

pub returns-in_err-push_entry-clause-err : goal.returns-in_err-push_entry-clause-err
returns-in_err-push_entry-clause-err c =
    carried (IsFault (first_fault 1000000 (entries_said c.args.keys (map (λ x. x.now) c.args.words.now)))) c.from_residual.result
    c.in_err-push_entry.field-0.0 c.from_residual.ensures.1
    (λ other. fault_at c.args.keys c.args.words.now c.loop-word.word-index _ c.loop-word-test.true
    (map settings_in c.loop-word.values.items) c.in_err-push_entry.field-0.0 c.loop-word.invariant.read
    (c.in_err-push_entry.ensures.err other))

pub loop-word-preserved : goal.loop-word-preserved
loop-word-preserved c =
    let new = c.push_entry.new.values.items in
    let more = read_more c.args.keys c.args.words.now c.loop-word.word-index _ c.loop-word-test.true
    (map settings_in c.loop-word.values.items) (map settings_in new) c.loop-word.invariant.read c.in_ok-push_entry.ensures.ok in
    record { read = more; room = omega (arith, more.room, length-map new settings_in) }

pub returns-clause-ok : goal.returns-clause-ok
returns-clause-ok c =
    all_read c.args.keys c.args.words.now c.loop-word.word-index (map settings_in c.loop-word.values.items)
    c.loop-word-test.false c.loop-word.invariant.read
