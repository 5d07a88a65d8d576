use Rattle.study.proofs.{Basics.{map, arith, length-map, settings_in, range_of, range_by}, Pieces.{range_added, range_many}}
use Rattle.study.proofs.axis_words.push_range.Goals as goal

pub returns-then-steps-len-clause-err : goal.returns-then-steps-len-clause-err
returns-then-steps-len-clause-err c other =
    range_many (map settings_in c.args.values.now.items) (range_by c.args.words) (range_of c.in_ok-range.range)
    c.in_ok-range.ensures.ok.0 c.in_ok-range.ensures.ok.1
    (omega (arith, length-map c.args.values.now.items settings_in, c.args.values.now.ok.0))

pub returns-in-Ok-clause-ok : goal.returns-in-Ok-clause-ok
returns-in-Ok-clause-ok c =
    range_added (map settings_in c.args.values.now.items) (map settings_in c.push_numbers.new.values.items)
    (range_by c.args.words) (range_of c.in_ok-range.range) c.in_ok-range.ensures.ok.0 c.in_ok-range.ensures.ok.1
    (omega (arith, length-map c.args.values.now.items settings_in, c.args.values.now.ok.0)) c.in-Ok.ensures
