use Rattle.study_line.proofs.{Basics.{rules, codes, found_of, rows_of, IsNumberAt, StatesIn}, Words.{lacks_part, show_has_numbers}}
use Rattle.study_line.proofs.order.read_show.Goals as goal

pub returns-in_err-number_at : goal.returns-in_err-number_at
returns-in_err-number_at c =
    let rows = rows_of (found_of c.args.found.now) in
    let lacks =
    lacks_part (IsNumberAt (codes "point") rows) (StatesIn (codes "show") rows)
    (λ asked h. (show_has_numbers rows asked h).0)
    c.in_err-number_at.field-0.0 c.in_err-number_at.ensures.1 in
    search rules

pub returns-in_err-number_at-2 : goal.returns-in_err-number_at-2
returns-in_err-number_at-2 c =
    let rows = rows_of (found_of c.args.found.now) in
    let lacks =
    lacks_part (IsNumberAt (codes "run") rows) (StatesIn (codes "show") rows)
    (λ asked h. (show_has_numbers rows asked h).1)
    c.in_err-number_at-2.field-0.0 c.in_err-number_at-2.ensures.1 in
    search rules
