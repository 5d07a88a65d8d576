use Rattle.reporting.proofs.Words.{◌≡◌, ◌++◌, map, take, IsBetweenRows, text_of, front_of, rows_about, value_text}
use Rattle.reporting.proofs.report_rows.push_values.Given as goal

-- the front, and the rows so far
abbrev pub invariant-loop-name : goal.invariant-loop-name
invariant-loop-name l = record {
  front : l.front.items ≡ front_of l.fn.about;
  between : IsBetweenRows l.rows;
  text : text_of l.rows ≡ text_of l.initial.rows ++ rows_about l.fn.about (map (λ v. (v.0.now, value_text v.1)) (take l.name-index l.values));
}
