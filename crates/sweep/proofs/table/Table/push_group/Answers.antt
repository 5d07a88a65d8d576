use Rattle.sweep.proofs.{Words.{rules, ◌≡◌, ◌++◌, ℕ, true, false, [], List, cond, ap, sym, ◌∙◌, append_assoc, append-nil, lead_of, picked, Group, Text, layer_fields, layer_text, line_text, Columns}, Lines.{on_ok}}
use Rattle.sweep.proofs.table.Table.push_group.Goals as goal

row : (old new : Text) (picks : List ℕ) (lead : List Text) (group : Group) (layer : ℕ) (c : Columns) (fields : List Text)
    → fields ≡ layer_fields lead group layer c → new ≡ old ++ line_text (picked picks fields) → new ≡ old ++ layer_text picks lead group layer c
unfolding layer_text
row old new picks lead group layer c fields are is = is ∙ ap (λ fs. old ++ line_text (picked picks fs)) are

pub returns-clause-text : goal.returns-clause-text
returns-clause-text c =
    on_ok c.push_fields-2.result (λ pushed number trials sums.
    let group = c.args.group.now in
    let picks = c.args.layout.now.picks in
    let lead = lead_of c.args.layout.now.rows c.args.grid.now c.args.unit in
    let one = c.first-first.result in
    let two = c.second-second.result in
    let first = layer_text picks lead group 1 one in
    let second = layer_text picks lead group 2 two in
    let some : c.has_second.result ≡ true = search rules in (
      first ++ second,
      record {
        one = one;
        two = two;
        on_first = c.first-first.ensures group number trials sums;
        on_second = c.second-second.ensures group number trials sums;
        text = ap (λ b. first ++ cond b second []) (sym some ∙ c.has_second.ensures group number trials sums);
      },
      row _ _ picks lead group 2 two _ c.in_ok-row-2.ensures pushed
          ∙ ap (λ t. t ++ second) (row _ _ picks lead group 1 one _ c.in_ok-row.ensures c.in_ok-push_fields.ensures.text)
          ∙ append_assoc _ first second,
    )) c.push_fields-2.ensures.text

pub returns-then-not-has_second-clause-text : goal.returns-then-not-has_second-clause-text
returns-then-not-has_second-clause-text c number trials sums =
    let group = c.args.group.now in
    let picks = c.args.layout.now.picks in
    let lead = lead_of c.args.layout.now.rows c.args.grid.now c.args.unit in
    let one = c.first-first.result in
    let first = layer_text picks lead group 1 one in
    let none : c.has_second.result ≡ false = search rules in (
      first,
      record {
        one = one;
        two = c.second-second.result;
        on_first = c.first-first.ensures group number trials sums;
        on_second = c.second-second.ensures group number trials sums;
        text = sym (append-nil first) ∙ ap (λ b. first ++ cond b (layer_text picks lead group 2 c.second-second.result) []) (sym none ∙ c.has_second.ensures group number trials sums);
      },
      row _ _ picks lead group 1 one _ c.in_ok-row.ensures c.in_ok-push_fields.ensures.text,
    )
