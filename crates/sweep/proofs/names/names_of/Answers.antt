use Rattle.sweep.proofs.Words.{◌≡◌, ◌++◌, append_assoc, map, length, length-append, length-map, string_bytes, ap, ◌∙◌, arith, column_names, columns_of_runs, group_names, lead_names}
use Rattle.sweep.proofs.names.names_of.Goals as goal

pub returns-clause-names : goal.returns-clause-names
returns-clause-names c =
    let lead : map string_bytes c.push_lead_names.new.names.items ≡ lead_names c.args.rows c.args.grid.now =
    c.in_ok-push_lead_names.ensures ∙ ap (λ l. map string_bytes l ++ lead_names c.args.rows c.args.grid.now) c.new-names.ensures.items in
    let groups = group_names c.args.groups.now in
    let leads = lead_names c.args.rows c.args.grid.now in
    c.in_ok-push_column_names.ensures ∙ ap (λ l. l ++ column_names) (c.in_ok-push_group_names.ensures ∙ ap (λ l. l ++ groups) lead)
    ∙ append_assoc leads groups column_names

pub returns-clause-some : goal.returns-clause-some
unfolding columns_of_runs
returns-clause-some c =
    omega (arith, ap length (returns-clause-names c), length-map c.push_column_names.new.names.items string_bytes, length-append (lead_names c.args.rows c.args.grid.now) (group_names c.args.groups.now ++ column_names), length-append (group_names c.args.groups.now) column_names)
