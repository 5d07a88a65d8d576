use Rattle.study_commands.proofs.Words.{◌≡◌, ◌∙◌, ap, arith, rules, sym, Some, refl, not, ◌==◌, length, List, [], ◌∷◌, codes, ne_eqb, array, get_member, items_view, table_view, view, Value, are_tables}
use Rattle.toml.proofs.Views.{view-Array}
use Rattle.study_commands.proofs.shared_outages.has_outage.Goals as goal

there : (tables : List Value) → not (length tables == 0) ≡ are_tables (Some (array (items_view tables)))
there [] = refl
there (v ∷ vs) = ap not (ne_eqb (length (v ∷ vs)) 0 (λ e. omega (arith, e)))

pub returns-in-Some-Array : goal.returns-in-Some-Array
returns-in-Some-Array c =
    let tables = c.in-Some-Array.tables.items in
    let empty : c.is_empty.result ≡ (length tables == 0) = search rules in
    let found : Some (array (items_view tables)) ≡ get_member (codes "outage") (table_view c.args.file.now) =
    sym (ap Some (view-Array c.in-Some-Array.tables))
    ∙ ap (λ (v : Value). Some (view v)) (sym c.in-Some-Array.field-0-is) ∙ c.in-Some-Array.ensures in
    ap not empty ∙ there tables ∙ ap are_tables found
