use Rattle.study_commands.proofs.Words.{rules, ◌≡◌, ◌∙◌, ◌+◌, ◌++◌, ap, append_assoc, codes, decimal, map, string_bytes, chosen, choices_text, point_at}
use Rattle.study_commands.proofs.run_name.name_of_point.Goals as goal

pub returns : goal.returns
returns c =
    let point = c.args.point in
    let settings = point_at c.args.grid.now point in
    let number : c.saturating_add-number.result ≡ point + 1 = search rules in
    let name : string_bytes c.in_ok-name.name ≡ codes "point " ++ decimal (point + 1) = search rules in
    let its : map chosen c.deref.result.now ≡ settings =
    ap (map chosen) c.deref.ensures.value ∙ c.in_ok-point.ensures in
    c.in_ok-push_choices.ensures
    ∙ ap (λ l. l ++ choices_text (codes " with ") (map chosen c.deref.result.now)) name
    ∙ ap (λ l. (codes "point " ++ decimal (point + 1)) ++ choices_text (codes " with ") l) its
    ∙ append_assoc (codes "point ") (decimal (point + 1)) (choices_text (codes " with ") settings)
