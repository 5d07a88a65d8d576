use Rattle.std.proofs.Common.{◌≡◌, ◌∙◌, Some, None, ap, codes, option_map, sym}
use Rattle.study_commands.proofs.{Words.{get_member, table_view, view}, CommonLink.{tables_nowhere, tables_there}}
use Rattle.study_commands.proofs.common_link.link_values.Goals as goal

pub returns-in-Some : goal.returns-in-Some
returns-in-Some c =
    let t = table_view c.args.table.now in
    let there : Some (view c.in-Some.value.now) ≡ get_member (codes "links") t =
    sym (ap (option_map (λ v. view v.now)) c.in-Some.is) ∙ c.value_at.ensures in
    c.values_in.ensures ∙ tables_there (codes "links") t (view c.in-Some.value.now) there

pub returns-in-None : goal.returns-in-None
returns-in-None c =
    let t = table_view c.args.table.now in
    let nowhere : None ≡ get_member (codes "links") t =
    sym (ap (option_map (λ v. view v.now)) c.in-None.is) ∙ c.value_at.ensures in
    tables_nowhere (codes "links") t nowhere
