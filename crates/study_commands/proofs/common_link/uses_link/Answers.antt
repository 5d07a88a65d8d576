use Rattle.study_commands.proofs.{Words.{◌≡◌, ◌∙◌, ℕ, ap, map, IfOk-weaker, list_any, range_with_len, pair_of, linked_pairs, sends_by_link, table_view}, CommonLink.{pairs_are}}
use Rattle.study_commands.proofs.common_link.uses_link.Goals as goal

pub returns : goal.returns
returns c =
    let t = table_view c.args.table.now in
    let linked : c.deref.result.now ≡ linked_pairs t =
    c.deref.ensures.value ∙ c.in_ok-pairs.ensures ∙ pairs_are c.link_values.result.now
    ∙ ap (map pair_of) c.link_values.ensures in
    IfOk-weaker c.do_any_send.result _ _
    (λ any is. is ∙ ap (λ l. list_any (sends_by_link l c.args.processes) (range_with_len 1 c.args.processes)) linked
    ∙ ap (λ (n : ℕ). list_any (sends_by_link (linked_pairs t) n) (range_with_len 1 n)) c.requires)
    c.do_any_send.ensures
