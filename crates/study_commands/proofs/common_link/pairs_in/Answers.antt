use Rattle.study_commands.proofs.{Words.{◌∙◌, ◌++◌, ℕ, ap, sym, take, Option, option_to_list, filter_map, pair_in, view, Value}, AddedItems.{filter_map_more}}
use Rattle.study_commands.proofs.common_link.pairs_in.Goals as goal

pub loop-value-preserved : goal.loop-value-preserved
loop-value-preserved c =
    let f : Value → Option (ℕ × ℕ) = λ w. pair_in (view w) in
    let values = c.args.values.now in
    let k = c.loop-value.value-index in
    c.in_ok-push_some.ensures
    ∙ ap (λ l. l ++ option_to_list c.pair_at.result) c.loop-value.invariant
    ∙ ap (λ o. filter_map f (take k values) ++ option_to_list o) (c.pair_at.ensures ∙ ap f c.value-item.is)
    ∙ sym (filter_map_more f values k c.value-item.result c.loop-value-test.true)
