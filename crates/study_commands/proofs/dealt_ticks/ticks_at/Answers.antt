use Rattle.study_commands.proofs.{Words.{◌≡◌, ◌∙◌, ◌++◌, ap, sym, rules, option_to_list, take, filter_map, choices, settings_in, tick_said, tick_in}, Dealt.{ticks_more}}
use Rattle.study_commands.proofs.dealt_ticks.ticks_at.Goals as goal

pub loop-value-preserved : goal.loop-value-preserved
loop-value-preserved c =
    let axis = c.args.axis.now in
    let k = c.loop-value.value-index in
    let values = c.deref-value-items.ensures.value in
    let so_far = filter_map (tick_in c.args.place) (take k (choices axis)) in
    let said : c.tick_at.result ≡ tick_said c.args.place (settings_in c.value-item.result) = search rules in
    c.in_ok-push_some.ensures
    ∙ ap (λ l. l ++ option_to_list c.tick_at.result) c.loop-value.invariant
    ∙ ap (λ o. so_far ++ option_to_list o) said
    ∙ sym (ticks_more axis c.args.place k c.value-item.result (rw values at c.loop-value-test.true)
    (rw values at c.value-item.is))
