use Rattle.study_commands.proofs.{Words.{◌∙◌, ◌++◌, ap, sym, append_assoc, map, option_to_list, take, filter_map, option_map, choices, dealt_of, dealt_to}, AddedItems.{map_option}, Dealt.{all_dealt, dealt_more, keyed}}
use Rattle.study_commands.proofs.dealt_ticks.push_dealt.Goals as goal

pub loop-place-preserved : goal.loop-place-preserved
loop-place-preserved c =
    let axis = c.args.axis.now in
    let k = c.loop-place.place in
    let keys = c.deref-key-items.ensures.value in
    let before = map dealt_of c.args.all.now.items in
    let so_far = filter_map (dealt_to (choices axis)) (take k (keyed axis)) in
    ap (map dealt_of) c.in_ok-push_some.ensures
    ∙ map_option dealt_of c.loop-place.all.items c.in_ok-dealt.dealt
    ∙ ap (λ l. l ++ option_to_list (option_map dealt_of c.in_ok-dealt.dealt)) c.loop-place.invariant
    ∙ ap (λ o. (before ++ so_far) ++ option_to_list o) c.in_ok-dealt.ensures
    ∙ append_assoc before so_far _
    ∙ ap (λ l. before ++ l) (sym (dealt_more axis k c.key-item.result (rw keys at c.loop-place-test.true)
    (rw keys at c.key-item.is)))

pub returns : goal.returns
returns c =
    let axis = c.args.axis.now in
    c.loop-place.invariant
    ∙ ap (λ l. map dealt_of c.args.all.now.items ++ l)
    (all_dealt axis c.loop-place.place (rw c.deref-key-items.ensures.value at c.loop-place-test.false))
