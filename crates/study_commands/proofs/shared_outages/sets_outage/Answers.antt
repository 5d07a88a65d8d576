use Rattle.study_commands.proofs.{Words.{◌≡◌, ◌∙◌, ap, sym, rules, true, list_any, path_of, is_of_outage}, Dealt.{any_here, keys_are, none_there}}
use Rattle.study_commands.proofs.shared_outages.sets_outage.Goals as goal

pub returns-then-is_of_outage : goal.returns-then-is_of_outage
returns-then-is_of_outage c =
    let axis = c.args.axis.now in
    let keys = c.deref-key-items.ensures.value in
    let holds : is_of_outage (path_of c.key-item.result) ≡ true = search rules in
    any_here is_of_outage axis.keys.items c.loop-key.key-index c.key-item.result (rw keys at c.loop-key-test.true)
    (rw keys at c.key-item.is) holds c.loop-key.invariant
    ∙ ap (list_any is_of_outage) (sym (keys_are axis))

pub returns : goal.returns
returns c =
    let axis = c.args.axis.now in
    none_there is_of_outage axis.keys.items c.loop-key.key-index
    (rw c.deref-key-items.ensures.value at c.loop-key-test.false) c.loop-key.invariant
    ∙ ap (list_any is_of_outage) (sym (keys_are axis))
