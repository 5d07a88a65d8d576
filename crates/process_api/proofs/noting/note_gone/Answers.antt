use Rattle.process_api.proofs.{Basics.{◌++◌, ap, ◌∙◌, map, in_order, up_to, note_of}, Rising.{gone-members}}
use Rattle.process_api.specs.declared.action.Action.TheVariants as action
use Rattle.process_api.proofs.noting.note_gone.Goals as goal

pub loop-who-init : goal.loop-who-init
loop-who-init c =
    ap (λ qs. c.args.out.now.items ++ map action.Note (map (note_of c.args.begins c.args.layer) qs))
    (c.into_iter-who-iterator.ensures.into_iter_gives
    ∙ (c.iter-who-items.ensures ∙ (ap in_order (c.up_to.ensures ∙ ap (up_to c.args.processes) c.without.ensures) ∙ gone-members c.args.processes c.args.from.now c.args.to.now c.requires)))
