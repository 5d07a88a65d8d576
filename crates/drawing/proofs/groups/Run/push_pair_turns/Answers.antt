use Rattle.drawing.proofs.Words.{◌≡◌, refl, arith, take, take_all, turns_in}
use Rattle.drawing.proofs.groups.Run.push_pair_turns.Goals as goal

pub returns : goal.returns
unfolding turns_in
returns c =
    let items = c.deref-bar-items.result.now in
    let whole : take c.loop-bar.bar-index items ≡ items = take_all c.loop-bar.bar-index items (omega (arith, c.loop-bar-test.false)) in
    rw (c.loop-bar.invariant, whole, c.deref-bar-items.ensures.value, c.in_ok-stretches_of.ensures, c.upper_layer-layer.ensures, c.share.ensures.value, c.spot-spot.ensures.class, c.spot-spot.ensures.line, c.spot-spot.ensures.end, c.spot-spot.ensures.subject) refl
