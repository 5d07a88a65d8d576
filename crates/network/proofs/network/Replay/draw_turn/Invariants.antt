use Rattle.network.proofs.Basics.{◌≡◌, ◌++◌, take, flat_map, on_each, left_of}
use Rattle.network.proofs.network.Replay.draw_turn.Given as goal

-- those of the record's outages so far
abbrev pub invariant-loop-outage : goal.invariant-loop-outage
invariant-loop-outage l = l.drawn ≡ l.fn.drawn
    ++ flat_map (λ o. on_each l.links (left_of l.turn l.place l.horizon o)) (take l.outage-index l.self.outages.items)
