use Rattle.network.proofs.Basics.{◌≡◌, ◌+◌, ◌*◌, ◌/◌, ◌++◌, take, flat_map, range_with_len, on_each, replayed_in}
use Rattle.network.proofs.replay.ReplaySource.draw_on.Given as goal

-- those of the turns so far
abbrev pub invariant-loop-turn : goal.invariant-loop-turn
invariant-loop-turn l = l.drawn ≡ l.fn.drawn
    ++ flat_map (λ m. on_each l.links (replayed_in l.self.outages.items (m * l.self.lasts) l.place l.horizon))
    (take l.turn (range_with_len 0 ((l.horizon + l.place) / l.self.lasts + 1)))
