use Rattle.drawing.proofs.Words.{◌≡◌, ◌++◌, take, bands}
use Rattle.drawing.proofs.bands.push_bands.Given as goal

-- the outages so far
abbrev pub invariant-loop-outage : goal.invariant-loop-outage
invariant-loop-outage l =
    l.shapes.items ≡ l.initial.shapes.items ++ bands l.ticks.from l.ticks.until l.top (take l.outage-index l.outages)
