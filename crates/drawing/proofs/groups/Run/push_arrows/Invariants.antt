use Rattle.drawing.proofs.Words.{◌≡◌, ◌++◌, take, placeless, arrows}
use Rattle.drawing.proofs.groups.Run.push_arrows.Given as goal

-- the letters so far
abbrev pub invariant-loop-letter : goal.invariant-loop-letter
invariant-loop-letter l =
    placeless l.shapes.items ≡ placeless l.initial.shapes.items
    ++ arrows l.self.scenario.now.processes l.self.ticks.from l.self.ticks.until l.of (take l.letter-index l.letters)
