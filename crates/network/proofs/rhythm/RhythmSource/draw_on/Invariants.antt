use Rattle.network.proofs.{Basics.{ℕ, ◌≡◌, ◌-◌, ◌++◌, on_each, to_come}, Turns.{IsAt, seen}}
use Rattle.network.proofs.rhythm.RhythmSource.draw_on.Given as goal

-- the episodes so far
abbrev pub invariant-loop-begin : goal.invariant-loop-begin
invariant-loop-begin l =
    (m : ℕ) × (IsAt l.self (to_come l.fn.words) l.horizon m l.begin (to_come l.words))
    × (l.drawn ≡ l.fn.drawn ++ on_each l.links (seen l.self (to_come l.fn.words) l.horizon m))

abbrev pub decreases-loop-begin : goal.decreases-loop-begin
decreases-loop-begin l = l.horizon - l.begin
