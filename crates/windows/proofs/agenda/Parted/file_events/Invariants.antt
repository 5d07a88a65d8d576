use Rattle.windows.proofs.Words.{◌≡◌, ◌-◌, ◌++◌, ℕ, List, drop, vec_len, Event, IsParted}
use Rattle.windows.proofs.agenda.Parted.file_events.Given as goal

-- some events were filed, and these with the rest are all
abbrev pub invariant-loop-place : goal.invariant-loop-place
invariant-loop-place l = (end : ℕ) (es : List Event) → IsParted end es l.fn.self
    → (done : List Event) × (done ++ drop l.place l.events.items ≡ es ++ l.fn.events.items) × IsParted end done l.self

abbrev pub decreases-loop-place : goal.decreases-loop-place
decreases-loop-place l = vec_len l.events - l.place
