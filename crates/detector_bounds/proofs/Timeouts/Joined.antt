-- Machines that have a time-out detector below other parts.
use Rattle.std.specs.Prelude.{ℕ}
use Rattle.detector_bounds.proofs.{Words.{Place, opening_timeout, step_timeout, TimeoutNumbers, Setting}, Machines.{RunsDetector}}

abbrev pub place_of : {Mind : Type 0} → Setting Mind → ℕ → Place
place_of S p = record { own = p; processes = S.processes; horizon = S.horizon }

abbrev pub RunsTimeout : {Mind : Type 0} → Setting Mind → TimeoutNumbers → Type 1
RunsTimeout S numbers = RunsDetector 1 S (opening_timeout numbers) (λ p d now x. step_timeout (place_of S p) numbers d now x) (λ p d. d.suspects)
