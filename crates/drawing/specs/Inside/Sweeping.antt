-- Stretches as they are found, tick by tick.
use Rattle.std.specs.Prelude.{◌≡◌, ℕ, zero, suc, ◌+◌, ◌-◌, ◌≤◌, nat_le, nat_lt, max, Bool, true, false, if◌then◌else◌, Option, None, Some, List, [], ◌∷◌, ◌++◌, fold}
use Rattle.{judges.specs.Turns.{Turn}, drawing.specs.declared.{bars.Bar.{Bar}, sweep.Sweep.{Sweep}}}

-- of the ticks that are behind: the stretches that ended, and the first tick of one that goes on
pub record Found : Type 0 where
  pub ended : List Bar
  pub running : Option ℕ

abbrev pub nothing : Found
nothing = record { ended = []; running = None }

-- one more tick, at which the test holds or doesn't
abbrev pub passed_by : (tick : ℕ) → Bool → List Bar → Option ℕ → Found
passed_by tick true ended None = record { ended = ended; running = Some tick }
passed_by tick false ended None = record { ended = ended; running = None }
passed_by tick true ended (Some begin) = record { ended = ended; running = Some begin }
passed_by tick false ended (Some begin) =
    record { ended = ended ++ record { begin = begin; end = tick } ∷ []; running = None }

abbrev pub passed : (tick : ℕ) → Bool → Found → Found
passed tick holds f = passed_by tick holds f.ended f.running

-- in n ticks
abbrev pub found : (test : ℕ → Bool) → (from n : ℕ) → Found
found test from zero = nothing
found test from (suc n) = passed (from + n) (test (from + n)) (found test from n)

-- what goes on at the end ends there
abbrev pub stretches : (test : ℕ → Bool) → (from until : ℕ) → List Bar
stretches test from until = (passed until false (found test from (until - from))).ended

abbrev pub found_of : Sweep → Found
found_of s = record { ended = s.ended.items; running = s.running }

-- up to a tick all stayed as it was
pub record IsPassed (until : ℕ) (old new : Sweep) : Type 0 where
  pub tick : new.tick ≡ max old.tick until
  pub current : new.current ≡ old.current
  pub found :
      found_of new ≡ (if nat_lt old.tick until then passed old.tick old.current (found_of old) else found_of old)

-- a test of ticks, but from a turn on as the turn says
abbrev pub after : (ℕ → Bool) → Turn → ℕ → Bool
after test t u = if nat_le t.tick u then t.suspected else test u

abbrev pub after_all : (ℕ → Bool) → List Turn → ℕ → Bool
after_all test turns = fold after test turns

-- all stretches of a test so far are found; from now on the test stays as it is now
pub record IsSwept (test : ℕ → Bool) (from : ℕ) (s : Sweep) : Type 0 where
  pub low : from ≤ s.tick
  pub found : found_of s ≡ found test from (s.tick - from)
  pub later : (u : ℕ) → s.tick ≤ u → test u ≡ s.current

-- what was swept of any test was swept of it as these turns change it, where a tick after those behind is theirs
abbrev pub SweptOn : List Turn → (tick : ℕ) → (old new : Sweep) → Type 0
SweptOn turns tick old new = (test : ℕ → Bool) (from : ℕ) → IsSwept test from old → old.tick ≤ max from tick
    → IsSwept (after_all test turns) from new
