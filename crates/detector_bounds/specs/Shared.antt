-- From when a shared suspicion stands, on layer 2.
use Rattle.std.specs.Prelude.{◌≡◌, ◌≢◌, ℕ, zero, suc, ◌+◌, ◌-◌, ◌*◌, max, ◌==◌, if◌then◌else◌, List, [], Some}
use Rattle.{process_api.specs.Order.{EntryRecord}, scenario_record.specs.{Record.{Record, link, outages_on}, declared.link.Link.{Link}}, judges.specs.Verdicts.{IsCorrect, From, Suspects}}
use Rattle.detector_bounds.specs.{Bounds.{CrashesAt, detected_at}, Detected.{last_before, multiple_from, Watches}}

-- from this tick at the latest no set comes over a link whose sender's last share had this number; 0 where it had none
abbrev pub silent_from : (period : ℕ) → Link → (last : ℕ) → ℕ
silent_from period link zero = 0
silent_from period link (suc before) = suc before * period + link.max + 1

module _ (S : Record) where
  -- the delays of a letter: one to oneself takes 1 tick
  abbrev pub least_delay : (from to : ℕ) → ℕ
  least_delay from to = if from == to then 1 else (link S from to).min

  abbrev pub most_delay : (from to : ℕ) → ℕ
  most_delay from to = if from == to then 1 else (link S from to).max

  -- the link to another loses nothing and has no outage
  pub record LosesNothing (from to : ℕ) : Type 0 where
    pub no_loss : from ≢ to → (link S from to).loss ≡ 0
    pub no_outage : from ≢ to → outages_on S from to ≡ []

  module _ (trace : List EntryRecord) where
    -- the tick of the first share of w that surely has p for good, and comes to r behind all sets of p, which crashes
    -- at tick c
    abbrev pub told_at : (period w p r c : ℕ) → ℕ
    told_at period w p r c = multiple_from period
        (max (detected_at S trace w p c + 1)
        (silent_from period (link S p r) (last_before period c) - least_delay w r))

    -- from then on each correct r that hears of a correct w suspects whom w watches and who crashed, up to the horizon
    abbrev pub SharesDetection : Type 0
    SharesDetection = (period w p r c : ℕ) → S.share ≡ Some period → IsCorrect S w → Watches S w p
        → CrashesAt S trace p c → IsCorrect S r → LosesNothing w r
        → From S (Suspects S trace 2 r p) (told_at period w p r c + most_delay w r)
