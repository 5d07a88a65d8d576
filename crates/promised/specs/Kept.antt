-- What the numbers of a scenario say of its traces, on layer 1.
use Rattle.std.specs.Prelude.{◌≡◌, ◌↔◌, ℕ, ◌+◌, ◌-◌, ◌<◌, ◌≤◌, true, false, List, [], Some}
use Rattle.{process_api.specs.{Order.{EntryRecord}, declared.numbers.DetectorNumbers.{DetectorNumbers, TheVariants.{Timeout, Freshness}}}, scenario_record.specs.Record.{Record, crash, link, outages_on}}
use Rattle.{trace_laws.specs.{Setting.{setting_of}, World.{IsTrace}}, judges.specs.Verdicts.{IsCorrect, From, Suspects, strong_accuracy}}
use Rattle.detector_bounds.specs.{Bounds.{HasNoMistake}, Detected.{detected_by, trusts, Watches, IsReliable, IsTimely}}
use Rattle.promised.specs.{Promised.{watched_link, is_reliable, latency, patience}, declared.bounds.PromisedBounds.{PromisedBounds}}

-- the detector waits no longer than at first: with time-outs, it took no suspicion back
abbrev pub HasNotGrown : DetectorNumbers → (trusts : ℕ) → Type 0
HasNotGrown (Timeout its) trusts = trusts ≡ 0
HasNotGrown (Freshness its) trusts = Unit {0}

-- the detector with a `delta` or `timeout` of so many ticks
abbrev pub waiting : DetectorNumbers → (ticks : ℕ) → DetectorNumbers
waiting (Timeout its) ticks = Timeout (record {
  period = its.period;
  check = its.check;
  timeout = ticks;
  grow = its.grow;
  watch = its.watch;
})
waiting (Freshness its) ticks = Freshness (record { eta = its.eta; delta = ticks; watch = its.watch })

module _ (S : Record) where
  -- process p crashes at tick c, and q is correct and watches it
  pub record IsToDetect (q p c : ℕ) : Type 0 where
    pub correct : IsCorrect S q
    pub watches : Watches S q p
    pub crashes : crash S p ≡ Some c
    pub below : c < S.horizon

  -- in every trace q suspects p from tick t on, up to the horizon
  abbrev pub AlwaysSuspects : (q p t : ℕ) → Type 0
  AlwaysSuspects q p t = (trace : List EntryRecord) → IsTrace (setting_of S) trace
      → HasNotGrown S.detector (trusts trace q p) → From S (Suspects S trace 1 q p) t

  -- q watches p over a link that has no loss and no outage
  pub record IsLossless (q p : ℕ) : Type 0 where
    pub watches : Watches S q p
    pub no_loss : (link S p q).loss ≡ 0
    pub no_outage : outages_on S p q ≡ []

  pub record KeepsPromises (b : PromisedBounds) : Type 0 where
    -- the links that count as reliable are those that the bounds call so
    pub reliable : (q p : ℕ) → Watches S q p → (is_reliable S.detector (watched_link S q p) ≡ true) ↔ IsReliable S p q
    -- over such a link no trace has a mistake
    pub no_mistake : (q p : ℕ) → Watches S q p → is_reliable S.detector (watched_link S q p) ≡ true
        → (trace : List EntryRecord) → IsTrace (setting_of S) trace → HasNoMistake S trace q p
    -- where all that are watched are such, no trace has any
    pub accurate : b.reliable ≡ b.watched → (trace : List EntryRecord) → IsTrace (setting_of S) trace
        → strong_accuracy S trace 1 ≡ true
    -- a crash that is to be detected is, so many ticks after it
    pub detects : (q p c : ℕ) → IsToDetect q p c
        → (l : ℕ) × (latency S.detector (watched_link S q p) ≡ Some l) × AlwaysSuspects q p (c + l)
    -- and so many ticks are at most those that are told
    pub at_most : (q p l : ℕ) → Watches S q p → latency S.detector (watched_link S q p) ≡ Some l
        → (most : ℕ) × (b.detection ≡ Some most) × (l ≤ most)
    -- and no more are told: the bound of some such crash lies so many ticks after it, or not after it where that is 0
    pub attained : (most : ℕ) → b.detection ≡ Some most
        → (q p c : ℕ) × IsToDetect q p c × (most ≡ detected_by S.detector (link S p q) 0 c - c)
    -- before the horizon, where no detection is late
    pub in_time : b.is_late ≡ false → (q p c l : ℕ) → IsToDetect q p c
        → latency S.detector (watched_link S q p) ≡ Some l → c + l < S.horizon
    -- and one is late only where the bound of some such crash isn't before the horizon
    pub late : b.is_late ≡ true → (q p c : ℕ) × IsToDetect q p c × (S.horizon ≤ detected_by S.detector (link S p q) 0 c)
    -- a `delta` or `timeout` of so many ticks makes each link reliable that has no loss and no outage
    pub needed : (ticks : ℕ) → b.needed ≡ Some ticks → ticks ≤ patience S.detector → (q p : ℕ) → Watches S q p
        → (link S p q).loss ≡ 0 → outages_on S p q ≡ [] → IsReliable S p q
    -- where there is such a link, a number is told, and with so many ticks the link is timely
    pub suffices : (q p : ℕ) → IsLossless q p
        → (ticks : ℕ) × (b.needed ≡ Some ticks) × IsTimely (waiting S.detector ticks) (link S p q)
    -- and no more are told: some such link isn't timely with fewer
    pub least : (ticks : ℕ) → b.needed ≡ Some ticks
        → (q p : ℕ) × IsLossless q p
        × ((fewer : ℕ) → IsTimely (waiting S.detector fewer) (link S p q) → ticks ≤ fewer)
