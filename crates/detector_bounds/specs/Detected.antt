-- By when the crash of a process is detected. Multiples of a period, among ticks.
use Rattle.std.specs.Prelude.{ℕ, zero, suc, ◌+◌, ◌-◌, ◌*◌, Bool, false, ◌&&◌, ◌==◌, List, length, filter, ◌/◌, ◌≡◌, ◌≤◌, true, []}
use Rattle.process_api.specs.{Order.{EntryRecord}, Place.{is_watched}}
use Rattle.process_api.specs.declared.{action.Note.{Note, TheVariants.{Suspect, Trust, Round, Decided, NoValue}}, numbers.{DetectorNumbers.{DetectorNumbers, TheVariants.{Timeout, Freshness}}, TimeoutNumbers.{TimeoutNumbers}, Watch.{Watch}}}
use Rattle.{scenario_record.specs.{Record.{Record, link, outages_on}, declared.link.Link.{Link}}, judges.specs.{Outcomes.{notes_of}, Verdicts.{IsProcess}}}

-- the greatest number whose multiple of the period lies before a tick; 0 where there is none
abbrev pub last_before : (period tick : ℕ) → ℕ
last_before period tick = (tick - 1) / period

-- the least multiple of the period that isn't before a tick
abbrev pub multiple_from : (period tick : ℕ) → ℕ
multiple_from period tick = (tick + (period - 1)) / period * period

-- a note trusts p again, on layer 1
abbrev pub is_trust : (p : ℕ) → Note → Bool
is_trust p (Suspect layer who) = false
is_trust p (Trust layer who) = layer == 1 && who == p
is_trust p (Round round) = false
is_trust p (Decided value) = false
is_trust p NoValue = false

-- how often q notes in a trace that it trusts p again, on layer 1
abbrev pub trusts : List EntryRecord → (q p : ℕ) → ℕ
trusts trace q p = length (filter (λ n. is_trust p n.1) (notes_of trace q))

-- the last tick at which a letter can come that a process sent before it crashed at a tick; 0 where it sent none
abbrev pub last_letter : TimeoutNumbers → Link → (crash : ℕ) → ℕ
last_letter its link zero = 0
last_letter its link (suc before) = last_before its.period (suc before) * its.period + link.max

-- what a time-out has grown to by so many trusts, at most
abbrev pub grown : TimeoutNumbers → (trusts : ℕ) → ℕ
grown its trusts = its.timeout + its.grow * trusts

-- the tick from which, at the latest, a process that crashes at a tick is suspected to the end, by one that trusts it
-- so often in the whole trace
abbrev pub detected_by : DetectorNumbers → Link → (trusts crash : ℕ) → ℕ
detected_by (Timeout its) link trusts crash = multiple_from its.check (last_letter its link crash + grown its trusts)
detected_by (Freshness its) link trusts crash = (last_before its.eta crash + 1) * its.eta + its.delta

-- how many ticks that is after the crash, at most
abbrev pub longest : DetectorNumbers → Link → (trusts crash : ℕ) → ℕ
longest (Timeout its) link trusts zero = grown its trusts + its.check - 1
longest (Timeout its) link trusts (suc before) = link.max + grown its trusts + its.check - 2
longest (Freshness its) link trusts zero = its.eta + its.delta
longest (Freshness its) link trusts (suc before) = its.eta + its.delta - 1

-- who watches whom, and over which links
abbrev pub watch_of : DetectorNumbers → Watch
watch_of (Timeout its) = its.watch
watch_of (Freshness its) = its.watch

-- the delays of a link are such that the detector takes no process for crashed whose letters all come
abbrev pub IsTimely : DetectorNumbers → Link → Type 0
IsTimely (Timeout its) link = (link.max ≤ its.timeout) × (link.max - link.min + its.period ≤ its.timeout)
IsTimely (Freshness its) link = link.max ≤ its.delta

module _ (S : Record) where
  -- process q watches p
  abbrev pub Watches : (q p : ℕ) → Type 0
  Watches q p = IsProcess S q × (is_watched q S.processes (watch_of S.detector) p ≡ true)

  -- the link from p to q loses nothing, has no outage, and is timely
  pub record IsReliable (p q : ℕ) : Type 0 where
    pub no_loss : (link S p q).loss ≡ 0
    pub no_outage : outages_on S p q ≡ []
    pub timely : IsTimely S.detector (link S p q)
