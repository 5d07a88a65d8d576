use Rattle.study_commands.proofs.{Words.{◌≡◌, AcceptsAs, Describes, Accepts, promised, bounds_text}, Accepted.{same_scenario, told_more}, Reasons.{bytes_file}}
use Rattle.study_commands.proofs.checking.check_own.Goals as goal

pub returns-in-Accepted-clause-text : goal.returns-in-Accepted-clause-text
returns-in-Accepted-clause-text g c =
    let a = c.in-Accepted.accepted in
    let s = c.in_ok-scenario-in-Accepted.scenario in
    let bytes = c.in_ok-bytes.bytes.items in
    let its : AcceptsAs bytes a = rw (c.in-Accepted.is, c.deref.ensures.value) at c.in_ok-accepted.ensures in
    let accepts : Accepts bytes s = rw c.deref-in-Accepted.ensures.value at c.in_ok-scenario-in-Accepted.ensures in
    let same : its.stands_for ≡ s = same_scenario bytes its.stands_for s its.accepts accepts in
    let describes : Describes s a = rw same at its.describes in (
      s,
      record { bytes = bytes; are_bytes = c.in_ok-bytes.ensures.bytes; accepted = accepts },
      record {
        entries = a.estimate.entries;
        seconds = a.estimate.seconds;
        text =
            told_more s a describes (bounds_text s.detector (promised s)) _
            c.in_ok-tell_of-in-Accepted.ensures.text;
      },
    )

pub returns-in-Accepted-clause-told : goal.returns-in-Accepted-clause-told
returns-in-Accepted-clause-told g c =
    let s = c.in_ok-scenario-in-Accepted.scenario in
    let bytes = c.in_ok-bytes.bytes.items in
    let accepts : Accepts bytes s = rw c.deref-in-Accepted.ensures.value at c.in_ok-scenario-in-Accepted.ensures in (
      s,
      record { bytes = bytes; are_bytes = c.in_ok-bytes.ensures.bytes; accepted = accepts },
      c.in_ok-tell_of-in-Accepted.ensures.told,
    )

pub returns-clause-why : goal.returns-clause-why
returns-clause-why g c =
    let refuses = rw (c.in-Refused.is, c.deref.ensures.value) at c.in_ok-accepted.ensures in
    bytes_file _ _ _ _ c.in_ok-bytes.ensures.bytes (c.fault_of.ensures _ refuses)
