use Rattle.study_commands.proofs.{Words.{◌∙◌, ◌++◌, ap, refl, AcceptsTableAs, RefusesTableFor, promised, record_of, Record, table_view, bounds_text, accepted_line}, Accepted.{told_more}}
use Rattle.study.specs.declared.error.ReadError.TheVariants as error
use Rattle.study_commands.proofs.checking.check_sources.Goals as goal

pub returns-in-Accepted-clause-text : goal.returns-in-Accepted-clause-text
returns-in-Accepted-clause-text g c =
    let a = c.in-Accepted.accepted in
    let t = table_view c.in_ok-table.table in
    let its : AcceptsTableAs t a = rw c.in-Accepted.is at c.in_ok-accepted.ensures in (
      record_of t,
      record {
        table = t;
        is_table = c.in_ok-table.ensures.table;
        stands_for = record { unrefused = its.unrefused; record_is = refl };
      },
      record {
        entries = a.estimate.entries;
        seconds = a.estimate.seconds;
        text =
            told_more (record_of t) a its.describes (bounds_text (record_of t).detector (promised (record_of t))) _
            (c.in_ok-tell_of-in-Accepted.ensures.text
            ∙ ap (λ (s : Record). accepted_line a ++ bounds_text s.detector (promised s))
            c.in_ok-scenario-in-Accepted.ensures);
      },
    )

pub returns-in-Accepted-clause-told : goal.returns-in-Accepted-clause-told
returns-in-Accepted-clause-told g c =
    let t = table_view c.in_ok-table.table in
    let its : AcceptsTableAs t c.in-Accepted.accepted = rw c.in-Accepted.is at c.in_ok-accepted.ensures in (
      record_of t,
      record {
        table = t;
        is_table = c.in_ok-table.ensures.table;
        stands_for = record { unrefused = its.unrefused; record_is = refl };
      },
      rw c.in_ok-scenario-in-Accepted.ensures at c.in_ok-tell_of-in-Accepted.ensures.told,
    )

pub returns-clause-why : goal.returns-clause-why
returns-clause-why g c =
    let r = c.in-Refused.refused in
    let t = table_view c.in_ok-table.table in
    let its : RefusesTableFor t r = rw c.in-Refused.is at c.in_ok-accepted.ensures in
    record {
      reason = error.Scenario r.refusal;
      other = its.other;
      refused = record { table = t; is_table = c.in_ok-table.ensures.table; applies = its.applies };
    }
