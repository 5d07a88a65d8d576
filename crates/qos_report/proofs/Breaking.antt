-- A run by windows from its trace to its texts: what it leaves once it is done, and once it breaks off.
use Rattle.qos_report.proofs.Words.{◌≡◌, ◌≢◌, ◌⊎◌, ℕ, ◌+◌, inl, inr, refl, sym, ap, ◌∙◌, subst, arith, Bool, true, false, Option, None, Some, List, [], ◌++◌, Err, append-nil, IsTrue, setting_of, IsTrace, RunError, Limit, Memory, Write, EntryRecord, Record, writes_of, report_text, IsTextWhere, WroteFirst, WroteFront, WroteWhere, rows_text, trace_header, trace_text, Wrote, WrotePart, WroteNothing, part_of_more, wrote_both, wrote_then_part}
use Rattle.{std.specs.Global.{Vec}, process_api.specs.declared.print_choice.PrintChoice.{PrintChoice}}
use Rattle.process_api.specs.declared.print_choice.PrintChoice.TheVariants as choice
use Rattle.reporting.specs.ReportText.{items_of, printed, prints_report, prints_trace}
use Rattle.runs.specs.Finishing.{BreaksOff, WroteRows, IsLonger}

trace_text_is : (trace : List EntryRecord) → trace_header ++ rows_text trace ≡ trace_text trace
unfolding trace_text
trace_text_is trace = refl

write_or_not : (e : RunError) → (e ≡ Write) ⊎ (e ≢ Write)
write_or_not Write = inl refl
write_or_not e = inr (λ is. cc is)

-- puts that fail come with this reason alone
writes_at : (X : Type 0) (e : RunError) → e ≢ Write → writes_of {X = X} (Err e) ≡ 0
writes_at X Write other = absurd (other refl)
writes_at X e other = refl

report_or_not : (print : PrintChoice) → IsTrue (prints_trace print) ⊎ ((prints_trace print ≡ false) × (print ≡ choice.Report))
report_or_not choice.Trace = inl refl
report_or_not choice.Report = inr (refl, refl)
report_or_not choice.Both = inl refl

module _ (S : Record) {O : Type 0} (told : O → Option (List ℕ)) (failed : O → ℕ) (trace : List EntryRecord) where
  -- ---- the whole text, and a front part of it

  -- what went out after the rows, whole or in part, after a whole text: so did the whole text or a part of it
  printed_with : (Went : (a b : O) → List ℕ → Type 0) → ((a b c : O) (x y : List ℕ) → Wrote told failed a b x → Went b c y → Went a c (x ++ y)) → (print : PrintChoice) (report : Option (Vec ℕ)) (a b c d : O)
      → WroteWhere told failed a b (prints_trace print) trace_header → WroteWhere told failed b c (prints_trace print) (rows_text trace)
      → IsTextWhere (prints_report print) (report_text S trace) report → Went c d (items_of report) → Went a d (printed print S trace)
  printed_with Went after choice.Trace None a b c d header rows is last =
      subst (Went a d) (append-nil (trace_header ++ rows_text trace) ∙ trace_text_is trace)
      (after a c d (trace_header ++ rows_text trace) [] (wrote_both told failed a b c trace_header (rows_text trace) header rows) last)
  printed_with Went after choice.Report (Some t) a b c d header rows is last =
      subst (λ z. Went z d (report_text S trace)) (rows ∙ header) (subst (Went c d) is last)
  printed_with Went after choice.Both (Some t) a b c d header rows is last =
      subst (Went a d) (ap (λ z. (trace_header ++ rows_text trace) ++ z) is ∙ ap (λ z. z ++ report_text S trace) (trace_text_is trace))
      (after a c d (trace_header ++ rows_text trace) t.items (wrote_both told failed a b c trace_header (rows_text trace) header rows) last)
  printed_with Went after print report a b c d header rows is last = absurd is

  pub wrote_printed : (print : PrintChoice) (report : Option (Vec ℕ)) (a b c d : O) → WroteWhere told failed a b (prints_trace print) trace_header → WroteWhere told failed b c (prints_trace print) (rows_text trace)
      → IsTextWhere (prints_report print) (report_text S trace) report → Wrote told failed c d (items_of report) → Wrote told failed a d (printed print S trace)
  wrote_printed = printed_with (Wrote told failed) (wrote_both told failed)

  pub part_in_report : (print : PrintChoice) (report : Option (Vec ℕ)) (a b c d : O) → WroteWhere told failed a b (prints_trace print) trace_header → WroteWhere told failed b c (prints_trace print) (rows_text trace)
      → IsTextWhere (prints_report print) (report_text S trace) report → WrotePart told failed c d (items_of report) → WrotePart told failed a d (printed print S trace)
  part_in_report = printed_with (WrotePart told failed) (wrote_then_part told failed)

  -- a front part of the trace's text is one of the whole text
  part_of_printed : (print : PrintChoice) (a b : O) → IsTrue (prints_trace print) → WrotePart told failed a b (trace_text trace) → WrotePart told failed a b (printed print S trace)
  part_of_printed choice.Trace a b asked w = w
  part_of_printed choice.Report a b asked w = absurd (cc)
  part_of_printed choice.Both a b asked w = part_of_more told failed a b (trace_text trace) (report_text S trace) w

  pub part_in_header : (print : PrintChoice) (a b : O) → IsTrue (prints_trace print) → WrotePart told failed a b trace_header → WrotePart told failed a b (printed print S trace)
  part_in_header print a b asked w =
      part_of_printed print a b asked (subst (WrotePart told failed a b) (trace_text_is trace) (part_of_more told failed a b trace_header (rows_text trace) w))

  part_in_rows : (print : PrintChoice) (a b c : O) → WroteWhere told failed a b (prints_trace print) trace_header → IsTrue (prints_trace print) → WrotePart told failed b c (rows_text trace) → WrotePart told failed a c (printed print S trace)
  part_in_rows print a b c header asked w =
      part_of_printed print a c asked
      (subst (WrotePart told failed a c) (trace_text_is trace)
      (wrote_then_part told failed a b c trace_header (rows_text trace) (subst (λ t. WroteWhere told failed a b t trace_header) asked header) w))

  -- ---- refusals

  module _ (print : PrintChoice) (is_trace : IsTrace (setting_of S) trace) where
    -- nothing was written yet
    pub breaks_at_opening : (a : O) → BreaksOff S print told failed a a Memory
    breaks_at_opening a = record {
      trace = trace;
      is_trace = is_trace;
      write = λ is. absurd (cc is);
      others = λ _. inr (record { bytes = refl; failures = refl }, inl refl);
      limit = λ is. let bad : Memory ≡ Limit = is in cc;
    }

    -- a put failed
    pub breaks_in_write : (a b : O) (e : RunError) → e ≡ Write → WrotePart told failed a b (printed print S trace) → BreaksOff S print told failed a b e
    breaks_in_write a b e is w = record {
      trace = trace;
      is_trace = is_trace;
      write = λ _. w;
      others = λ other. absurd (other is);
      limit = λ long. let bad : Write ≡ Limit = sym is ∙ long in cc;
    }

    -- the rows of the first entries went out
    rows_out : (a b c : O) (e : RunError) → WroteWhere told failed a b (prints_trace print) trace_header → WroteFirst told failed b c (prints_trace print) trace
        → (IsTrue (prints_trace print) × WroteRows S print told failed a c trace) ⊎ (WroteNothing told failed a c × ((e ≡ Memory) ⊎ (print ≡ choice.Report)))
    rows_out a b c e header first = elim (report_or_not print) [
      | inl asked ↦ inl (
        asked,
        record {
          first = first.first;
          others = first.others;
          all = first.all;
          text =
              subst (Wrote told failed a c) (trace_text_is first.first)
              (wrote_both told failed a b c trace_header (rows_text first.first) (subst (λ t. WroteWhere told failed a b t trace_header) asked header) (subst (λ t. WroteWhere told failed b c t (rows_text first.first)) asked first.out));
        },
      )
      | inr h ↦
          let same : c ≡ a = subst (λ t. WroteWhere told failed b c t (rows_text first.first)) h.0 first.out ∙ subst (λ t. WroteWhere told failed a b t trace_header) h.0 header in
          inr (record { bytes = ap told same; failures = ap failed same }, inr h.1)
    ]

    where_failures : (t : Bool) (a b : O) (text : List ℕ) → WroteWhere told failed a b t text → failed b ≡ failed a
    where_failures true a b text w = w.failures
    where_failures false a b text w = ap failed w

    -- a window was refused, or its rows
    pub breaks_in_rows : (X : Type 0) (a b c : O) (e : RunError) → WroteWhere told failed a b (prints_trace print) trace_header → WroteFront told failed b c (prints_trace print) trace
        → failed c ≡ failed b + writes_of {X = X} (Err e) → (e ≡ Limit → IsLonger S) → BreaksOff S print told failed a c e
    breaks_in_rows X a b c e header (inl first) count long =
        let none : writes_of {X = X} (Err e) ≡ 0 = omega (arith, count, where_failures (prints_trace print) b c (rows_text first.first) first.out) in
        record {
          trace = trace;
          is_trace = is_trace;
          write = λ is. let bad : 1 ≡ 0 = sym (ap (λ f. writes_of {X = X} (Err f)) is) ∙ none in cc;
          others = λ _. rows_out a b c e header first;
          limit = λ is. long is trace is_trace;
        }
    breaks_in_rows X a b c e header (inr part) count long = elim (write_or_not e) [
      | inl is ↦ breaks_in_write a c e is (part_in_rows print a b c header part.0 part.1)
      | inr other ↦ absurd (omega (arith, count, part.1.failures, writes_at X e other))
    ]

    -- all rows are out, and no report could be formed
    pub breaks_at_close : (a b c : O) → WroteWhere told failed a b (prints_trace print) trace_header → WroteWhere told failed b c (prints_trace print) (rows_text trace) → BreaksOff S print told failed a c Memory
    breaks_at_close a b c header rows = record {
      trace = trace;
      is_trace = is_trace;
      write = λ is. absurd (cc is);
      others = λ _. rows_out a b c Memory header (record { first = trace; others = []; all = sym (append-nil trace); out = rows });
      limit = λ is. let bad : Memory ≡ Limit = is in cc;
    }
