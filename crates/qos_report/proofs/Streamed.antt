-- What a sink took, window by window.
use Rattle.qos_report.proofs.Words.{◌≡◌, ℕ, inl, inr, refl, sym, ap, ◌∙◌, subst, Bool, true, false, true≢false, Option, List, [], ◌∷◌, ◌++◌, append_assoc, append-nil, ◌≤◌, length, Result, Ok, Err, OnOk, OnErr, EntryRecord, row_of, written, AreUnderWay, WroteFront, WroteWhere, StreamedFront, StreamedTrace, TookFrontOfPart, TookPart, Holds, fields_of, rows_text, Wrote, WrotePart, part_of_more, rows_both, rows_one, wrote_both, wrote_nothing, wrote_then_part, setting_of, IsSound, IsTrace, RunError, trace_rises, Record, TookAll, TookFront, TookTrace, RunningFollowed}
use Rattle.{reporting.specs.declared.trace_text.TraceText.{TraceText}, window_laws.specs.Theorems.{end_to_end}}
use Rattle.qos_report.specs.declared.streaming.Streaming.{Streaming}
use Rattle.reporting.proofs.Followed.{running_same, running_told}

-- ---- rows that are asked for or not, and rows that are kept

module _ {O : Type 0} (told : O → Option (List ℕ)) (failed : O → ℕ) where
  -- ---- texts that are asked for or not

  pub where_both : (t : Bool) (a b c : O) (x y : List ℕ) → WroteWhere told failed a b t x → WroteWhere told failed b c t y → WroteWhere told failed a c t (x ++ y)
  where_both true a b c x y p q = wrote_both told failed a b c x y p q
  where_both false a b c x y p q = q ∙ p

  pub where_nothing : (t : Bool) (a : O) → WroteWhere told failed a a t []
  where_nothing true a = wrote_nothing told failed a
  where_nothing false a = refl

  -- ---- rows

  -- of more entries a front is written as well
  pub front_more : (t : Bool) (a b : O) (xs ys : List EntryRecord) → WroteFront told failed a b t xs → WroteFront told failed a b t (xs ++ ys)
  front_more t a b xs ys (inl h) = inl (record { first = h.first; others = h.others ++ ys; all = ap (λ zs. zs ++ ys) h.all ∙ append_assoc h.first h.others ys; out = h.out })
  front_more t a b xs ys (inr h) = inr (h.0, subst (WrotePart told failed a b) (sym (rows_both xs ys)) (part_of_more told failed a b (rows_text xs) (rows_text ys) h.1))

  -- rows that went out, and then those of a front
  pub then_front : (t : Bool) (a b c : O) (xs ys : List EntryRecord) → WroteWhere told failed a b t (rows_text xs) → WroteFront told failed b c t ys → WroteFront told failed a c t (xs ++ ys)
  then_front t a b c xs ys p (inl h) = inl (record {
    first = xs ++ h.first;
    others = h.others;
    all = ap (λ zs. xs ++ zs) h.all ∙ sym (append_assoc xs h.first h.others);
    out = subst (WroteWhere told failed a c t) (sym (rows_both xs h.first)) (where_both t a b c (rows_text xs) (rows_text h.first) p h.out);
  })
  then_front true a b c xs ys p (inr h) = inr (refl, subst (WrotePart told failed a c) (sym (rows_both xs ys)) (wrote_then_part told failed a b c (rows_text xs) (rows_text ys) p h.1))
  then_front false a b c xs ys p (inr h) = absurd (true≢false (sym h.0))

  pub front_none : (t : Bool) (a : O) (xs : List EntryRecord) → WroteFront told failed a a t xs
  front_none t a xs = inl (record { first = []; others = xs; all = refl; out = where_nothing t a })

  -- rows that went out are a front of those of more entries
  pub front_of : (t : Bool) (a b : O) (xs ys : List EntryRecord) → WroteWhere told failed a b t (rows_text xs) → WroteFront told failed a b t (xs ++ ys)
  front_of t a b xs ys p = inl (record { first = xs; others = ys; all = refl; out = p })

  -- ---- rows that are kept

  pub under_way_first : (a : O) (kept : TraceText) → Holds kept [] → AreUnderWay told failed a a [] kept
  under_way_first a kept none = record { gone = []; held = []; all = refl; out = wrote_nothing told failed a; rest = none }

  module _ (a b : O) (entries : List EntryRecord) (kept : TraceText) (way : AreUnderWay told failed a b entries kept) where
    -- one row joins them
    pub row_kept : (e : EntryRecord) (more : TraceText) → ((text : List ℕ) → Holds kept text → Holds more (text ++ row_of (fields_of e))) → AreUnderWay told failed a b (entries ++ e ∷ []) more
    row_kept e more is = record {
      gone = way.gone;
      held = way.held ++ e ∷ [];
      all = ap (λ zs. zs ++ e ∷ []) way.all ∙ append_assoc way.gone way.held (e ∷ []);
      out = way.out;
      rest = subst (Holds more) (ap (λ t. rows_text way.held ++ t) (sym (rows_one e)) ∙ sym (rows_both way.held (e ∷ []))) (is (rows_text way.held) way.rest);
    }

    -- they went out
    pub all_out : (c : O) → Wrote told failed b c (written kept.writer) → Wrote told failed a c (rows_text entries)
    all_out c w =
        subst (Wrote told failed a c) (sym (ap rows_text way.all ∙ rows_both way.gone way.held))
        (wrote_both told failed a b c (rows_text way.gone) (rows_text way.held) way.out (subst (Wrote told failed b c) way.rest.is w))

    pub all_gone : (c : O) (left : TraceText) → Wrote told failed b c (written kept.writer) → Holds left [] → AreUnderWay told failed a c entries left
    all_gone c left w none = record { gone = entries; held = []; all = sym (append-nil entries); out = all_out c w; rest = none }

    -- a put failed
    pub part_out : (c : O) → WrotePart told failed b c (written kept.writer) → WroteFront told failed a c true entries
    part_out c w =
        inr (
          refl,
          subst (WrotePart told failed a c) (sym (ap rows_text way.all ∙ rows_both way.gone way.held))
              (wrote_then_part told failed a b c (rows_text way.gone) (rows_text way.held) way.out (subst (WrotePart told failed b c) way.rest.is w)),
        )

    -- they stay
    pub first_out : WroteFront told failed a b true entries
    first_out = inl (record { first = way.gone; others = way.held; all = way.all; out = way.out })

-- ---- what a sink took

module _ {O : Type 0} (told : O → Option (List ℕ)) (failed : O → ℕ) where
  took_none : (s : Streaming O) → TookPart told failed s [] s
  took_none s = record {
    same = record { outlet = refl; traced = refl };
    written = where_nothing told failed s.is_traced s.outlet.now;
    measured = λ first told was. subst (RunningFollowed first s.running) (sym (append-nil told)) was;
  }

  took_both : (a b c : Streaming O) (xs ys : List EntryRecord) → TookPart told failed a xs b → TookPart told failed b ys c → TookPart told failed a (xs ++ ys) c
  took_both a b c xs ys p q = record {
    same = record { outlet = q.same.outlet ∙ p.same.outlet; traced = q.same.traced ∙ p.same.traced };
    written =
        subst (WroteWhere told failed a.outlet.now c.outlet.now a.is_traced) (sym (rows_both xs ys))
        (where_both told failed a.is_traced a.outlet.now b.outlet.now c.outlet.now (rows_text xs) (rows_text ys) p.written
        (subst (λ t. WroteWhere told failed b.outlet.now c.outlet.now t (rows_text ys)) p.same.traced q.written));
    measured = λ first told was. subst (RunningFollowed first c.running) (append_assoc told xs ys) (q.measured first (told ++ xs) (p.measured first told was));
  }

  pub took_all : (old new : Streaming O) (parts : List (List EntryRecord)) → TookAll (TookPart told failed) old parts new → TookPart told failed old (end_to_end parts) new
  took_all old new [] all = subst (TookPart told failed old []) (sym all) (took_none old)
  took_all old new (x ∷ parts) all = took_both old all.0 new x (end_to_end parts) all.1 (took_all all.0 new parts all.2)

  module _ (s : Record) (old new : Streaming O) (f : TookFront (TookPart told failed) (setting_of s) (TookFrontOfPart told failed) old new) where
    whole_parts : TookPart told failed old (end_to_end f.parts) f.mid
    whole_parts = took_all old f.mid f.parts f.took_all

    pub front_same : new.outlet.ghost_name ≡ old.outlet.ghost_name
    front_same = elim f.ended [
      | inl h ↦ ap (λ (t : Streaming O). t.outlet.ghost_name) h.1 ∙ whole_parts.same.outlet
      | inr h ↦ h.outlet ∙ whole_parts.same.outlet
    ]

    front_parts : WroteFront told failed old.outlet.now new.outlet.now old.is_traced (end_to_end f.parts ++ f.last)
    front_parts = elim f.ended [
      | inl h ↦
          front_of told failed old.is_traced old.outlet.now new.outlet.now (end_to_end f.parts) f.last
          (subst (λ (t : Streaming O). WroteWhere told failed old.outlet.now t.outlet.now old.is_traced (rows_text (end_to_end f.parts))) (sym h.1) whole_parts.written)
      | inr h ↦
          then_front told failed old.is_traced old.outlet.now f.mid.outlet.now new.outlet.now (end_to_end f.parts) f.last whole_parts.written
          (subst (λ t. WroteFront told failed f.mid.outlet.now new.outlet.now t f.last) whole_parts.same.traced h.written)
    ]

    pub front_streamed : StreamedFront s told failed old.is_traced old.outlet.now new.outlet.now
    front_streamed whole is =
        let rest = f.front whole is in
        subst (WroteFront told failed old.outlet.now new.outlet.now old.is_traced) (sym rest.1)
        (front_more told failed old.is_traced old.outlet.now new.outlet.now (end_to_end f.parts ++ f.last) rest.0 front_parts)

  -- ---- a run's answer

  module _ (s : Record) (old new : Streaming O) where
    pub ran_same : (r : Result (Unit {0}) RunError) → OnOk r (TookTrace (TookPart told failed) (setting_of s) old new) → OnErr r (TookFront (TookPart told failed) (setting_of s) (TookFrontOfPart told failed) old new)
        → new.outlet.ghost_name ≡ old.outlet.ghost_name
    ran_same (Ok x) took front = (took_all old new took.parts took.took_all).same.outlet
    ran_same (Err e) took front = front_same s old new front

    pub ran_took : IsSound (setting_of s) → (r : Result (Unit {0}) RunError) → OnOk r (TookTrace (TookPart told failed) (setting_of s) old new) → OnOk r ((whole : List EntryRecord) → IsTrace (setting_of s) whole → length whole ≤ s.limit)
        → OnOk r (StreamedTrace s told failed old.is_traced old.running old.outlet.now new.running new.outlet.now)
    ran_took sound (Ok x) took within =
        let part = took_all old new took.parts took.took_all in
        let trace = end_to_end took.parts in record {
          trace = trace;
          is_within = record { is_trace = took.is_trace; within = within trace took.is_trace };
          written = part.written;
          measured = λ reported is. running_told s trace (trace_rises (setting_of s) sound trace took.is_trace) reported old.running new.running (part.measured old.running [] (running_same old.running)) is;
        }
    ran_took sound (Err e) took within = tt

    pub ran_front : (r : Result (Unit {0}) RunError) → OnErr r (TookFront (TookPart told failed) (setting_of s) (TookFrontOfPart told failed) old new)
        → OnErr r (StreamedFront s told failed old.is_traced old.outlet.now new.outlet.now)
    ran_front (Ok x) front = tt
    ran_front (Err e) front = front_streamed s old new front
