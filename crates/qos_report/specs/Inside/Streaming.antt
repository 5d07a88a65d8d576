-- What a sink leaves that writes the rows of a run's entries as its windows close.
use Rattle.std.specs.Prelude.{◌≡◌, ◌⊎◌, ℕ, Bool, true, false, List, [], ◌∷◌, ◌++◌, Option, IsTrue}
use Rattle.{trace_laws.specs.{Setting.{setting_of}, World.{IsTrace}}, process_api.specs.Order.{EntryRecord}, scenario_record.specs.Record.{Record}, runs.specs.Finishing.{IsTraceWithin}}
use Rattle.reporting.specs.{ReportText.{Text}, Running.{IsRunning, Running, RunningFollowed}, TraceText.{Holds, rows_text}, Outlet.{Wrote, WrotePart}, declared.trace_text.TraceText.{TraceText}}
use Rattle.qos_report.specs.declared.streaming.Streaming.{Streaming}

module _ {O : Type 0} (told : O → Option (List ℕ)) (failed : O → ℕ) where
  module _ (old new : O) where
    -- of the rows of these entries, those of the first ones went out, and those of the others are kept
    pub record AreUnderWay (entries : List EntryRecord) (kept : TraceText) : Type 0 where
      pub gone : List EntryRecord
      pub held : List EntryRecord
      pub all : entries ≡ gone ++ held
      pub out : Wrote told failed old new (rows_text gone)
      pub rest : Holds kept (rows_text held)

    -- the whole text went out, where it is asked for; else the outlet is as it was
    abbrev pub WroteWhere : (asked : Bool) → Text → Type 0
    WroteWhere true text = Wrote told failed old new text
    WroteWhere false text = new ≡ old

    -- the rows of the first of these entries went out, where they are asked for
    pub record WroteFirst (asked : Bool) (entries : List EntryRecord) : Type 0 where
      pub first : List EntryRecord
      pub others : List EntryRecord
      pub all : entries ≡ first ++ others
      pub out : WroteWhere asked (rows_text first)

    -- the same; or a put failed, and a front part of their rows went out
    abbrev pub WroteFront : (asked : Bool) → List EntryRecord → Type 0
    WroteFront asked entries =
        WroteFirst asked entries ⊎ (IsTrue asked × WrotePart told failed old new (rows_text entries))

  -- whatever rows were under way, this is so with the row of one entry more
  abbrev pub WithRow : EntryRecord → (old : O) (kept : TraceText) → ((first : O) → List EntryRecord → Type 0) → Type 0
  WithRow entry old kept Is = (first : O) (entries : List EntryRecord)
      → AreUnderWay first old entries kept → Is first (entries ++ entry ∷ [])

  -- the outlet is the same, and still asked for rows or not
  pub record IsSame (old new : Streaming O) : Type 0 where
    pub outlet : new.outlet.ghost_name ≡ old.outlet.ghost_name
    pub traced : new.is_traced ≡ old.is_traced

  -- the entries of a part were told, and their rows went out where they are asked for
  pub record TookPart (old : Streaming O) (part : List EntryRecord) (new : Streaming O) : Type 0 where
    pub same : IsSame old new
    pub written : WroteWhere old.outlet.now new.outlet.now old.is_traced (rows_text part)
    pub measured : (first : Running) (told : List EntryRecord) → RunningFollowed first old.running told
        → RunningFollowed first new.running (told ++ part)

  -- a part was refused
  pub record TookFrontOfPart (old : Streaming O) (part : List EntryRecord) (new : Streaming O) : Type 0 where
    pub outlet : new.outlet.ghost_name ≡ old.outlet.ghost_name
    pub written : WroteFront old.outlet.now new.outlet.now old.is_traced part

module _ (S : Record) {O : Type 0} (told : O → Option (List ℕ)) (failed : O → ℕ) (asked : Bool) where
  -- a run by windows is done: the scenario's trace was measured, and its rows went out where they are asked for
  pub record StreamedTrace (begun : Running) (old : O) (run : Running) (new : O) : Type 0 where
    pub trace : List EntryRecord
    pub is_within : IsTraceWithin S trace
    pub written : WroteWhere told failed old new asked (rows_text trace)
    pub measured : (reported : Bool) → IsRunning S [] reported begun → IsRunning S trace reported run

  -- a run by windows breaks off: rows of the scenario's trace went out where they are asked for
  abbrev pub StreamedFront : (old new : O) → Type 0
  StreamedFront old new =
      (trace : List EntryRecord) → IsTrace (setting_of S) trace → WroteFront told failed old new asked trace

-- a run by windows is done, of a sink that streams
abbrev pub HasStreamed : Record → {O : Type 0} (told : O → Option (List ℕ)) (failed : O → ℕ) (old new : Streaming O)
    → Type 0
HasStreamed S told failed old new =
    StreamedTrace S told failed old.is_traced old.running old.outlet.now new.running new.outlet.now
