-- The text of a trace.
use Rattle.std.specs.{Prelude.{◌≡◌, ℕ, List, [], ◌∷◌, ◌++◌, map, codes, decimal}, List.{join_with_byte, flat_map}}
use Rattle.{csv.specs.Writing.{default_writer, writer_under}, process_api.specs.{Order.{EntryRecord}, declared.action.Note.{Note, TheVariants.{Suspect, Trust, Round, Decided, NoValue}}}}
use Rattle.reporting.specs.{Rows.{kind_text, row_of, IsBetween, written}, declared.trace_text.TraceText.{TraceText}}

abbrev pub space : ℕ
space = 32

abbrev pub note_text : Note → List ℕ
note_text (Suspect layer who) = codes "suspect:" ++ (decimal layer ++ (codes ":" ++ decimal who))
note_text (Trust layer who) = codes "trust:" ++ (decimal layer ++ (codes ":" ++ decimal who))
note_text (Round round) = codes "round:" ++ decimal round
note_text (Decided value) = codes "decided:" ++ decimal value
note_text NoValue = codes "novalue"

-- the notes in order, with a space between them
unfoldable pub notes_text : List Note → List ℕ
notes_text notes = join_with_byte space (map note_text notes)

-- the first line: the names of the columns
unfoldable pub trace_header : List ℕ
trace_header = codes "tick,receiver,sender,number,kind,sent,lost,notes\n"

-- an entry's fields: tick, receiver, sender and number of its key, kind, letters sent, how many were lost, and notes
abbrev pub fields_of : EntryRecord → List (List ℕ)
fields_of e =
    decimal e.key.tick ∷ decimal e.key.receiver ∷ decimal e.key.sender ∷ decimal e.key.number ∷ kind_text e.kind
    ∷ decimal e.sent ∷ decimal e.lost ∷ notes_text e.notes ∷ []

-- a row for each entry
abbrev pub rows_text : List EntryRecord → List ℕ
rows_text entries = flat_map (λ e. row_of (fields_of e)) entries

-- the text of a trace: the header, and a row for each entry
unfoldable pub trace_text : List EntryRecord → List ℕ
trace_text trace = trace_header ++ rows_text trace

-- it has this text, and no row is half written
pub record Holds (t : TraceText) (text : List ℕ) : Type 0 where
  pub between : IsBetween default_writer t.writer
  pub is : written t.writer ≡ text

-- what was handed on by csv's own buffer
abbrev pub handed : TraceText → List ℕ
handed t = (writer_under t.writer).items
