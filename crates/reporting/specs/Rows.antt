-- Rows of a text.
use Rattle.std.specs.{Prelude.{◌≡◌, ℕ, List, [], ◌∷◌, ◌++◌, false, codes}, Global.{Vec}, List.{join_with_byte}}
use Rattle.csv.specs.{Writing.{default_writer, with_style, writer_setup, fields_written, has_written, writer_under, writer_pending}, declared.writer.{Writer.{Writer}, WriterBuilder.{WriterBuilder}}}
use Rattle.csv.specs.declared.writer.QuoteStyle.TheVariants as style
use Rattle.{process_api.specs.declared.entry.Kind.{Kind}, reporting.specs.declared.rows.Rows.{Rows}}
use Rattle.process_api.specs.declared.entry.Kind.TheVariants as kind

abbrev pub line_feed : ℕ
line_feed = 10

abbrev pub comma : ℕ
comma = 44

-- a row: its fields with a comma between them, and a line feed
unfoldable pub row_of : List (List ℕ) → List ℕ
row_of fields = join_with_byte comma fields ++ line_feed ∷ []

-- commas, line feeds, and no quotes
abbrev pub plain_writer : WriterBuilder
plain_writer = with_style default_writer style.Never

-- a writer is set up so, and no row is half written
pub record IsBetween (as_wanted : WriterBuilder) (w : Writer (Vec ℕ)) : Type 0 where
  pub setup : writer_setup w ≡ as_wanted
  pub fields : fields_written w ≡ 0
  pub wrote : has_written w ≡ false

-- what it wrote so far
abbrev pub written : Writer (Vec ℕ) → List ℕ
written w = (writer_under w).items ++ writer_pending w

abbrev pub IsBetweenRows : Rows → Type 0
IsBetweenRows rows = IsBetween plain_writer rows.writer

abbrev pub text_of : Rows → List ℕ
text_of rows = written rows.writer

-- the names of kinds, as they stand in texts
abbrev pub kind_text : Kind → List ℕ
kind_text kind.Start = codes "start"
kind_text kind.Beat = codes "beat"
kind_text kind.Check = codes "check"
kind_text kind.Share = codes "share"
kind_text kind.Alive = codes "alive"
kind_text kind.Heartbeat = codes "heartbeat"
kind_text kind.Suspects = codes "suspects"
kind_text kind.Vector = codes "vector"
kind_text kind.Last = codes "last"
kind_text kind.Estimate = codes "estimate"
kind_text kind.Proposal = codes "proposal"
kind_text kind.Reply = codes "reply"
kind_text kind.Decide = codes "decide"
kind_text kind.Dead = codes "dead"
