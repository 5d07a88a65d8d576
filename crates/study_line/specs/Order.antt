-- What the words of a command line state.
use Rattle.std.specs.{Prelude.{◌≡◌, ◌≢◌, [], ◌∷◌, ℕ, Bool, List, Ok, Option, Some, None, true, codes, is_some, map, not, option_map, unwrap_or}, Borrow.{Bor}, List.{list_all}, Option.{option_map_or}, Str.Parse.{ParsesUnsigned}}
use Rattle.std.specs.declared.num.ParseIntError.{ParseIntError}
use Rattle.clap.specs.{Words.{Row, Text, subcommand_of, all_of, first_of, one_of, fault_of, IsAmong}, declared.error.kind.ErrorKind.{ErrorKind, TheVariants.{DisplayHelp, DisplayVersion}}}
use Rattle.study_line.specs.{Commands.{whole_app}, declared.order.{Each.{Each}, GridTexts.{GridTexts}, Order.{Order}, Picture.{Picture}, SourceTexts.{SourceTexts}, StudyTexts.{StudyTexts}, WordsError.{WordsError}}}
use Rattle.study_line.specs.declared.order.Each.TheVariants as each
use Rattle.study_line.specs.declared.order.Order.TheVariants as order
use Rattle.study_line.specs.declared.order.Picture.TheVariants as picture
use Rattle.study_line.specs.declared.order.WordsError.TheVariants as refusal

abbrev pub IsTextAt : Text → List Row → Text → Type 0
IsTextAt id rows text = first_of id rows ≡ Some text

-- the same of an argument that may be missing
abbrev pub MayBeTextAt : Text → List Row → Option (Bor Text) → Type 0
MayBeTextAt id rows text = option_map (λ t. t.now) text ≡ first_of id rows

abbrev pub is_missing : List Row → Text → Bool
is_missing rows id = not (is_some (first_of id rows))

-- the texts of all uses of an argument, in their order
abbrev pub texts_at : Text → List Row → List Text
texts_at id rows = option_map_or (λ texts. texts) (all_of id rows) []

-- the number of so many bits that an argument's text writes
abbrev pub IsUnsignedAt : (bits : ℕ) → Text → List Row → ℕ → Type 0
IsUnsignedAt bits id rows n =
    (text : Text) × (one_of id rows ≡ Some text) × ParsesUnsigned {E = ParseIntError} bits 10 text (Ok n)

-- the same of an argument that may be missing
abbrev pub MayBeUnsignedAt : (bits : ℕ) → Text → List Row → Option ℕ → Type 0
MayBeUnsignedAt bits id rows (Some n) = IsUnsignedAt bits id rows n
MayBeUnsignedAt bits id rows None = (n : ℕ) → IsUnsignedAt bits id rows n → ⊥

-- numbers are of 64 bits, ticks of 32
abbrev pub IsNumberAt : Text → List Row → ℕ → Type 0
IsNumberAt = IsUnsignedAt 64

abbrev pub MayBeNumberAt : Text → List Row → Option ℕ → Type 0
MayBeNumberAt = MayBeUnsignedAt 64

abbrev pub MayBeTickAt : Text → List Row → Option ℕ → Type 0
MayBeTickAt = MayBeUnsignedAt 32

-- the words of pictures
abbrev pub picture_text : Picture → Text
picture_text picture.Suspicions = codes "suspicions"
picture_text picture.Letters = codes "letters"

-- the picture that an argument's text names
abbrev pub IsPictureAt : Text → List Row → Picture → Type 0
IsPictureAt id rows named = IsTextAt id rows (picture_text named)

-- the words for what a row tells of
abbrev pub each_text : Each → Text
each_text each.Point = codes "point"
each_text each.Run = codes "run"

-- what a row tells of, as an argument's text names it; a point where there is none
abbrev pub IsEachAt : Text → List Row → Each → Type 0
IsEachAt id rows told = unwrap_or (first_of id rows) (codes "point") ≡ each_text told

-- the files that are named, and what is set in them
pub record AreSourcesAt (rows : List Row) (sources : SourceTexts) : Type 0 where
  pub path : IsTextAt (codes "path") rows sources.path.now
  pub network : MayBeTextAt (codes "network") rows sources.network
  pub set : map (λ t. t.now) sources.set.items ≡ texts_at (codes "set") rows

-- which runs a study has
pub record IsGridAt (rows : List Row) (grid : GridTexts) : Type 0 where
  pub seeds : IsTextAt (codes "seeds") rows grid.seeds.now
  pub vary : map (λ t. t.now) grid.vary.items ≡ texts_at (codes "vary") rows
  pub over : map (λ t. t.now) grid.over.items ≡ texts_at (codes "over") rows
  pub deal : map (λ t. t.now) grid.deal.items ≡ texts_at (codes "deal") rows

-- a study: its runs, which part of them is done, by how many threads, and what its table has
pub record IsStudyAt (rows : List Row) (study : StudyTexts) : Type 0 where
  pub grid : IsGridAt rows study.grid
  pub shard : MayBeTextAt (codes "shard") rows study.shard
  pub threads : MayBeNumberAt (codes "threads") rows study.threads
  pub columns : MayBeTextAt (codes "columns") rows study.columns
  pub each : IsEachAt (codes "each") rows study.each
  pub pairs : map (λ t. t.now) study.pairs.items ≡ texts_at (codes "pairs") rows

-- the options that say a study
abbrev pub study_options : List Text
study_options =
    codes "seeds" ∷ codes "vary" ∷ codes "over" ∷ codes "deal" ∷ codes "shard" ∷ codes "threads" ∷ codes "columns"
    ∷ codes "each" ∷ codes "pairs" ∷ []

-- a study, or none where none of its options is there
abbrev pub MayBeStudyAt : List Row → Option StudyTexts → Type 0
MayBeStudyAt rows (Some study) = IsStudyAt rows study
MayBeStudyAt rows None = list_all (is_missing rows) study_options ≡ true

-- the order is what the subcommand of this name says by its own arguments
abbrev pub StatesIn : Text → List Row → Order → Type 0
StatesIn name rows (order.Check sources study) = (name ≡ codes "check")
    × AreSourcesAt rows sources × MayBeStudyAt rows study
StatesIn name rows (order.Letters sources) = (name ≡ codes "letters") × AreSourcesAt rows sources
StatesIn name rows (order.Draw sources words) = (name ≡ codes "draw")
    × AreSourcesAt rows sources × IsPictureAt (codes "as") rows words.picture
    × MayBeTickAt (codes "from") rows words.from × MayBeTickAt (codes "until") rows words.until
    × MayBeTextAt (codes "of") rows words.of
StatesIn name rows (order.Show sources grid point run) = (name ≡ codes "show")
    × AreSourcesAt rows sources × IsGridAt rows grid
    × IsNumberAt (codes "point") rows point × IsNumberAt (codes "run") rows run
StatesIn name rows (order.Sweep sources study) = (name ≡ codes "sweep")
    × AreSourcesAt rows sources × IsStudyAt rows study

-- the order is what the subcommand that was found says
abbrev pub StatesFound : Option (Text × List Row) → Order → Type 0
StatesFound met asked = (found : Text × List Row) × (met ≡ Some found) × StatesIn found.0 found.1 asked

-- the order is what clap finds in the words, as in a simple command
abbrev pub States : List Text → Order → Type 0
States words asked = StatesFound (subcommand_of whole_app words) asked

-- clap takes the words, and what it finds in them is no whole order
pub record StatesNothing (words : List Text) : Type 0 where
  pub taken : fault_of whole_app words ≡ []
  pub nothing : (asked : Order) → States words asked → ⊥

abbrev pub AsksHelp : List Text → Type 0
AsksHelp words = IsAmong DisplayHelp (fault_of whole_app words)

abbrev pub AsksVersion : List Text → Type 0
AsksVersion words = IsAmong DisplayVersion (fault_of whole_app words)

-- what is printed then
abbrev pub version_text : Text
version_text = codes "fdstudy 0.1.0\n"

-- what is told: help or the version where the words ask for it, or the mistake for which clap refuses them
abbrev pub Explains : List Text → WordsError → Type 0
Explains words (refusal.Help text) = AsksHelp words
Explains words refusal.Version = AsksVersion words
Explains words (refusal.Mistake text) =
    (kind : ErrorKind) × (kind ≢ DisplayHelp) × (kind ≢ DisplayVersion) × IsAmong kind (fault_of whole_app words)
Explains words (refusal.NoPicture word) = StatesNothing words
Explains words (refusal.NoEach word) = StatesNothing words
Explains words refusal.Form = StatesNothing words
Explains words refusal.Memory = Unit {0}
