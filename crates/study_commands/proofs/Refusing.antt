-- Pictures and their runs that are refused.
use Rattle.study_commands.proofs.Words.{ℕ, List, Option, IsBefore, IsScenario, Fault, Limit, Memory, NotDrawn, Record, SourceTexts}
use Rattle.study_commands.specs.Draw.{AreNamed, IsOfPicture, StopsPicture, end_of_ticks, first_tick, of_word}
use Rattle.study_line.specs.declared.order.Picture.TheVariants as picture
use Rattle.study_line.specs.declared.order.PictureTexts.{PictureTexts}

-- the fault of a picture of the files' scenario
pub picture_stops : (input : Option (List ℕ)) (texts : SourceTexts) (words : PictureTexts)
    (s : Record) (of : List ℕ) (f : Fault) → IsScenario input texts s → AreNamed words.picture (of_word words) of
    → IsOfPicture texts.path.now words.picture s of (first_tick words.from) (end_of_ticks s words.until) f
    → IsBefore (StopsPicture input texts words) f
picture_stops input texts words s of (NotDrawn error line) at are is =
    record { of = of; are_named = are; scenario = s; is_scenario = at; refused = is.0; says = is.1 }
picture_stops input texts words s of Limit at are is = (s, at, is.0, is.1)
picture_stops input texts words s of Memory at are is = tt
picture_stops input texts words s of _ at are is = absurd is
