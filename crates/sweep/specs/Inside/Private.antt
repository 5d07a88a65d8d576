-- Words of private functions.
use Rattle.std.specs.Prelude.{◌≡◌, true, Some, ℕ, ◌+◌, ◌≤◌, List, length, ◌++◌}
use Rattle.study.specs.{Words.{Word, is_natural, natural}, Grid.{GridRecord}}
use Rattle.sweep.specs.{GroupWords.{ends_said}, Fitting.{most_values}, declared.{value_counts.ValueCounts.{ValueCounts}, group.Group.{Group}, point_sums.PointSums.{PointSums}, table.Table.{Table}, unit_sums.UnitSums.{UnitSums}}}
use Rattle.sweep.specs.{Percentile.{AreCounted}, Layout.{LayoutRecord, Text, AreRowsFor, AreRowsOfGroup}, Results.{Trial}, Sums.{AreSums, AreUnitSums}, StudyText.{text_of, lead_of}}

-- the rows of a unit, if any runs were added up to these sums
abbrev pub AreRowsOfSums : LayoutRecord → GridRecord → (unit : ℕ) → UnitSums → Text → Type 0
AreRowsOfSums layout g unit sums rows = (first : ℕ) (trials : List Trial)
    → AreUnitSums layout.groups first trials sums
    → AreRowsFor layout.picks (lead_of layout.rows g unit) layout.groups first trials rows

-- they are added to a text: those of one group, and those of these groups
abbrev pub AddsRowsOfGroup : LayoutRecord → GridRecord → (unit : ℕ) → Group → PointSums → (old new : Table) → Type 0
AddsRowsOfGroup layout g unit group sums old new = (first : ℕ) (trials : List Trial) → AreSums group first trials sums
    → (rows : Text) × AreRowsOfGroup layout.picks (lead_of layout.rows g unit) first trials group rows
    × (text_of new ≡ text_of old ++ rows)

-- the old counts of any values, as long as they aren't too many, give the new counts of these values and of more
abbrev pub CountsMore : (more : List ℕ) → (old new : ValueCounts) → Type 0
CountsMore more old new = (values : List ℕ) → length values + length more ≤ most_values → AreCounted values old
    → AreCounted (values ++ more) new

-- the words are the two ends
pub record AreEnds (w first last : Word) : Type 0 where
  pub first_natural : is_natural first ≡ true
  pub last_natural : is_natural last ≡ true
  pub said : ends_said w ≡ Some (natural first, natural last)
