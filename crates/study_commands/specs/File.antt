-- The files that a command line names, and what is set in them.
use Rattle.std.specs.{Prelude.{◌≡◌, ◌≢◌, ◌≤◌, ◌==◌, ◌&&◌, ℕ, List, [], length, map, Bool, not, Option, None, Some, is_some, option_map, Ok}, List.{AllZip}}
use Rattle.{toml.specs.Data.{Members}, scenario_record.specs.Record.{Record}, scenario.specs.Refusals.{Accepts, IsDocumentOf}, shell.specs.Ending.{AreAllOf, input_path, most_bytes}}
use Rattle.study.specs.{Grid.{GridRecord, grid_of, set_twice}, Placed.{assign_all}, Laid.{IsScenarioOf}, SetWords.{SaysAssignment}, Settings.{Path, path_of}, Sources.{SourcesRecord}, Words.{Word}}
use Rattle.{study.specs.declared.assignment.Assignment.{Assignment}, study_line.specs.declared.order.SourceTexts.{SourceTexts}}

-- the path of the network's file, where one is named
abbrev pub network_path : SourceTexts → Option (List ℕ)
network_path texts = option_map (λ w. w.now) texts.network

-- the words that set keys for all runs
abbrev pub set_words : SourceTexts → List Word
set_words texts = map (λ w. w.now) texts.set.items

-- a scenario's file alone is named, and nothing is set in it
abbrev pub is_alone : SourceTexts → Bool
is_alone texts = not (is_some texts.network) && (length texts.set.items == 0)

-- neither file is standard input
pub record NameNoInput (texts : SourceTexts) : Type 0 where
  pub scenario : texts.path.now ≢ input_path
  pub network : network_path texts ≢ Some input_path

-- both are
abbrev pub NameInputTwice : SourceTexts → Type 0
NameInputTwice texts = (texts.path.now ≡ input_path) × (network_path texts ≡ Some input_path)

abbrev pub paths_set : List Assignment → List Path
paths_set assigned = map (λ a. path_of a.key) assigned

-- words set these keys for all runs, each of them once, and none that an axis of the study sets
pub record AreSet (words : List Word) (g : GridRecord) (assigned : List Assignment) : Type 0 where
  pub say : AllZip SaysAssignment words assigned
  pub apart : set_twice g (paths_set assigned) ≡ None

-- where no study is asked for, there are no axes
abbrev pub no_axes : GridRecord
no_axes = grid_of [] [] [] 0 0

module _ (input : Option (List ℕ)) where
  module _ (path : List ℕ) where
    -- the bytes are the file's, and not too many. Of a path other than `-` they aren't known
    pub record AreBytes (bytes : List ℕ) : Type 0 where
      pub is_short : length bytes ≤ most_bytes
      pub is_input : path ≡ input_path → AreAllOf input bytes

    -- the table is the file's
    pub record IsTable (file : Members) : Type 0 where
      pub bytes : List ℕ
      pub are_bytes : AreBytes bytes
      pub is_document : IsDocumentOf bytes (Some file)

    -- the file is accepted as a scenario's, and this is the scenario
    pub record IsOwnScenario (s : Record) : Type 0 where
      pub bytes : List ℕ
      pub are_bytes : AreBytes bytes
      pub accepted : Accepts bytes s

  -- the table is that of the file at the path, and there is none without a path
  abbrev pub MayBeTable : (path : Option (List ℕ)) → Option Members → Type 0
  MayBeTable None None = Unit {0}
  MayBeTable (Some path) (Some t) = IsTable path t
  MayBeTable _ _ = ⊥

  module _ (texts : SourceTexts) where
    -- the files are those that are named
    pub record AreFiles (files : SourcesRecord) : Type 0 where
      pub scenario : IsTable texts.path.now files.scenario
      pub network : MayBeTable (network_path texts) files.network

    -- the files of a study are those that are named, with what words set in them
    pub record AreSources (g : GridRecord) (sources : SourcesRecord) : Type 0 where
      pub files : SourcesRecord
      pub are_files : AreFiles files
      pub assigned : List Assignment
      pub are_set : AreSet (set_words texts) g assigned
      pub sources_are : assign_all assigned files ≡ Ok sources

    -- the scenario is the one for which the files stand
    pub record IsScenario (s : Record) : Type 0 where
      pub sources : SourcesRecord
      pub are_sources : AreSources no_axes sources
      pub is_of : IsScenarioOf (Ok sources) s
