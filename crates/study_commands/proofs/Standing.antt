-- Files that stand for a scenario, or for none.
use Rattle.study_commands.proofs.Words.{◌≡◌, ◌⊎◌, ◌==◌, arith, ◌&&◌, inl, inr, refl, subst, sym, ℕ, List, [], ◌∷◌, length, map, Bool, true, false, not, cond, ne_eqb, AllZip, Record, Members, GridRecord, SaysAssignment, Assignment, SourcesRecord, IsOfWordsFor, AreFiles, AreSet, AreSources, IsOwnScenario, IsScenario, IsTable, MayBeTable, is_alone, network_path, no_axes, set_words, AreNoSources, IsNoScenario, IsOfFile, IsOfFiles, IsOfOwnFile, IsOfSources, Decided, IsRefusedFile, SaysNoSources, Fault, Memory, Refused, Words, WordsMemory, SourceTexts}
use Rattle.std.proofs.Common.{Bor, Option, None, Some, is_some, option_map, MatchOption}
use Rattle.{study.specs.Laid.{IsLaid, IsLaidBy, is_run}, study_commands.specs.Inside.Setting.{CannotSet, StandsForNone}}

-- a scenario's file alone is the table of its run
none_laid : (t : Members) (b : Bool) → MatchOption {T = Members} (cond b None None) (t ≡ t) (λ file. IsLaidBy t file t)
none_laid t true = refl
none_laid t false = refl

alone_laid : (t : Members) → IsLaid (record { scenario = t; network = None }) t
alone_laid t = none_laid t (is_run t)

-- where a scenario's file alone is named, there are no words of other files and keys
alone_words : (network : Option (Bor (List ℕ))) (words : List (Bor (List ℕ)))
    → (not (is_some network) && (length words == 0)) ≡ true
    → (option_map (λ w. w.now) network ≡ None) × (map (λ w. w.now) words ≡ [])
alone_words None [] is = (refl, refl)
alone_words None (w ∷ ws) is =
    let no : (length (w ∷ ws) == 0) ≡ false = ne_eqb (length (w ∷ ws)) 0 (λ e. omega (arith, e)) in (refl, cc (is, no))
alone_words (Some w) ws is = let no : false ≡ true = is in (cc no, cc no)

module _ (input : Option (List ℕ)) (texts : SourceTexts) where
  -- its scenario is the one for which it stands
  pub own_scenario : (s : Record) → is_alone texts ≡ true → IsOwnScenario input texts.path.now s
      → IsScenario input texts s
  own_scenario s alone own =
      let none = alone_words texts.network texts.set.items alone in
      let t = own.accepted.table in
      let files : SourcesRecord = record { scenario = t; network = None } in
      let file : IsTable input texts.path.now t =
      record { bytes = own.bytes; are_bytes = own.are_bytes; is_document = own.accepted.is_document } in
      let away : MayBeTable input (network_path texts) None =
      subst (λ p. MayBeTable input p None) (sym none.0) tt in
      let unset : AllZip SaysAssignment (set_words texts) [] = subst (λ ws. AllZip SaysAssignment ws []) (sym none.1) tt in
      record {
        sources = files;
        are_sources = record {
          files = files;
          are_files = record { scenario = file; network = away };
          assigned = [];
          are_set = record { say = unset; apart = refl };
          sources_are = refl;
        };
        is_of = record {
          table = t;
          is_table = alone_laid t;
          stands_for = record {
            unrefused = own.accepted.unrefused;
            record_is = own.accepted.stands_for;
          };
        };
      }

  -- why files are refused: a scenario's alone
  pub own_refused : (f : Fault) → is_alone texts ≡ true → IsOfOwnFile input texts.path.now f → IsOfFile input texts f
  own_refused (Refused line) alone is =
      let D : Bool → Type 0 = λ b.
      Decided b (IsRefusedFile input texts.path.now line) (AreNoSources input texts line ⊎ IsNoScenario input texts) in
      subst D (sym alone) is
  own_refused Memory alone is = tt
  own_refused _ alone is = absurd is

  -- others can't be had
  pub sources_refused : (f : Fault) → is_alone texts ≡ false → IsOfSources input texts no_axes f
      → IsOfFile input texts f
  sources_refused (Words line) other is = is
  sources_refused WordsMemory other is = tt
  sources_refused (Refused line) other is =
      let D : Bool → Type 0 = λ b.
      Decided b (IsRefusedFile input texts.path.now line) (AreNoSources input texts line ⊎ IsNoScenario input texts) in
      subst D (sym other) (inl is)
  sources_refused Memory other is = tt
  sources_refused _ other is = absurd is

  -- or stand for no scenario
  pub none_refused : (sources : SourcesRecord) (f : Fault) → is_alone texts ≡ false
      → AreSources input texts no_axes sources → StandsForNone sources f → IsOfFile input texts f
  none_refused sources (Refused line) other are none =
      let D : Bool → Type 0 = λ b.
      Decided b (IsRefusedFile input texts.path.now line) (AreNoSources input texts line ⊎ IsNoScenario input texts) in
      let its : IsNoScenario input texts = record {
        sources = sources;
        are_sources = are;
        reason = none.reason;
        other = none.other;
        refused = none.refused;
      } in
      subst D (sym other) (inr its)
  none_refused sources Memory other are none = tt
  none_refused sources _ other are none = absurd none

  module _ (g : GridRecord) where
    -- why there are no such files: words, the files themselves, a key that has no place in them
    pub words_refused : (f : Fault) → IsOfWordsFor (SaysNoSources texts g) f → IsOfSources input texts g f
    words_refused (Words line) is = is
    words_refused WordsMemory is = tt
    words_refused _ is = absurd is

    pub files_refused : (f : Fault) → IsOfFiles input texts f → IsOfSources input texts g f
    files_refused (Refused line) is = inl is
    files_refused Memory is = tt
    files_refused _ is = absurd is

    pub set_refused : (files : SourcesRecord) (assigned : List Assignment) (f : Fault) → AreFiles input texts files
        → AreSet (set_words texts) g assigned → CannotSet assigned files f → IsOfSources input texts g f
    set_refused files assigned (Refused line) are set cannot = inr (record {
      files = files;
      are_files = are;
      assigned = assigned;
      say = set.say;
      reason = cannot.reason;
      other = cannot.other;
      is = cannot.is;
    })
    set_refused files assigned Memory are set cannot = tt
    set_refused files assigned _ are set cannot = absurd cannot
