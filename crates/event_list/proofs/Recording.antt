-- A run whose entries are handed on.
use Rattle.event_list.proofs.Words.{◌≡◌, ℕ, ap, subst, ◌∙◌, List, [], ◌∷◌, ◌++◌, length, append_assoc, take, EntryRecord, Mind, Posted, Setting, Stands, Events, Process, IsTrace, reached_front}
use Rattle.event_list.specs.Following.{WereTaken}

-- so many entries were taken, and the letters of their steps were heard; the list stands after them
pub record Going (S : Setting Mind) (processes : List (Process Mind)) (pending : Events) (old now : List EntryRecord → Type 0) (told : List Posted → Type 0) (count : ℕ) : Type 0 where
  pub trace : List EntryRecord
  pub letters : List Posted
  pub stands : Stands S processes pending trace letters
  pub long : length trace ≡ count
  pub taken : WereTaken old now trace
  pub heard : told letters

-- one entry more
pub taken_next : (old now then : List EntryRecord → Type 0) (trace : List EntryRecord) (entry : EntryRecord) → WereTaken old now trace → ((taken : List EntryRecord) → now taken → then (taken ++ entry ∷ [])) → WereTaken old then (trace ++ entry ∷ [])
taken_next old now then trace entry was one before had = subst then (append_assoc before trace (entry ∷ [])) (one (before ++ trace) (was before had))

-- what was taken is a front of every trace
pub cut_short : (S : Setting Mind) (processes : List (Process Mind)) (pending : Events) (old now : List EntryRecord → Type 0) (told : List Posted → Type 0) (limit : ℕ) → Going S processes pending old now told limit → (whole : List EntryRecord) → IsTrace S whole → WereTaken old now (take limit whole)
cut_short S processes pending old now told limit is whole whole_is =
    subst (WereTaken old now) (reached_front S is.stands.world is.trace is.stands.reached whole whole_is ∙ ap (λ n. take n whole) is.long) is.taken
