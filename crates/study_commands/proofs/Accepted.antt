-- Files that are accepted: their one scenario, and what is told of it.
use Rattle.study_commands.proofs.Words.{◌≡◌, ◌∙◌, ◌++◌, ap, sym, ℕ, List, Describes, entries_in, longest_window, Accepts, record_of, Record, accepted_line, accepted_text}
use Rattle.{std.specs.Prelude.{unwrap_or}, diagnosis.specs.declared.answer.Accepted.{Accepted}}

pub same_scenario : (bytes : List ℕ) (s t : Record) → Accepts bytes s → Accepts bytes t → s ≡ t
same_scenario bytes s t one other =
    let table : one.table ≡ other.table =
    ap (λ o. unwrap_or o one.table) (sym one.is_document.1 ∙ other.is_document.1) in
    one.stands_for ∙ ap record_of table ∙ sym other.stands_for

-- what is told of a scenario's size, before something more
pub told_more : (s : Record) (a : Accepted) → Describes s a → (more piece : List ℕ) → piece ≡ accepted_line a ++ more
    → piece ≡ accepted_text s.processes s.horizon s.limit (longest_window s) a.estimate.entries a.estimate.seconds
    (entries_in (longest_window s) a.estimate.entries s.horizon) ++ more
told_more s a describes more piece said =
    rw (
      ← describes.in_window,
      ← describes.window,
      ← describes.processes,
      ← describes.horizon,
      ← describes.limit,
    ) said
