use Rattle.study_commands.proofs.Words.{◌≡◌, ◌++◌, map, drop, string_bytes, chosen, choices_text}
use denote.Shadow.{shadow}
use denote.Text.{Utf8}
use Rattle.study_commands.proofs.run_name.push_choices.Given as goal

abbrev pub invariant-loop-choice : goal.invariant-loop-choice
invariant-loop-choice l =
    shadow (Utf8 l.before)
    × (string_bytes l.fn.name ++ choices_text l.fn.before (map chosen l.choices)
    ≡ string_bytes l.name ++ choices_text l.before (map chosen (drop l.choice-index l.choices)))
