use Rattle.study_commands.proofs.Words.{◌≡◌, ◌∙◌, sym, true, false, is_like}
use Rattle.study_commands.proofs.unknown_column.line_of_unknown.Goals as goal

pub returns-then-is_meant : goal.returns-then-is_meant
returns-then-is_meant c =
    let like : is_like c.args.word.now c.args.nearest.now ≡ true = sym c.in_ok-is_meant.ensures ∙ c.if-is_meant.true in
    rw like c.format.ensures.ok

pub returns-else-is_meant : goal.returns-else-is_meant
returns-else-is_meant c =
    let other : is_like c.args.word.now c.args.nearest.now ≡ false =
    sym c.in_ok-is_meant.ensures ∙ c.if-is_meant.false in
    rw other c.format-else-is_meant.ensures.ok
