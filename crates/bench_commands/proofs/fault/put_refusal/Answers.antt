use Rattle.bench_commands.proofs.{Words.{◌∙◌, ap, codes, decimal, tells_as}, Pieces.{name_line, pair_line}}
use Rattle.bench_commands.proofs.fault.put_refusal.Goals as goal

pub returns-in-BelowLookahead : goal.returns-in-BelowLookahead
returns-in-BelowLookahead g c =
    tells_as _ _ _ _ _ _
    (λ line is. is ∙ pair_line (codes "fdbench: scenario: ") c.name.result.now c.format-from.result.now c.format-to.result.now c.args.error.now
    _ _ c.in-BelowLookahead.is c.name.ensures (c.format-from.ensures.text ∙ ap decimal c.number.ensures.value)
    (c.format-to.ensures.text ∙ ap decimal c.number-in-BelowLookahead.ensures.value))
    c.tell_pieces.ensures

pub returns-in_default : goal.returns-in_default
returns-in_default g c =
    tells_as _ _ _ _ _ _
    (λ line is. is ∙ name_line (codes "fdbench: scenario: ") c.name-in_default.result.now c.args.error.now c.in_default.not-BelowLookahead c.name-in_default.ensures)
    c.tell_pieces-in_default.ensures
