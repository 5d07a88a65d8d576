use Rattle.study_commands.proofs.{Words.{◌∙◌, ap, list_any, range_with_len, is_no_end}, CommonLink.{sends_where}}
use Rattle.study_commands.proofs.common_link.sends_by_link.Goals as goal

pub returns : goal.returns
returns c =
    c.lacks_end.ensures
    ∙ ap (λ ends. list_any (is_no_end ends c.args.from) (range_with_len 1 c.args.processes))
    (c.deref.ensures.value ∙ c.in_ok-ends.ensures)
    ∙ sends_where c.args.pairs.now c.args.processes c.args.from
