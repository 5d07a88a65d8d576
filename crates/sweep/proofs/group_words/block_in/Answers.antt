use Rattle.sweep.proofs.Words.{Err, None, cond, sym, ap, lit<, before, after, block_of, side_said}
use Rattle.{std.proofs.lemmas.Str.Pattern.{split_parts}, study.proofs.Parts.{has_not}}
use Rattle.sweep.specs.declared.error.GroupError.TheVariants.{NoGroup}
use Rattle.sweep.proofs.group_words.block_in.Goals as goal

pub returns-in_default : goal.returns-in_default
returns-in_default c =
    let w = c.args.word.now in
    sym (ap (λ b. cond b (block_of (side_said (before 58 w)) (side_said (after 58 w))) (Err NoGroup))
    (has_not 58 w (split_parts 58 w None c.in_default.ensures.cases (lit< tt))))
