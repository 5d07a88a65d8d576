use Rattle.std.proofs.lemmas.Iterator.{Consumers.{map_from_collect}, Splits.{YieldsList-from_str_split}}
use Rattle.study.proofs.words.words_between.Goals as goal

pub returns-clause-value : goal.returns-clause-value
returns-clause-value c =
    map_from_collect _ c.collect.ensures.ran
    (YieldsList-from_str_split c.args.mark c.args.words.now c.requires c.split.ensures.text c.split.ensures.has_more
    c.split.ensures.pattern)
