use Rattle.study.proofs.{Basics.{◌∙◌, sym, None, lit<, strip_prefix_char}, Numerals.{plain_integer}}
use Rattle.study.proofs.words.is_integer_word.Goals as goal

pub returns-in-None : goal.returns-in-None
returns-in-None c =
    c.is_natural_word-in-None.ensures ∙ sym (plain_integer c.args.word.now
    (strip_prefix_char 45 c.args.word.now None c.in-None.ensures.cases (lit< tt)))
