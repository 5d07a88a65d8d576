use Rattle.study.proofs.{Basics.{None, Some, decimal, lit<, ◌∙◌, sym, strip_suffix_char}, KeyNames.{read_place, place_none}}
use Rattle.study.proofs.key_words.place_in.Goals as goal

pub returns-in_err-digits : goal.returns-in_err-digits
returns-in_err-digits c =
    rw c.from_residual.ensures (λ place low small. strip_suffix_char 93 c.args.word.now None
    c.in_err-digits.ensures.cases (lit< tt) (decimal place))

pub returns-then-is_place_word : goal.returns-then-is_place_word
returns-then-is_place_word c =
    read_place c.args.word.now c.in_ok-digits.digits.now c.natural_in.result
    (strip_suffix_char 93 c.args.word.now (Some c.in_ok-digits.digits) c.in_ok-digits.ensures.cases (lit< tt))
    (sym c.is_place_word.ensures ∙ c.if-is_place_word.true) c.natural_in.ensures

pub returns-else-is_place_word : goal.returns-else-is_place_word
returns-else-is_place_word c =
    place_none c.args.word.now c.in_ok-digits.digits.now
    (strip_suffix_char 93 c.args.word.now (Some c.in_ok-digits.digits) c.in_ok-digits.ensures.cases (lit< tt))
    (sym c.is_place_word.ensures ∙ c.if-is_place_word.false)
