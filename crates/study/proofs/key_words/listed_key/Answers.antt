use Rattle.std.proofs.Common.{◌≡◌, string_bytes, codes, rules}
use Rattle.study.proofs.KeyNames.{every_written}
use Rattle.study.proofs.key_words.listed_key.Goals as goal

pub returns-then-eq-clause-text : goal.returns-then-eq-clause-text
returns-then-eq-clause-text c =
    let star : c.args.place.now ≡ codes "*]" = search rules in
    every_written c.args.array.now c.args.place.now c.args.key.now (string_bytes c.in_ok-array.array)
    (string_bytes c.in_ok-key.key) star c.in_ok-array.ensures.ok.0 c.in_ok-key.ensures.ok.0
