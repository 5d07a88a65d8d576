use Rattle.process_api.proofs.{Basics.{◌≡◌, ◌*◌, ◌%◌, ◌^◌, ◌-◌, ◌∙◌, ap, bit_and, bit_at, one_shl}, BitWords.{low_bit}}
use Rattle.process_api.proofs.words.low_bits.Goals as goal

pub returns : goal.returns
returns c = λ place within.
    let shifted : 1 * 2 ^ c.args.most % 18446744073709551616 ≡ 2 ^ c.args.most = one_shl c.args.most 64 c.if-most-ge64.false in
    ap (λ k. bit_at (bit_and c.args.word (k - 1)) place) shifted ∙ low_bit c.args.word c.args.most place
