use Rattle.network.proofs.{Basics.{◌≡◌, ◌∙◌, sym, take, arith, take_all, number_of}, Firsts.{each_view}}
use Rattle.network.proofs.reading.numbers_of.Goals as goal

pub returns : goal.returns
returns c =
    let all : take c.loop-value.value-index c.args.values.now ≡ c.args.values.now = take_all c.loop-value.value-index c.args.values.now (omega arith) in
    (rw all at c.loop-value.invariant) ∙ sym (each_view number_of c.args.values.now)
