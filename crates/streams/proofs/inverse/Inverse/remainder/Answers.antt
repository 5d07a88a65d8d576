use Rattle.std.proofs.Common.{◌≡◌, ◌<◌, ◌+◌, ◌*◌, ◌-◌, ◌%◌, ℕ, sym, ◌∙◌, arith}
use Rattle.std.proofs.lemmas.Nat.{mod-mul-add}
use Rattle.streams.proofs.inverse.Inverse.remainder.Goals as goal

pub returns-then-rest-divisor : goal.returns-then-rest-divisor
returns-then-rest-divisor c =
    let d = c.from-4.result in
    let whole : ℕ = c.from-3.result * d in
    let rest : ℕ = c.args.number - whole in
    let back : whole + rest ≡ c.args.number = omega (arith, c.if-whole-from.true, c.from-5.ensures) in
    let below : rest < d = omega (arith, c.if-rest-divisor.true, c.from-4.ensures) in
    sym (mod-mul-add c.from-3.result d rest below) ∙ (λ i. back i % c.from-4.ensures i)
