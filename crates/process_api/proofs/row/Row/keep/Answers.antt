use Rattle.std.proofs.Common.{◌≡◌, ◌∙◌, ◌+◌, ◌-◌, ◌<◌, sym, ap, arith, is_some, length}
use Rattle.std.specs.FinSet as set
use Rattle.process_api.proofs.Rows.{kept_new, sender_new}
use Rattle.process_api.proofs.row.Row.keep.Goals as goal

pub invariant_of-self : goal.invariant_of-self
invariant_of-self g c = record { counted = λ q. c.args.self.now.counted q ∙ ap (λ f. is_some (f q)) (sym c.widen.ensures.same) }

pub invariant_of-self-2 : goal.invariant_of-self-2
invariant_of-self-2 g c =
    let place = c.from-place.result - 1 in
    let at_place : c.args.sender ≡ place + 1 = omega (arith, c.from-place.ensures, c.number.ensures.value, c.number.ensures.low) in
    let room : place < length c.widen.new.cells.items = omega (arith, c.in_ok-widen.ensures.wide) in
    record {
      counted = λ q. ap (λ s. set.contains s q) c.insert.ensures
          ∙ sender_new c.args.self.now.senders c.args.self.now.cells.items c.widen.new.cells.items c.args.sender place c.args.letter at_place c.widen.ensures.same room c.args.self.now.counted q;
    }

pub returns : goal.returns
returns g c =
    let place = c.from-place.result - 1 in
    let at_place : c.args.sender ≡ place + 1 = omega (arith, c.from-place.ensures, c.number.ensures.value, c.number.ensures.low) in
    let room : place < length c.widen.new.cells.items = omega (arith, c.in_ok-widen.ensures.wide) in
    kept_new c.args.self.now.cells.items c.widen.new.cells.items c.args.sender place c.args.letter at_place c.widen.ensures.same room
    (sym (c.args.self.now.counted c.args.sender) ∙ (sym c.contains.ensures ∙ c.if-contains.false))
