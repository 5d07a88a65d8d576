use Rattle.network.proofs.Basics.{ℕ, ◌<◌, ◌+◌, ◌*◌, ◌/◌, ◌%◌, ◌∙◌, ap, sym, subst, ◌++◌, List, length, arith, rules, flat_map, range_with_len, length-range_with_len, most_outages, on_each, replayed_in, to_come, LinkOutage}
use Rattle.network.proofs.{Adding.{adds_more, all_taken, full_more, number_at}, Records.{replayed-turns}}
use Rattle.network.proofs.replay.ReplaySource.draw_on.Goals as goal

pub loop-turn-preserved : goal.loop-turn-preserved
loop-turn-preserved c =
    let r = c.args.self.now in
    let place = c.next.result % r.lasts in
    let n = (c.args.horizon + place) / r.lasts + 1 in
    let turn = c.loop-turn.turn in
    let f : ℕ → List LinkOutage = λ m. on_each c.args.links.now (replayed_in r.outages.items (m * r.lasts) place c.args.horizon) in
    adds_more f c.args.drawn.now c.loop-turn.drawn c.draw_turn.new.drawn (range_with_len 0 n) turn turn
    (omega (arith, length-range_with_len 0 n, c.loop-turn-test.true)) (number_at n turn c.loop-turn-test.true) c.loop-turn.invariant c.in_ok-draw_turn.ensures.ok

pub returns-in_err-draw_turn-clause-full : goal.returns-in_err-draw_turn-clause-full
returns-in_err-draw_turn-clause-full c = λ is.
    let r = c.args.self.now in
    let place = c.next.result % r.lasts in
    let n = (c.args.horizon + place) / r.lasts + 1 in
    let turn = c.loop-turn.turn in
    let f : ℕ → List LinkOutage = λ m. on_each c.args.links.now (replayed_in r.outages.items (m * r.lasts) place c.args.horizon) in
    let whole : most_outages < length (c.args.drawn.now ++ flat_map f (range_with_len 0 n)) =
    full_more f most_outages c.args.drawn.now c.loop-turn.drawn (range_with_len 0 n) turn turn
    (omega (arith, length-range_with_len 0 n, c.loop-turn-test.true)) (number_at n turn c.loop-turn-test.true) c.loop-turn.invariant (c.in_err-draw_turn.ensures.full (search rules)) in
    let same = replayed-turns r (to_come c.args.words.now) c.args.links.now c.args.horizon place (ap (λ word. word % r.lasts) c.next.ensures.value) in
    let P : List LinkOutage → Type 0 = λ xs. most_outages < length (c.args.drawn.now ++ xs) in
    subst P (sym same) whole

pub returns-clause-ok : goal.returns-clause-ok
returns-clause-ok c =
    let r = c.args.self.now in
    let place = c.next.result % r.lasts in
    let n = (c.args.horizon + place) / r.lasts + 1 in
    let f : ℕ → List LinkOutage = λ m. on_each c.args.links.now (replayed_in r.outages.items (m * r.lasts) place c.args.horizon) in
    let same = replayed-turns r (to_come c.args.words.now) c.args.links.now c.args.horizon place (ap (λ word. word % r.lasts) c.next.ensures.value) in
    c.loop-turn.invariant
    ∙ (ap (λ xs. c.args.drawn.now ++ flat_map f xs) (all_taken 0 n c.loop-turn.turn c.loop-turn-test.false)
    ∙ ap (λ xs. c.args.drawn.now ++ xs) (sym same))
