use Rattle.network.proofs.{Basics.{◌≡◌, ℕ, ◌+◌, ◌<◌, sym, append-nil, ap, ◌∙◌, List, ◌++◌, map, length, subst, rules, most_outages, on_each, outage_on, to_come, LinkOutage}, Adding.{none_each}}
use Rattle.network.proofs.Turns.{adds_one, all_seen, full_at, goes_on, seen, starts}
use Rattle.network.proofs.rhythm.RhythmSource.draw_on.Goals as goal

pub loop-begin-init : goal.loop-begin-init
loop-begin-init c =
    let none = ap (λ xs. c.args.drawn.now ++ xs) (none_each c.args.links.now) ∙ append-nil c.args.drawn.now in
    (0, starts c.args.self.now (to_come c.args.words.now) _ c.args.horizon c.first_ticks-begin.result c.first_ticks-begin.ensures.value c.first_ticks-begin.ensures.rest, sym none)

pub loop-begin-preserved : goal.loop-begin-preserved
loop-begin-preserved c =
    let its = c.args.self.now in
    let words = to_come c.args.words.now in
    let links = c.args.links.now in
    let m = c.loop-begin.invariant.0 in
    let at = c.loop-begin.invariant.1 in
    let begin = c.loop-begin.begin in
    let more = c.in_ok-push_each.ensures.ok
    ∙ (λ i. c.loop-begin.drawn ++ map (outage_on (record { begin = begin; until = c.min-end.ensures i })) links) in (
      m + 1,
      goes_on its words (to_come c.loop-begin.words) (to_come c.ticks.new.self) (to_come c.ticks-in-loop-begin.new.self) c.args.horizon m begin c.ticks.result c.ticks-in-loop-begin.result at c.loop-begin-test.true c.ticks.ensures.value c.ticks.ensures.rest c.ticks-in-loop-begin.ensures.value c.ticks-in-loop-begin.ensures.rest c.ticks.ensures.low,
      adds_one its words (to_come c.loop-begin.words) links c.args.horizon m begin c.ticks.result c.args.drawn.now c.loop-begin.drawn c.push_each.new.self at c.ticks.ensures.value c.loop-begin.invariant.2 more,
    )

pub returns-in_err-push_each-clause-full : goal.returns-in_err-push_each-clause-full
returns-in_err-push_each-clause-full c = λ is.
    let its = c.args.self.now in
    let words = to_come c.args.words.now in
    let links = c.args.links.now in
    let old = c.args.drawn.now in
    let m = c.loop-begin.invariant.0 in
    let at = c.loop-begin.invariant.1 in
    let begin = c.loop-begin.begin in
    let one : ℕ → List LinkOutage = λ end. c.loop-begin.drawn ++ map (outage_on (record { begin = begin; until = end })) links in
    let joined : one c.min-end.result ≡ old ++ on_each links (seen its words c.args.horizon (m + 1)) =
    adds_one its words (to_come c.loop-begin.words) links c.args.horizon m begin c.ticks.result old c.loop-begin.drawn (one c.min-end.result) at c.ticks.ensures.value c.loop-begin.invariant.2 (ap one c.min-end.ensures) in
    let P : List LinkOutage → Type 0 = λ xs. most_outages < length xs in
    full_at its words (to_come c.loop-begin.words) links c.args.horizon m begin most_outages old at c.loop-begin-test.true
    (subst P joined (c.in_err-push_each.ensures.full (search rules)))

pub returns : goal.returns
returns c =
    let its = c.args.self.now in
    let words = to_come c.args.words.now in
    let m = c.loop-begin.invariant.0 in
    let all = all_seen its words (to_come c.loop-begin.words) c.args.horizon m c.loop-begin.begin c.loop-begin.invariant.1 c.loop-begin-test.false in
    record {
      ok = c.loop-begin.invariant.2 ∙ ap (λ xs. c.args.drawn.now ++ on_each c.args.links.now xs) (sym all);
      full = λ is. absurd (search rules);
    }
