use Rattle.network.proofs.{Basics.{◌≡◌, ℕ, ◌<◌, ◌∙◌, ap, sym, subst, ◌++◌, List, filter, length, arith, rules, flat_map, range_with_len, take_all, common_steps, holds, most_outages, of_pause, pause_of, LinkOutage}, Adding.{full_more}}
use Rattle.network.proofs.tables.PauseDrawsOutages.draw.Goals as goal

pub returns-in_err-draw_of-clause-full : goal.returns-in_err-draw_of-clause-full
unfolding of_pause
returns-in_err-draw_of-clause-full c = λ is.
    let its = c.args.self.now in
    let n = c.args.course.processes in
    let f : ℕ → List LinkOutage = pause_of n c.args.course.horizon c.args.course.seed c.args.before its in
    let xs = c.deref-p-items.result.now in
    let i = c.loop-p.p-index in
    let x = c.p-item.result in
    let direct : xs ≡ c.in_ok-pausing.pausing.items = cc in
    let pausing : xs ≡ filter (holds its.processes) (range_with_len 1 n) = direct ∙ c.in_ok-pausing.ensures in
    let Whole : List ℕ → Type 0 = λ ys. most_outages < length (c.args.drawn.now ++ flat_map f ys) in
    subst Whole pausing
    (full_more f most_outages c.args.drawn.now c.loop-p.drawn xs i x (grind (arith, common_steps)) (sym c.p-item.is) c.loop-p.invariant (c.in_err-draw_of.ensures.full (search rules)))

pub returns-clause-ok : goal.returns-clause-ok
unfolding of_pause
returns-clause-ok c =
    let its = c.args.self.now in
    let n = c.args.course.processes in
    let f : ℕ → List LinkOutage = pause_of n c.args.course.horizon c.args.course.seed c.args.before its in
    let xs = c.deref-p-items.result.now in
    let direct : xs ≡ c.in_ok-pausing.pausing.items = cc in
    let pausing : xs ≡ filter (holds its.processes) (range_with_len 1 n) = direct ∙ c.in_ok-pausing.ensures in
    c.loop-p.invariant
    ∙ (ap (λ ys. c.args.drawn.now ++ flat_map f ys) (take_all c.loop-p.p-index xs (grind (arith, common_steps)))
    ∙ ap (λ ys. c.args.drawn.now ++ flat_map f ys) pausing)
