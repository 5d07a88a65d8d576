use Rattle.network.proofs.Basics.{◌≡◌, ◌<◌, ◌∙◌, ap, sym, subst, ◌++◌, List, length, take, get_or, arith, rules, option_to_list, flat_map, take_all, get_or_default, common_steps, Outage, most_outages, on_each, left_of, LinkOutage}
use Rattle.network.proofs.Adding.{each_group, full_more}
use Rattle.network.proofs.network.Replay.draw_turn.Goals as goal

pub returns-in_err-push_left-clause-full : goal.returns-in_err-push_left-clause-full
returns-in_err-push_left-clause-full c = λ is.
    let xs = c.args.self.now.outages.items in
    let links = c.args.links.now in
    let left : Outage → List Outage = left_of c.args.turn c.args.place c.args.horizon in
    let i = c.loop-outage.outage-index in
    let none : Outage = record { begin = 0; until = 0 } in
    let same : c.deref-outage-items.result.now ≡ xs = cc in
    let low : i < length xs = grind (arith, common_steps) in
    let at : get_or xs i (get_or xs i none) ≡ get_or xs i none = get_or_default xs i (get_or xs i none) none low in
    let f : Outage → List LinkOutage = λ o. on_each links (left o) in
    let one : on_each links (option_to_list c.left_of.result) ≡ f (get_or xs i none) =
    ap (on_each links) (c.left_of.ensures ∙ ap (λ ys. left (get_or ys i none)) same) in
    let Added : List LinkOutage → Type 0 = λ ys. most_outages < length (c.loop-outage.drawn ++ ys) in
    let Whole : List LinkOutage → Type 0 = λ ys. most_outages < length (c.args.drawn.now ++ ys) in
    let added = subst Added one (c.in_err-push_left.ensures.full (search rules)) in
    subst Whole (sym (each_group links left xs))
    (full_more f most_outages c.args.drawn.now c.loop-outage.drawn xs i (get_or xs i none) low at c.loop-outage.invariant added)

pub returns-clause-ok : goal.returns-clause-ok
returns-clause-ok c =
    let xs = c.args.self.now.outages.items in
    let links = c.args.links.now in
    let left : Outage → List Outage = left_of c.args.turn c.args.place c.args.horizon in
    let all : take c.loop-outage.outage-index xs ≡ xs = take_all c.loop-outage.outage-index xs (grind (arith, common_steps)) in
    c.loop-outage.invariant
    ∙ (ap (λ ys. c.args.drawn.now ++ flat_map (λ o. on_each links (left o)) ys) all
    ∙ ap (λ ys. c.args.drawn.now ++ ys) (sym (each_group links left xs)))
