use Rattle.network.proofs.Basics.{◌≡◌, ◌<◌, ◌∙◌, ap, sym, subst, ◌++◌, List, length, arith, rules, flat_map, common_steps, links_of, Words, stream_number, stream_of, words_of, Outage, alone, most_outages, on_each, to_come, Ends, LinkOutage}
use Rattle.network.proofs.Adding.{full_more}
use Rattle.network.proofs.tables.draw_alone.Goals as goal

pub returns-in_err-draw_on-clause-full : goal.returns-in_err-draw_on-clause-full
returns-in_err-draw_on-clause-full g c = λ is.
    let seed = c.args.course.seed in
    let source : Words → List Outage = λ words. g.S.Source.outages c.args.source.now words c.args.course.horizon in
    let f : Ends → List LinkOutage = alone c.args.course.horizon seed c.args.kind c.args.before (g.S.Source.outages c.args.source.now) in
    let xs = c.deref-link-items.result.now in
    let i = c.loop-link.link-index in
    let x = c.link-item.result in
    let direct : xs ≡ c.in_ok-links.links.items = cc in
    let links : xs ≡ links_of c.args.set.now c.args.course.processes = direct ∙ c.in_ok-links.ensures in
    let words : to_come c.new-words.result ≡ words_of seed (stream_number c.args.kind c.args.before (stream_of x.from x.to)) =
    c.new-words.ensures ∙ ap (words_of seed) (c.stream-stream.ensures ∙ ap (stream_number c.args.kind c.args.before) c.link_place.ensures.value) in
    let one : on_each c.from_ref.result.now (source (to_come c.new-words.result)) ≡ f x =
    λ k. on_each (c.from_ref.ensures.value k) (source (words k)) in
    let Added : List LinkOutage → Type 0 = λ ys. most_outages < length (c.loop-link.drawn ++ ys) in
    let Whole : List Ends → Type 0 = λ ys. most_outages < length (c.args.drawn.now ++ flat_map f ys) in
    let added = subst Added one (c.in_err-draw_on.ensures.full (search rules)) in
    subst Whole links
    (full_more f most_outages c.args.drawn.now c.loop-link.drawn xs i x (grind (arith, common_steps)) (sym c.link-item.is) c.loop-link.invariant added)
