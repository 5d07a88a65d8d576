use Rattle.scenario.proofs.Words.{◌<◌, ◌++◌, ◌∷◌, [], ap, sym, ◌∙◌, length, slice_set, arith, map-set, get_or-map, outages_in}
use Rattle.scenario.proofs.outages.push_at.Goals as goal

pub returns : goal.returns
returns c =
    let lists = c.args.lists.now.items in
    let inside : c.args.place < length lists = omega (arith, c.requires, c.args.lists.now.ok.0) in
    map-set (λ v. v.items) lists c.args.place c.push.new.self
    ∙ ap (slice_set (outages_in lists) c.args.place)
    (c.in_ok-push.ensures.items
    ∙ ap (λ es. es ++ c.args.outage ∷ []) (ap (λ v. v.items) c.index_mut.ensures.value ∙ sym (get_or-map (λ v. v.items) lists c.args.place c.index_mut.result.now [] inside)))
