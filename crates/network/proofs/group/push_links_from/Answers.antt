use Rattle.network.proofs.{Basics.{ℕ, ◌∙◌, ◌++◌, ◌∷◌, [], ap, if◌then◌else◌, filter, map, arith, joins, Ends}, Adding.{all_taken, mapped_more}}
use Rattle.network.proofs.group.push_links_from.Goals as goal

pub loop-before-preserved : goal.loop-before-preserved
loop-before-preserved c =
    let q = c.after-to.result in
    let b = c.joins-counts.result in
    let to_each : ℕ → Ends = λ to. record { from = c.args.from; to = to } in
    c.in_ok-push_if.ensures
    ∙ (ap (λ xs. xs ++ (if b then to_each q ∷ [] else [])) c.loop-before.invariant
    ∙ mapped_more to_each (joins c.args.senders.now c.args.receivers.now c.args.both c.args.from) c.args.links.now.items c.args.n c.loop-before.before q b c.loop-before-test.true c.after-to.ensures c.joins-counts.ensures)

pub returns : goal.returns
returns c =
    let to_each : ℕ → Ends = λ to. record { from = c.args.from; to = to } in
    c.loop-before.invariant
    ∙ ap (λ xs. c.args.links.now.items ++ map to_each (filter (joins c.args.senders.now c.args.receivers.now c.args.both c.args.from) xs)) (all_taken 1 c.args.n c.loop-before.before (omega arith))
