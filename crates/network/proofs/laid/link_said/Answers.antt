use Rattle.network.proofs.{Basics.{◌∙◌, ap, sym, map, Some, None, if◌then◌else◌, take_all, LinkTable}, Later.{later}}
use Rattle.{std.specs.List.{filter, last_or}, network.specs.Laid.{is_of, link_said}}
use Rattle.network.proofs.laid.link_said.Goals as goal

pub loop-table-preserved : goal.loop-table-preserved
loop-table-preserved c =
    let xs = c.args.tables.now in
    let i = c.loop-table.table-index in
    let x = c.table-item.result in
    let p = is_of c.args.from c.args.to in
    c.said_by-said.ensures
    ∙ (ap (λ said. if p x then Some x.link else said) c.loop-table.invariant
    ∙ sym (later (λ (t : LinkTable). t.link) p xs i x c.loop-table-test.true (sym c.table-item.is)))

pub returns : goal.returns
unfolding link_said
returns c =
    let p = is_of c.args.from c.args.to in
    c.loop-table.invariant
    ∙ ap (λ ys. last_or None (map (λ (t : LinkTable). t.link) (filter p ys))) (take_all c.loop-table.table-index c.args.tables.now c.loop-table-test.false)
