use Rattle.std.proofs.{Common.{rules, ◌∙◌, ap, arith, nat_le}, lemmas.List.Sorted.{IsPartitionPoint-from_clause, IsPartitionedBy-leb}}
use Rattle.{std.specs.List.{list_any}, scenario_record.specs.Record.{covers}}
use Rattle.scenario_record.proofs.Stretches.{begin_of, none_begun, last_begun}
use Rattle.scenario_record.proofs.link_outages.LinkOutages.covers.Goals as goal

pub returns-then-begun-gt0 : goal.returns-then-begun-gt0
returns-then-begun-gt0 c =
    let t = c.args.tick in
    let stretches = c.self.inside.stretches.items in
    let parted = IsPartitionedBy-leb begin_of stretches t c.self.invariant.begins in
    let point = IsPartitionPoint-from_clause (λ o. nat_le o.begin t) stretches _ (rw c.deref.ensures.value at c.partition_point-begun.ensures.partitioned) parted (λ a r q k. search rules) in
    last_begun c.self.inside.tables.items stretches c.self.invariant t c.partition_point-begun.result (rw c.deref.ensures.value at c.partition_point-begun.ensures.bound) point c.index.result.now c.if-begun-gt0.true c.index.ensures
    ∙ ap (list_any (covers t)) c.self.view_is

pub returns-else-begun-gt0 : goal.returns-else-begun-gt0
returns-else-begun-gt0 c =
    let t = c.args.tick in
    let stretches = c.self.inside.stretches.items in
    let parted = IsPartitionedBy-leb begin_of stretches t c.self.invariant.begins in
    let point = IsPartitionPoint-from_clause (λ o. nat_le o.begin t) stretches _ (rw c.deref.ensures.value at c.partition_point-begun.ensures.partitioned) parted (λ a r q k. search rules) in
    search (rules, c.if-begun-gt0.false)
    ∙ (none_begun c.self.inside.tables.items stretches c.self.invariant t c.partition_point-begun.result (rw c.deref.ensures.value at c.partition_point-begun.ensures.bound) point (omega (arith, c.if-begun-gt0.false))
    ∙ ap (list_any (covers t)) c.self.view_is)
