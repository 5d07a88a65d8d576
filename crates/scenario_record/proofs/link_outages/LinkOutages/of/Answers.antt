use Rattle.std.proofs.{Common.{rules, ◌∙◌}, lemmas.List.Sorted.{IsNonDecreasingBy-from_sort_by_key}}
use Rattle.scenario_record.proofs.Stretches.{begin_of, moved}
use Rattle.scenario_record.proofs.link_outages.LinkOutages.of.Goals as goal

pub lengthened-requires : goal.lengthened-requires
lengthened-requires c =
    rw c.deref-2.ensures.value (IsNonDecreasingBy-from_sort_by_key begin_of _ c.sort_unstable_by_key.ensures.sorted (λ a r q k. search rules))

pub invariant_of-result : goal.invariant_of-result
invariant_of-result c =
    moved c.args.tables.items c.sort_unstable_by_key.new.self.items c.in_ok-stretches.stretches.items
    (rw (c.in_ok-sorted.ensures.items, c.deref.ensures.value) at c.sort_unstable_by_key.ensures.permutation)
    (rw c.deref-2.ensures.value at c.in_ok-stretches.ensures)
