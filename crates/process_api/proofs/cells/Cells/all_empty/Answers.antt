use Rattle.process_api.proofs.Basics.{◌-◌, ◌<◌, ◌∙◌, sym, ap, None, get_or, length, replicate, arith, get_or_append_left, get_or_from_slice_get, slice_get_within}
use Rattle.std.proofs.lemmas.Grind.{common_steps}
use Rattle.process_api.proofs.cells.Cells.all_empty.Goals as goal

pub returns-else-is_empty : goal.returns-else-is_empty
returns-else-is_empty c =
    let items = c.self.inside.cells.items in
    let some : 0 < length items = grind (arith, common_steps, c.is_empty.ensures, c.if-is_empty.false, c.self.inside.cells.ok.0) in
    let filled = c.self.invariant.1 some in
    let within = slice_get_within items (length items - 1) _ filled.1 in (
      length items - 1,
      filled.0,
      ap (λ s. get_or s (length items - 1) None) (sym c.self.view_is)
          ∙ (get_or_append_left items (replicate (c.self.inside.count - length items) None) None (length items - 1) within
          ∙ get_or_from_slice_get items (length items - 1) _ None filled.1),
    )
