use Rattle.process_api.proofs.{Basics.{◌≡◌, ◌<◌, ◌-◌, ◌∷◌, [], ◌++◌, length, sym, ap, ◌∙◌, Some, None, option_to_list, slice_get, arith, get_or_from_slice_get, slice_get_within}, Vectors.{one_fewer, trimmed}}
use Rattle.process_api.proofs.cells.Cells.new.Goals as goal

pub loop-cells-preserved : goal.loop-cells-preserved
loop-cells-preserved c =
    let before = c.loop-cells.cells in
    let seen = c.deref.result.now in
    let after = c.pop.new.self.items in
    let last : slice_get seen (length seen - 1) ≡ Some None = c.ends_empty.ensures.yes c.loop-cells-test.true in
    let within : length seen - 1 < length seen = slice_get_within seen (length seen - 1) None last in
    let same : length seen ≡ before.len = ap length c.deref.ensures.value ∙ sym before.ok.0 in
    let empty : slice_get before.items (before.len - 1) ≡ Some None =
    (λ i. slice_get (sym c.deref.ensures.value i) (sym same i - 1)) ∙ last in
    let popped : c.pop.result ≡ Some None =
    c.pop.ensures.value None (omega (arith, within, same)) ∙ ap Some (get_or_from_slice_get before.items (before.len - 1) None None empty) in
    let gone : before.items ≡ after ++ None ∷ [] = c.pop.ensures.items ∙ ap (λ o. after ++ option_to_list o) popped in
    record {
      few = omega (arith, one_fewer before.items after gone, c.loop-cells.invariant.few);
      same = trimmed before.items after c.len-count.result gone c.loop-cells.invariant.few ∙ c.loop-cells.invariant.same;
    }
