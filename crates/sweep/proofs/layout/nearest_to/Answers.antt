use Rattle.sweep.proofs.{Words.{◌≡◌, ◌≤◌, [], map, get_or, string_bytes, length, sym, ap, ◌∙◌, arith, below_more, length-map, edits}, Places.{named, nearest_is}, layout.nearest_to.Goals.{then-edits-least, else-edits-least}}
use Rattle.sweep.proofs.layout.nearest_to.Goals as goal

pub loop-place-init : goal.loop-place-init
loop-place-init c = record {
  best_in = omega arith;
  least_is = c.in_ok-least.ensures ∙ ap (λ t. edits c.args.word.now t) (c.as_str.ensures.value ∙ sym (named c.args.names.now 0 c.index-names-0.result (omega arith) c.index-names-0.is));
  least_low = λ k lt. absurd (omega (arith, lt));
}

pub loop-place-preserved : goal.loop-place-preserved
loop-place-preserved c =
    let names = c.args.names.now in
    let i = c.loop-place.place in
    let inv = c.loop-place.invariant in
    let here : c.in_ok-edits.edits ≡ edits c.args.word.now (get_or (map string_bytes names) i []) =
    c.in_ok-edits.ensures ∙ ap (λ t. edits c.args.word.now t) (c.as_str-in-loop-place.ensures.value ∙ sym (named names i c.index-names-place.result c.loop-place-test.true c.index-names-place.is)) in
    elim c.if-edits-least.branch [
      | then-edits-least w ↦ rw (w.best-is, w.least-is) (record {
        best_in = c.loop-place-test.true;
        least_is = here;
        least_low = below_more (λ k. c.in_ok-edits.edits ≤ edits c.args.word.now (get_or (map string_bytes names) k [])) i
            (λ k lt. omega (arith, inv.least_low k lt, w.if-edits-least.true)) (omega (arith, here));
      })
      | else-edits-least w ↦ rw (w.best-is, w.least-is) (record {
        best_in = inv.best_in;
        least_is = inv.least_is;
        least_low = below_more (λ k. c.loop-place.least ≤ edits c.args.word.now (get_or (map string_bytes names) k [])) i
            inv.least_low (omega (arith, here, w.if-edits-least.false));
      })
    ]

pub returns : goal.returns
returns c =
    let names = c.args.names.now in
    let inv = c.loop-place.invariant in
    let len : length (map string_bytes names) ≡ length names = length-map names string_bytes in
    nearest_is (map string_bytes names) c.args.word.now (string_bytes c.index-names-best.result) c.loop-place.best c.loop-place.least c.loop-place.place
    (omega (arith, inv.best_in, len)) (sym (named names c.loop-place.best c.index-names-best.result inv.best_in c.index-names-best.is)) inv.least_is
    (omega (arith, len, c.loop-place-test.false)) inv.least_low
