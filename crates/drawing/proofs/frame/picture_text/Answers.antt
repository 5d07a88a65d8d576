use Rattle.drawing.proofs.Words.{◌≡◌, ◌++◌, ◌+◌, subst, refl, arith, append_assoc, MatchResult-weaker}
use Rattle.svg.specs.Document.{IsDocument}
use Rattle.drawing.proofs.frame.picture_text.Goals as goal

pub returns : goal.returns
returns c =
    let head = c.args.head.shapes.items in
    let bands = c.args.bands.items in
    let axis = c.in_ok-axis.field-0.shapes.items in
    let shapes = c.args.marks.items in
    let joined : c.append-3.new.self.items ≡ head ++ (bands ++ (axis ++ shapes)) =
    rw (c.in_ok-append-3.ensures.items, c.in_ok-append-2.ensures.items, c.in_ok-append.ensures.items, append_assoc (head ++ bands) axis shapes, append_assoc head bands (axis ++ shapes)) refl
    in
    MatchResult-weaker c.svg_text.result c.svg_text.ensures
    (λ text e count tells. record {
      width = 928;
      height = c.args.bottom + 28;
      wide = omega arith;
      high = omega arith;
      head = head;
      axis = axis;
      shapes = shapes;
      head_is = c.args.head.frame;
      axis_is = c.in_ok-axis.field-0.frame;
      tells = tells;
      marks_are = refl;
      document = subst (λ xs. IsDocument 928 (c.args.bottom + 28) xs text.items) joined e;
    })
    (λ error h. h)
