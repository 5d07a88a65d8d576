use Rattle.{std.proofs.Common.{append_assoc}, svg.specs.Document.{head_text}}
use Rattle.svg.proofs.document.svg_text.Goals as goal

pub returns : goal.returns
returns c =
    let head = head_text c.style.result.now c.args.picture.now.width c.args.picture.now.height in
    record {
      style = c.style.result.now;
      text_is = rw (c.in_ok-extend_from_slice.ensures.items, c.in_ok-push_shapes.ensures, c.in_ok-out.ensures, c.deref.ensures.value) (append_assoc head _ _);
    }
