use Rattle.{std.proofs.{Common.{append_assoc}, lemmas.List.Folds.{flat_map-map}}, svg.specs.Document.{attribute}}
use Rattle.svg.proofs.elements.push_opening.Goals as goal

pub returns : goal.returns
returns c =
    rw (
      c.in_ok-push_attributes.ensures,
      c.in_ok-extend_from_slice-4.ensures.items,
      c.in_ok-extend_from_slice-3.ensures.items,
      c.in_ok-extend_from_slice-2.ensures.items,
      c.in_ok-extend_from_slice.ensures.items,
      c.as_bytes.ensures.value,
      c.as_bytes-2.ensures.value,
      c.name.ensures,
      flat_map-map attribute (λ a. (a.0.now, a.1)) c.args.numbers.now,
    )
    (simp append_assoc)
