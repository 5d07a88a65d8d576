use Rattle.std.proofs.Common.{◌≡◌, ℕ, List, [], ◌∷◌, ◌++◌, codes, append_assoc}
use Rattle.svg.specs.Document.{anchor_name, opening, escaped}
use Rattle.svg.proofs.elements.push_text.Goals as goal

joined : (old p q r s t rest : List ℕ) → old ++ p ++ q ++ r ++ s ++ t ++ rest ≡ old ++ (p ++ (q ++ (r ++ (s ++ (t ++ rest)))))
joined old p q r s t rest = simp append_assoc

pub returns : goal.returns
returns c =
    rw (
      c.in_ok-extend_from_slice-4.ensures.items,
      c.in_ok-push_escaped.ensures,
      c.in_ok-extend_from_slice-3.ensures.items,
      c.in_ok-extend_from_slice-2.ensures.items,
      c.in_ok-extend_from_slice.ensures.items,
      c.in_ok-push_opening.ensures,
      c.bytes.ensures,
      c.as_bytes.ensures.value,
      c.name.ensures,
    )
    (joined c.args.out.now.items (opening (codes "<text") c.args.class ((codes "x", c.args.at.x) ∷ (codes "y", c.args.at.y) ∷ [])) (codes " text-anchor=\"")
    (anchor_name c.args.anchor) (codes "\">") (escaped c.args.caption.now) (codes "</text>\n"))
