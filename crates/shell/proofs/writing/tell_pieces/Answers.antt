use Rattle.shell.proofs.Basics.{◌≡◌, ◌∙◌, ◌<◌, ap, sym, refl, inr, ℕ, suc, List, [], ◌++◌, flat_map, length, take, drop, get_or, Bor, flat_map-append, take-append-drop}
use Rattle.{std.proofs.Math.Seq.{drop-cons}, reporting.proofs.Written.{part_of_more, wrote_then_part}}
use Rattle.shell.proofs.writing.tell_pieces.Goals as goal

-- the whole text, about one piece
text_about : {X : Type 0} (f : X → List ℕ) (ps : List X) (i : ℕ) (none : X) → i < length ps
    → flat_map f ps ≡ flat_map f (take i ps) ++ (f (get_or ps i none) ++ flat_map f (drop (suc i) ps))
text_about f ps i none in_range =
    sym (ap (flat_map f) (take-append-drop i ps))
    ∙ (flat_map-append f (take i ps) (drop i ps)
    ∙ ap (λ t. flat_map f (take i ps) ++ t) (ap (flat_map f) (drop-cons ps i none in_range)))

pub returns-then-not-put_all : goal.returns-then-not-put_all
returns-then-not-put_all g c =
    let f : Bor (List ℕ) → List ℕ = λ p. p.now in
    let none : Bor (List ℕ) = record { ref_ptr = (0, 0); now = [] } in
    let failing = c.if-not-put_all.ensures in
    inr (record {
      piece = flat_map f c.args.pieces.now;
      is_wanted = refl;
      written =
          rw (text_about f c.args.pieces.now c.loop-piece.piece-index none c.loop-piece-test.true, ← c.as_bytes.ensures.value)
          (wrote_then_part _ _ _ _ _ _ _ c.loop-piece.invariant (part_of_more _ _ _ _ _ _ (record { bytes = failing.part; failures = failing.count })));
    })
