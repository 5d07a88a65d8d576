use Rattle.study_commands.proofs.{Words.{◌≡◌, rules, Bor, List, ℕ, [], None, get_or, contains_image, process_said}, Axes.{one_said}, Reasons.{words_as}}
use Rattle.study_commands.proofs.picturing.named_by.Goals as goal

abbrev nothing : Bor (List ℕ)
nothing = record { ref_ptr = (0, 0); now = [] }

pub loop-piece-preserved : goal.loop-piece-preserved
loop-piece-preserved c =
    one_said c.args.pieces.now c.loop-piece.piece-index nothing c.loop-piece-test.true _ _ c.in-Some.process
    (search rules) (search rules) c.loop-piece.invariant

pub returns-in_default-clause-refused : goal.returns-in_default-clause-refused
returns-in_default-clause-refused c =
    let piece = get_or c.args.pieces.now c.loop-piece.piece-index nothing in
    let none : process_said piece.now ≡ None = search rules in
    let there = contains_image (λ w. w.now) c.args.pieces.now c.loop-piece.piece-index nothing c.loop-piece-test.true in
    words_as _ _ c.of_words.result c.of_words.ensures.words (λ _. (piece.now, there, none))
