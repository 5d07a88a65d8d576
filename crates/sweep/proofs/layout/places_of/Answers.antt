use Rattle.sweep.proofs.{Words.{rules, ◌≡◌, ◌++◌, ◌∷◌, [], Some, None, true, map, get_or, length, string_bytes, sym, ap, ◌∙◌, subst, arith, length-map, place_of, TellsOf, is_ok}, Places.{word_at, one_more, refusal_of}}
use Rattle.sweep.proofs.layout.places_of.Goals as goal

pub returns-in_default-clause-err : goal.returns-in_default-clause-err
returns-in_default-clause-err c =
    let names = map string_bytes c.args.names.now in
    let words = map (λ w. w.now) c.args.words.now in
    let i = c.loop-word.word-index in
    let len : length words ≡ length c.args.words.now = length-map c.args.words.now (λ w. w.now) in
    let word = word_at c.args.words.now i c.loop-word-test.true in
    let unknown : place_of names (get_or words i []) ≡ None = ap (place_of names) word ∙ sym c.in_default.ensures in
    refusal_of names words i c.loop-word.places.items c.in_ok-unknown.field-0 (omega (arith, len, c.loop-word-test.true)) c.loop-word.invariant unknown
    (subst (λ t. TellsOf names t c.in_ok-unknown.field-0) (sym word) c.in_ok-unknown.ensures)

pub loop-word-preserved : goal.loop-word-preserved
loop-word-preserved c =
    let names = map string_bytes c.args.names.now in
    let words = map (λ w. w.now) c.args.words.now in
    let i = c.loop-word.word-index in
    let len : length words ≡ length c.args.words.now = length-map c.args.words.now (λ w. w.now) in
    let word = word_at c.args.words.now i c.loop-word-test.true in
    let at : place_of names (get_or words i []) ≡ Some c.in-Some.place = ap (place_of names) word ∙ sym c.in-Some.ensures in
    let ok : is_ok c.push.result ≡ true = search rules in
    let pushed : c.push.new.self.items ≡ c.loop-word.places.items ++ c.in-Some.place ∷ [] = rw ok at c.push.ensures.items in
    one_more (place_of names) words i c.loop-word.places.items c.in-Some.place (omega (arith, len, c.loop-word-test.true)) c.loop-word.invariant at
    ∙ ap (map Some) (sym pushed)
