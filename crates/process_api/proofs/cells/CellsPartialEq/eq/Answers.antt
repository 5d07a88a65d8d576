use Rattle.process_api.proofs.{Basics.{◌≡◌, ◌==◌, sym, ap, ◌∙◌, length, None, arith, option_eq}, Vectors.{alike, refuted, unlike, wide}}
use Rattle.process_api.proofs.cells.CellsPartialEq.eq.Goals as goal

pub returns-then-ne : goal.returns-then-ne
returns-then-ne c =
    let mine = c.args.self.now in
    let other = c.args.other.now in
    let long : length mine ≡ c.self.inside.count = ap length (sym c.self.view_is) ∙ wide c.self.inside.cells.items c.self.inside.count c.self.invariant.0 in
    sym (unlike (option_eq ◌==◌) None mine other c.loop-place.place (omega (arith, long, c.loop-place-test.true))
    ((λ i. option_eq ◌==◌ (sym c.at.ensures i) (sym c.at-in-loop-place.ensures i)) ∙ refuted _ (sym c.if-ne.true ∙ c.ne.ensures)))

pub returns : goal.returns
returns c =
    let mine = c.args.self.now in
    let other = c.args.other.now in
    let long : length mine ≡ c.self.inside.count = ap length (sym c.self.view_is) ∙ wide c.self.inside.cells.items c.self.inside.count c.self.invariant.0 in
    let as_long : length other ≡ c.other.inside.count = ap length (sym c.other.view_is) ∙ wide c.other.inside.cells.items c.other.inside.count c.other.invariant.0 in
    sym (alike (option_eq ◌==◌) None mine other (long ∙ (c.if-self-other.false ∙ sym as_long))
    (λ i within. c.loop-place.invariant i (omega (arith, within, long, c.loop-place-test.false))))
