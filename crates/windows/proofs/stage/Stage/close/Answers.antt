use Rattle.windows.proofs.{Words.{rules, ◌≡◌, ◌+◌, suc, map, ap, subst, sym, ◌∙◌, arith, length, Vec, slice_get_within, all_of, AreOne}, Places.{all_at, list_at}}
use Rattle.windows.proofs.stage.Stage.close.Goals as goal

pub hand_over-requires-clause-one : goal.hand_over-requires-clause-one
hand_over-requires-clause-one g c κs within =
    let inboxes = c.in_ok-inboxes.inboxes in
    all_at AreOne inboxes.items (λ i letters at.
    let inside = slice_get_within inboxes.items i letters at in
    subst AreOne (sym (c.in_ok-inboxes.ensures.letters (suc i)) ∙ list_at inboxes.items i letters at) (c.requires.one (suc i) (omega arith) (omega (arith, inside, inboxes.ok.0, c.in_ok-inboxes.ensures.count, c.requires.boxes))))

pub returns-clause-closed : goal.returns-clause-closed
returns-clause-closed g c =
    let count : c.in-Some.made ≡ length (all_of (map (λ (v : Vec _). v.items) c.in_ok-berths.parts.items)) =
    c.in-Some.ensures.within.0 ∙ ap (λ ps. length (all_of (map (λ (v : Vec _). v.items) ps))) c.deref.ensures.value in
    record {
      lists = c.in_ok-inboxes.inboxes.items;
      count = omega (arith, c.in_ok-inboxes.inboxes.ok.0, c.in_ok-inboxes.ensures.count, c.requires.boxes, c.args.ran.berths.ok.0);
      letters = c.in_ok-inboxes.ensures.letters;
      berths_are = c.in_ok-berths.ensures.berths;
      parts_are = c.in_ok-berths.ensures.parts;
      few = omega (arith, count, c.in-Some.ensures.within.1);
      longer = search rules ∙ ap (λ n. c.args.self.now.so_far + n) count;
      start = search rules;
      workers_are = search rules;
    }
