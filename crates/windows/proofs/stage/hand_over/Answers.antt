use Rattle.windows.proofs.Words.{◌≡◌, ◌∷◌, ◌++◌, [], length, map, ap, sym, ◌∙◌, subst, arith, append-nil, append_assoc, Vec, All, into_iter_items, nil_from_length, All-head, All-nil, All-same, All-tail, map_push, map_turn, AreOne, delivered, kept_in, Berth}
use Rattle.{windows.proofs.Places.{ends, opens}, process_api.specs.declared.entry.Entry.{Entry}}
use Rattle.windows.proofs.stage.hand_over.Goals as goal

pub loop-berth-init : goal.loop-berth-init
loop-berth-init g c =
    let none = c.in_ok-done.ensures.items in
    let all : into_iter_items c.into_iter-berth-iterator.result ≡ c.args.berths.items = c.into_iter-berth-iterator.ensures.into_iter_gives.0 in
    let letters = c.into_iter-inboxes.ensures.rest in
    record {
      berths = λ i. map kept_in (none i) ++ delivered (all i) (letters i);
      parts = opens _ _ _ _ _ c.in_ok-parts.ensures.items all;
      same = omega (arith, ap length letters, ap length all, c.requires.count, c.args.berths.ok.0, c.args.inboxes.ok.0);
      one = subst (All AreOne) (sym letters) c.requires.one;
      emptied = All-same (λ i. i ≡ []) _ [] c.in_ok-emptied.ensures.items (All-nil (λ i. i ≡ []));
    }

pub hand_over_one-requires-clause-one : goal.hand_over_one-requires-clause-one
hand_over_one-requires-clause-one g c =
    let i = c.loop-berth.invariant in
    All-head AreOne c.in-Some-next.inbox (into_iter_items c.next-in-loop-berth.new.self) (subst (All AreOne) c.in-Some-next.ensures.items i.one)

pub loop-berth-preserved : goal.loop-berth-preserved
loop-berth-preserved g c =
    let i = c.loop-berth.invariant in
    let items_of = λ (v : Vec Entry). v.items in
    let rest = into_iter_items c.loop-berth.berth-iterator in
    let left = into_iter_items c.next.new.self in
    let old = c.in-Some.berth in
    let later = into_iter_items c.next-in-loop-berth.new.self in
    let inbox = c.in-Some-next.inbox in
    let e : rest ≡ old ∷ left = c.in-Some.ensures.steps.0 in
    let f : into_iter_items c.loop-berth.inboxes ≡ inbox ∷ later = c.in-Some-next.ensures.items in
    let done = map kept_in c.loop-berth.done.items in
    let new = c.hand_over_one.new.berth in
    record {
      berths = ap (λ l. l ++ delivered left later) (map_push kept_in c.loop-berth.done.items _ new c.in_ok-push-2.ensures.items) ∙ append_assoc done (kept_in new ∷ []) (delivered left later)
          ∙ ap (λ k. done ++ k ∷ delivered left later) c.in_ok-hand_over_one.ensures.berth ∙ sym (λ j. done ++ delivered (e j) (f j)) ∙ i.berths;
      parts = map_turn items_of (λ (z : Berth _). z.part.items) c.loop-berth.parts.items _ _ rest left old _ c.in_ok-push.ensures.items e c.in_ok-hand_over_one.ensures.part i.parts;
      same = omega (arith, ap length e, ap length f, i.same);
      one = All-tail AreOne inbox later (subst (All AreOne) f i.one);
      emptied = c.in_ok-hand_over_one.ensures.emptied;
    }

pub returns : goal.returns
returns g c =
    let i = c.loop-berth.invariant in
    let none = sym c.loop-berth.berth-iterator.rest.ok.0 ∙ c.in-None.ensures.steps.0 in
    record {
      berths = sym (append-nil _) ∙ (ap (λ l. map kept_in c.loop-berth.done.items ++ delivered l (into_iter_items c.loop-berth.inboxes)) (sym (nil_from_length _ none)) ∙ i.berths);
      parts = ends _ _ _ _ _ none i.parts;
      emptied = i.emptied;
    }
