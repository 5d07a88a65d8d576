use Rattle.windows.proofs.Words.{length-append, ◌≡◌, ◌∷◌, ◌++◌, [], length, map, refl, sym, ap, ◌∙◌, subst, vec_len, arith, All, flat_map, into_iter_items, All-nil, All-push, All-same, All-head, All-tail, HandView, deques_of, IsWork, AreRun, Work, map_turn, flat_push}
use Rattle.windows.proofs.{Places.{ends}, Gathered.{run_none, run_joined, run_taken_as}}
use Rattle.windows.proofs.gather.gather.Goals as goal

pub loop-work-init : goal.loop-work-init
loop-work-init g c =
    let mind = g.M.Process.mind in
    let own_of = λ (w : Work _). w.hand.own in
    let works = c.args.works in
    let dealt = map own_of works.items in
    let OfAll : HandView _ → Type 0 = λ h. h.deques ≡ deques_of dealt in
    let WorkOfAll : Work _ → Type 0 = λ w. w.hand.deques ≡ deques_of dealt in
    let none = c.in_ok-hands.ensures.items in
    let all : into_iter_items c.into_iter-work-iterator.result ≡ works.items = c.into_iter-work-iterator.ensures.into_iter_gives.0 in
    let many : length (into_iter_items c.into_iter-work-iterator.result) ≡ vec_len works = ap length all ∙ sym works.ok.0 in
    record {
      own = (λ i. map (λ (h : HandView _). h.own) (none i) ++ map own_of (all i));
      of_all = All-same OfAll _ [] none (All-nil OfAll);
      left = subst (All WorkOfAll) (sym all) c.requires;
      count = omega (arith, many, c.in_ok-slips.ensures.len);
      works = λ s end m count is.
          let W : Work _ → Type 0 = λ w. IsWork mind s end (deques_of dealt) m w.hand w.slip w.done.items in
          (subst (All W) (sym all) is, run_none mind s end m _ _ _ (ap (flat_map (λ (h : HandView _). h.taken)) none) c.in_ok-done.ensures.items c.in_ok-slips.ensures.items);
    }

pub loop-work-preserved : goal.loop-work-preserved
loop-work-preserved g c =
    let mind = g.M.Process.mind in
    let inv = c.loop-work.invariant in
    let own_of = λ (w : Work _). w.hand.own in
    let all = c.args.works.items in
    let dealt = map own_of all in
    let work = c.in-Some.work in
    let left = into_iter_items c.next.new.self in
    let e : into_iter_items c.loop-work.work-iterator ≡ work ∷ left = c.in-Some.ensures.steps.0 in
    let OfAll : HandView _ → Type 0 = λ h. h.deques ≡ deques_of dealt in
    let WorkOfAll : Work _ → Type 0 = λ w. w.hand.deques ≡ deques_of dealt in
    let of_all : WorkOfAll work = All-head WorkOfAll work left (subst (All WorkOfAll) e inv.left) in
    let hands = c.loop-work.hands.items in
    let more : c.push.new.self.items ≡ hands ++ work.hand ∷ [] = c.in_ok-push.ensures.items in
    let slips = c.loop-work.slips.items in
    let listed : c.push-in-loop-work.new.self.items ≡ slips ++ work.slip ∷ [] = c.in_ok-push-2.ensures.items in
    let adds : c.append.new.self.items ≡ c.loop-work.done.items ++ work.done.items = c.in_ok-append.ensures.items in
    record {
      own = map_turn (λ (h : HandView _). h.own) own_of hands _ work.hand _ left work dealt more e refl inv.own;
      of_all = All-same OfAll _ _ more (All-push OfAll hands work.hand inv.of_all of_all);
      left = All-tail WorkOfAll work left (subst (All WorkOfAll) e inv.left);
      count = omega (arith, inv.count, ap length e, ap length listed, length-append slips (work.slip ∷ []), c.loop-work.slips.ok.0, c.push-in-loop-work.new.self.ok.0);
      works = λ s end m count is.
          let W : Work _ → Type 0 = λ w. IsWork mind s end (deques_of dealt) m w.hand w.slip w.done.items in
          let r = inv.works s end m count is in
          let ours : All W (work ∷ left) = subst (All W) e r.0 in (
            All-tail W work left ours,
            subst (λ l. AreRun mind s end m l c.append.new.self.items c.push-in-loop-work.new.self.items) (sym (flat_push (λ (h : HandView _). h.taken) hands _ work.hand more))
                (run_joined mind s end m count work.slip work.done.items work.hand.taken _ c.loop-work.done.items c.append.new.self.items slips _ r.1 (All-head W work left ours).run adds listed),
          );
    }

pub of_hands-requires : goal.of_hands-requires
of_hands-requires g c =
    let inv = c.loop-work.invariant in
    let same = ends _ _ _ _ _ (sym c.loop-work.work-iterator.rest.ok.0 ∙ c.in-None.ensures.steps.0) inv.own in
    subst (λ l. All (λ (h : HandView _). h.deques ≡ deques_of l) c.loop-work.hands.items) (sym same) inv.of_all

pub returns-clause-works : goal.returns-clause-works
returns-clause-works g c = λ s end m count is. run_taken_as g.M.Process.mind s end m _ _ _ _ (c.loop-work.invariant.works s end m count is).1 c.in_ok-of_hands.ensures.taken
