use Rattle.windows.proofs.Words.{◌≡◌, ◌∷◌, [], ◌++◌, map, ap, sym, subst, ◌∙◌, All, into_iter_items, length-map, All-nil, All-push, All-rest, All-same, Mind, map_turn, process_of, own_of, IsMindIn, Process, opened, start_event, IsOpened, Berth}
use Rattle.windows.proofs.Places.{ends, opens}
use Rattle.windows.proofs.stage.berths_of.Goals as goal

pub loop-machine-init : goal.loop-machine-init
loop-machine-init g c =
    let all : into_iter_items c.into_iter-machine-iterator.result ≡ c.args.machines.items = c.into_iter-machine-iterator.ensures.into_iter_gives.0 in
    record {
      made = opens _ _ _ _ _ c.new-berths.ensures.items (ap (map g.M.Process.mind) all);
      berths = All-same _ _ [] c.new-berths.ensures.items (All-nil (IsOpened g.M.Process.mind c.args.scenario.now));
      left = subst (All (λ m. IsMindIn c.args.scenario.now (g.M.Process.mind m))) (sym all) c.requires;
    }

pub loop-machine-preserved : goal.loop-machine-preserved
loop-machine-preserved g c =
    let mind = g.M.Process.mind in
    let s = c.args.scenario.now in
    let f = λ (z : Berth _). process_of mind z.seat in
    let rest = into_iter_items c.loop-machine.machine-iterator in
    let left = into_iter_items c.next.new.self in
    let e : rest ≡ c.in-Some.machine ∷ left = c.in-Some.ensures.steps.0 in
    let old = c.loop-machine.berths.items in
    let b = c.in_ok-new.field-0 in
    let more : c.push.new.self.items ≡ old ++ b ∷ [] = c.in_ok-push.ensures.items in
    let made : process_of mind b.seat ≡ opened (mind c.in-Some.machine) = c.in_ok-new.ensures.process in
    let own : own_of mind b.seat ≡ c.pid.result = ap (λ (q : Process Mind). q.mind.lower.place.own) made ∙ sym c.pid.ensures in
    let is : IsOpened mind s b = (c.in_ok-new.ensures.seated, c.in_ok-new.ensures.pending ∙ (c.in_ok-pending.ensures ∙ ap start_event (sym own)), c.in_ok-new.ensures.part) in
    record {
      made = map_turn f opened old c.push.new.self.items b (map mind rest) (map mind left) (mind c.in-Some.machine) _ more (ap (map mind) e) made c.loop-machine.invariant.made;
      berths = subst (All (IsOpened mind s)) (sym more) (All-push (IsOpened mind s) old b c.loop-machine.invariant.berths is);
      left = All-rest (λ m. IsMindIn s (mind m)) c.in-Some.machine left rest e c.loop-machine.invariant.left;
    }

pub returns : goal.returns
returns g c =
    record { processes = ends _ _ _ _ _ (length-map _ _ ∙ (sym c.loop-machine.machine-iterator.rest.ok.0 ∙ c.in-None.ensures.steps.0)) c.loop-machine.invariant.made; berths = c.loop-machine.invariant.berths }
