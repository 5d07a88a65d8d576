use Rattle.event_list.proofs.Words.{◌≡◌, ◌∷◌, [], ◌++◌, List, map, ap, sym, subst, ◌∙◌, append-nil, append_assoc, nil_from_length, All, into_iter_items, map-append, All-nil, All-push, All-rest, Mind, process_of, IsMindIn, IsSeated, Process, opened}
use Rattle.event_list.proofs.list.seats_of.Goals as goal

pub loop-machine-init : goal.loop-machine-init
loop-machine-init g c =
    let mind = g.M.Process.mind in
    let s = c.args.scenario.now in
    let rest : into_iter_items c.into_iter-machine-iterator.result ≡ c.args.machines.items = c.into_iter-machine-iterator.ensures.into_iter_gives.0 in
    let none : c.new-seats.result.items ≡ [] = c.new-seats.ensures.items in
    record {
      made = λ i. map (process_of mind) (none i) ++ map opened (map mind (rest i));
      seated = subst (All (IsSeated mind s 0)) (sym none) (All-nil (IsSeated mind s 0));
      left = subst (All (λ m. IsMindIn s (mind m))) (sym rest) c.requires;
    }

pub loop-machine-preserved : goal.loop-machine-preserved
loop-machine-preserved g c =
    let mind = g.M.Process.mind in
    let s = c.args.scenario.now in
    let rest = into_iter_items c.loop-machine.machine-iterator in
    let left = into_iter_items c.next.new.self in
    let e : rest ≡ c.in-Some.machine ∷ left = c.in-Some.ensures.steps.0 in
    let old = c.loop-machine.seats.items in
    let seat = c.in_ok-new.field-0 in
    let more : c.push.new.self.items ≡ old ++ seat ∷ [] = c.in_ok-push.ensures.items in
    let made : process_of mind seat ≡ opened (mind c.in-Some.machine) = c.in_ok-new.ensures.process in
    let after : List (Process Mind) = map opened (map mind left) in
    record {
      made = ap (λ xs. map (process_of mind) xs ++ after) more
          ∙ (ap (λ xs. xs ++ after) (map-append (process_of mind) old (seat ∷ []))
          ∙ (append_assoc (map (process_of mind) old) (process_of mind seat ∷ []) after
          ∙ (ap (λ p. map (process_of mind) old ++ (p ∷ after)) made
          ∙ (ap (λ xs. map (process_of mind) old ++ map opened (map mind xs)) (sym e)
          ∙ c.loop-machine.invariant.made))));
      seated = subst (All (IsSeated mind s 0)) (sym more) (All-push (IsSeated mind s 0) old seat c.loop-machine.invariant.seated c.in_ok-new.ensures.seated);
      left = All-rest (λ m. IsMindIn s (mind m)) c.in-Some.machine left rest e c.loop-machine.invariant.left;
    }

pub returns-clause-processes : goal.returns-clause-processes
returns-clause-processes g c =
    let mind = g.M.Process.mind in
    let seats = map (process_of mind) c.loop-machine.seats.items in
    let none : into_iter_items c.loop-machine.machine-iterator ≡ [] =
    nil_from_length (into_iter_items c.loop-machine.machine-iterator) (sym c.loop-machine.machine-iterator.rest.ok.0 ∙ c.in-None.ensures.steps.0) in
    sym (append-nil seats) ∙ ((λ i. seats ++ map opened (map mind (sym none i))) ∙ c.loop-machine.invariant.made)
