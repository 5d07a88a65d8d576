use Rattle.windows.proofs.Words.{rules, ◌≡◌, [], ◌∙◌, refl, inl, true, false, sym, ap, subst, arith, eqb-true, eqb-false, OnErr, IfErr, Record, TookFrontOf, IsRefusal, writes_of, on_ok_weaker, IfOk-at_ok, on_err_weaker, IsOverLimit}
use Rattle.windows.proofs.{Cut.{not_of_sink}, Handed.{on_err}, Waiting.{begins, closed_so_far, few_told, front_of, front_so_far, handed, has_next, merged_of, no_parts, no_write, ran, stage_is, whole_told}}
use Rattle.windows.proofs.run.run_windows_into.Goals as goal

pub returns-in_err-stage-clause-front : goal.returns-in_err-stage-clause-front
returns-in_err-stage-clause-front g c =
    on_err c.from_residual.result _ (record { parts = []; mid = c.args.sink.now; took_all = refl; last = []; ended = inl (refl, refl); front = λ whole t. (whole, refl) })

pub loop-stage-init : goal.loop-stage-init
loop-stage-init g c =
    (begins g.K.Sink.took c.args.sink.now c.new-parts.result.items c.new-parts.ensures.items c.in_ok-stage.ensures.stage c.in_ok-stage.ensures.scenario, refl)

pub run_and_hand_on-ran-requires-clause-window : goal.run_and_hand_on-ran-requires-clause-window
run_and_hand_on-ran-requires-clause-window g c κs within =
    let more : c.finished.result ≡ false = search rules in
    has_next c.loop-stage.invariant.0 c.args.plan.now c.requires.plan (eqb-false _ _ (sym c.finished.ensures ∙ more))

pub run_and_hand_on-ran-requires-clause-waiting : goal.run_and_hand_on-ran-requires-clause-waiting
run_and_hand_on-ran-requires-clause-waiting g c κs within = c.loop-stage.invariant.0.waiting

pub run_and_hand_on-ran-requires-clause-failures : goal.run_and_hand_on-ran-requires-clause-failures
run_and_hand_on-ran-requires-clause-failures g c κs within = omega (arith, c.loop-stage.invariant.1, c.requires.failures)

pub returns-in_err-told-clause-front : goal.returns-in_err-told-clause-front
returns-in_err-told-clause-front g c =
    let sink = c.run_and_hand_on-ran.new.sink in
    let refused = subst (λ r. OnErr r (TookFrontOf g.K.Sink.took g.K.Sink.took_front c.loop-stage.parts.items c.loop-stage.sink sink)) c.in_err-told.was c.run_and_hand_on-ran.ensures.handed.front in
    on_err c.from_residual-in_err-told.result _ (front_of c.loop-stage.invariant.0 c.recall_ranges.ensures g.K.Sink.took_front sink refused)

pub returns-in_err-told-clause-closed : goal.returns-in_err-told-clause-closed
returns-in_err-told-clause-closed g c is =
    let refused = c.run_and_hand_on-ran.ensures.handed.errors in
    absurd (not_of_sink c.from_residual-in_err-told.result (search (rules, refused)) is)

pub returns-in_err-told-clause-limit : goal.returns-in_err-told-clause-limit
returns-in_err-told-clause-limit g c is =
    let refused = c.run_and_hand_on-ran.ensures.handed.errors in
    absurd (not_of_sink c.from_residual-in_err-told.result (search (rules, refused)) (inl is))

pub hand_on-requires-clause-parts : goal.hand_on-requires-clause-parts
hand_on-requires-clause-parts g c = c.run_and_hand_on-ran.ensures.handed.waiting

pub hand_on-requires-clause-failures : goal.hand_on-requires-clause-failures
hand_on-requires-clause-failures g c =
    let fine : writes_of c.run_and_hand_on-ran.result.1.told ≡ 0 = ap writes_of c.in_ok-told.was in
    omega (arith, c.run_and_hand_on-ran.ensures.handed.count, fine, c.loop-stage.invariant.1, c.requires.failures)

pub returns-in_err-hand_on-clause-front : goal.returns-in_err-hand_on-clause-front
returns-in_err-hand_on-clause-front g c =
    let beside = c.run_and_hand_on-ran.ensures.handed in
    let was = handed c.loop-stage.invariant.0 c.run_and_hand_on-ran.new.sink c.run_and_hand_on-ran.result.1.parts.items beside.waiting (IfOk-at_ok _ c.in_ok-told.was beside.took_all) in
    on_err c.from_residual-in_err-hand_on.result _ (front_of was c.recall_ranges.ensures g.K.Sink.took_front c.hand_on.new.sink c.in_err-hand_on.ensures.front)

pub returns-in_err-hand_on-clause-closed : goal.returns-in_err-hand_on-clause-closed
returns-in_err-hand_on-clause-closed g c is =
    absurd (not_of_sink c.from_residual-in_err-hand_on.result (search rules) is)

pub returns-in_err-parts-clause-front : goal.returns-in_err-parts-clause-front
returns-in_err-parts-clause-front g c =
    let beside = c.run_and_hand_on-ran.ensures.handed in
    let u = handed (handed c.loop-stage.invariant.0 c.run_and_hand_on-ran.new.sink c.run_and_hand_on-ran.result.1.parts.items beside.waiting (IfOk-at_ok _ c.in_ok-told.was beside.took_all)) c.hand_on.new.sink [] no_parts c.in_ok-hand_on.ensures.took in
    on_err c.from_residual-in_err-parts.result _ (front_so_far u c.recall_ranges.ensures g.K.Sink.took_front)

pub returns-in_err-parts-clause-closed : goal.returns-in_err-parts-clause-closed
returns-in_err-parts-clause-closed g c is =
    let beside = c.run_and_hand_on-ran.ensures.handed in
    let u = handed (handed c.loop-stage.invariant.0 c.run_and_hand_on-ran.new.sink c.run_and_hand_on-ran.result.1.parts.items beside.waiting (IfOk-at_ok _ c.in_ok-told.was beside.took_all)) c.hand_on.new.sink [] no_parts c.in_ok-hand_on.ensures.took in
    closed_so_far u c.recall_ranges.ensures

pub returns-in_err-parts-clause-count : goal.returns-in_err-parts-clause-count
returns-in_err-parts-clause-count g c =
    let fine : writes_of c.run_and_hand_on-ran.result.1.told ≡ 0 = ap writes_of c.in_ok-told.was in
    let good : writes_of c.hand_on.result ≡ 0 = ap writes_of c.in_ok-hand_on.was in
    let refused : IfErr c.from_residual-in_err-parts.result IsRefusal = search rules in
    omega (arith, c.run_and_hand_on-ran.ensures.handed.count, fine, c.hand_on.ensures.count, good, no_write c.from_residual-in_err-parts.result refused, c.loop-stage.invariant.1)

pub returns-in_err-parts-clause-limit : goal.returns-in_err-parts-clause-limit
returns-in_err-parts-clause-limit g c is =
    subst IsOverLimit c.loop-stage.invariant.0.scenario (c.run_and_hand_on-ran.ensures.limit (search rules))

pub loop-stage-smaller : goal.loop-stage-smaller
loop-stage-smaller g c =
    let was = c.loop-stage.invariant.0 in
    let more : c.finished.result ≡ false = search rules in
    let window = IfOk-at_ok _ c.in_ok-parts.was c.run_and_hand_on-ran.ensures.window in
    let next = merged_of c.in_ok-parts.parts.items window.are_parts in
    let run = window.run next.0 next.1 in
    omega (arith, run.7, (stage_is was).1.to_horizon, eqb-false _ _ (sym c.finished.ensures ∙ more), ap (λ (s : Record). s.horizon) was.scenario, c.window-window.ensures.is_plan.window_low)

pub loop-stage-preserved : goal.loop-stage-preserved
loop-stage-preserved g c =
    let call = c.run_and_hand_on-ran.ensures in
    let u = handed (handed c.loop-stage.invariant.0 c.run_and_hand_on-ran.new.sink c.run_and_hand_on-ran.result.1.parts.items call.handed.waiting (IfOk-at_ok _ c.in_ok-told.was call.handed.took_all)) c.hand_on.new.sink [] no_parts c.in_ok-hand_on.ensures.took in
    let next = ran u (IfOk-at_ok _ c.in_ok-parts.was call.window) in
    let fine : writes_of c.run_and_hand_on-ran.result.1.told ≡ 0 = ap writes_of c.in_ok-told.was in
    let good : writes_of c.hand_on.result ≡ 0 = ap writes_of c.in_ok-hand_on.was in
    (next, omega (arith, call.handed.count, fine, c.hand_on.ensures.count, good, c.loop-stage.invariant.1))

pub returns-clause-trace : goal.returns-clause-trace
returns-clause-trace g c =
    let over : c.finished.result ≡ true = search rules in
    on_ok_weaker c.hand_on-2.result (λ took. whole_told (handed c.loop-stage.invariant.0 c.hand_on-2.new.sink [] no_parts took) (eqb-true _ _ (sym c.finished.ensures ∙ over))) c.hand_on-2.ensures.took

pub returns-clause-within : goal.returns-clause-within
returns-clause-within g c =
    let over : c.finished.result ≡ true = search rules in
    on_ok_weaker c.hand_on-2.result (λ took. few_told (handed c.loop-stage.invariant.0 c.hand_on-2.new.sink [] no_parts took) (eqb-true _ _ (sym c.finished.ensures ∙ over))) c.hand_on-2.ensures.took

pub returns-clause-front : goal.returns-clause-front
returns-clause-front g c =
    on_err_weaker c.hand_on-2.result (front_of c.loop-stage.invariant.0 c.recall_ranges.ensures g.K.Sink.took_front c.hand_on-2.new.sink) c.hand_on-2.ensures.front
