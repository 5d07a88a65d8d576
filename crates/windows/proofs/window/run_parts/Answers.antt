use Rattle.windows.proofs.Words.{inr, rules, ◌≡◌, ◌+◌, ◌-◌, min, sym, ap, ◌∙◌, subst, arith, Vec, All, Record, setting_of, own_of, end_of, IsReady, RiseBy, HasLong, Berth, IfOk-weaker, IsOutcome, IsCountOfWorkers}
use Rattle.windows.proofs.{Closing.{stage_ready, stage_rises, long_limit, outcome_many, outcome_one, outcome_limit, next_window}, Refused.{one_refused}}
use Rattle.windows.proofs.window.run_parts.Goals as goal

-- what holds of three things holds of those that equal them
of_same : {A B C : Type 0} (P : A → B → C → Type 0) {a a2 : A} {b b2 : B} {c c2 : C} → a ≡ a2 → b ≡ b2 → c ≡ c2 → P a b c → P a2 b2 c2
of_same {A} {B} {C} P p q r = subst (λ (t : A × B × C). P t.0 t.1 t.2) (λ i. (p i, q i, r i))

pub run_all-requires-clause-ready : goal.run_all-requires-clause-ready
run_all-requires-clause-ready g c κs within =
    let old = c.args.stage.now in
    let mind = g.M.Process.mind in
    let stage = c.requires.window.stage_is in
    subst (λ s. All (IsReady mind s) c.replace-berths.result.items) (sym c.new-streams.ensures)
    (subst (All (IsReady mind old.scenario.now)) (sym (ap (λ (v : Vec _). v.items) c.replace-berths.ensures.value)) (stage_ready mind old c.processes-processes.ensures.ranges stage.0 stage.1))

pub run_all-requires-clause-rising : goal.run_all-requires-clause-rising
run_all-requires-clause-rising g c κs within =
    let stage = c.requires.window.stage_is in
    subst (RiseBy (λ (b : Berth _). own_of g.M.Process.mind b.seat)) (sym (ap (λ (v : Vec _). v.items) c.replace-berths.ensures.value))
    (stage_rises g.M.Process.mind c.args.stage.now c.processes-processes.ensures.ranges stage.0 stage.1)

pub returns-in_err-ran-clause-limit : goal.returns-in_err-ran-clause-limit
returns-in_err-ran-clause-limit g c is =
    let old = c.args.stage.now in
    let mind = g.M.Process.mind in
    let stage = c.requires.window.stage_is in
    let end : c.min-end.result ≡ end_of (setting_of old.scenario.now) c.args.plan.now.window old.start = c.min-end.ensures ∙ (λ i. min (old.start + c.window.ensures.value i) (c.horizon.ensures.value i)) in
    long_limit mind old c.processes-processes.ensures.ranges stage.0 stage.1 c.args.plan.now.window c.requires.window.plan_is (c.limit.result - old.so_far) (omega (arith, c.limit.ensures.value, stage.1.within))
    (of_same (λ s e bs. HasLong mind s e (c.limit.result - old.so_far) bs) c.new-streams.ensures end (ap (λ (v : Vec _). v.items) c.replace-berths.ensures.value) (c.run_all.ensures.limit (search rules)))

pub close-requires-clause-boxes : goal.close-requires-clause-boxes
close-requires-clause-boxes g c κs within =
    let old = c.args.stage.now in
    let stage = c.requires.window.stage_is in
    let ran = c.in_ok-ran.ran in
    let end : c.min-end.result ≡ end_of (setting_of old.scenario.now) c.args.plan.now.window old.start = c.min-end.ensures ∙ (λ i. min (old.start + c.window.ensures.value i) (c.horizon.ensures.value i)) in
    let by = of_same (λ s e bs. IsOutcome g.M.Process.mind s e bs ran.berths.items ran.slips.items) c.new-streams.ensures end (ap (λ (v : Vec _). v.items) c.replace-berths.ensures.value) c.in_ok-ran.ensures.outcome in
    let many = outcome_many g.M.Process.mind old c.processes-processes.ensures.ranges stage.0 stage.1 c.args.plan.now.window c.requires.window.plan_is _ _ by in
    c.in_ok-ran.ensures.boxes ∙ (ap (λ (r : Record). r.processes) c.new-streams.ensures ∙ (sym many ∙ sym ran.berths.ok.0))

pub close-requires-clause-one : goal.close-requires-clause-one
close-requires-clause-one g c κs within r low high =
    let old = c.args.stage.now in
    let stage = c.requires.window.stage_is in
    let ran = c.in_ok-ran.ran in
    let end : c.min-end.result ≡ end_of (setting_of old.scenario.now) c.args.plan.now.window old.start = c.min-end.ensures ∙ (λ i. min (old.start + c.window.ensures.value i) (c.horizon.ensures.value i)) in
    let by = of_same (λ s e bs. IsOutcome g.M.Process.mind s e bs ran.berths.items ran.slips.items) c.new-streams.ensures end (ap (λ (v : Vec _). v.items) c.replace-berths.ensures.value) c.in_ok-ran.ensures.outcome in
    let many = outcome_many g.M.Process.mind old c.processes-processes.ensures.ranges stage.0 stage.1 c.args.plan.now.window c.requires.window.plan_is _ _ by in
    outcome_one g.M.Process.mind old c.processes-processes.ensures.ranges stage.0 stage.1 c.args.plan.now.window c.requires.window.plan_is _ _ by r (low, omega (arith, high, many, ran.berths.ok.0))

pub returns : goal.returns
returns g c =
    let old = c.args.stage.now in
    let mind = g.M.Process.mind in
    let stage = c.requires.window.stage_is in
    let ran = c.in_ok-ran.ran in
    let left = c.limit.result - old.so_far in
    let sum : left + old.so_far ≡ old.scenario.now.limit = omega (arith, c.limit.ensures.value, stage.1.within) in
    let same = ap (λ (v : Vec _). v.items) c.replace-berths.ensures.value in
    let end : c.min-end.result ≡ end_of (setting_of old.scenario.now) c.args.plan.now.window old.start = c.min-end.ensures ∙ (λ i. min (old.start + c.window.ensures.value i) (c.horizon.ensures.value i)) in
    let by = of_same (λ s e bs. IsOutcome mind s e bs ran.berths.items ran.slips.items) c.new-streams.ensures end same c.in_ok-ran.ensures.outcome in
    let workers = of_same (λ w e bs. IsCountOfWorkers e w bs ran.workers) c.workers-workers.ensures.value end same c.in_ok-ran.ensures.workers in
    record {
      window = IfOk-weaker c.close.result _ _ (λ parts closed. next_window mind old c.processes-processes.ensures.ranges stage c.args.plan.now c.requires.window.plan_is _ _ by c.close.new.self c.close.ensures.scenario left sum parts.items ran.workers closed workers) c.close.ensures.closed;
      chore = inr (c.rooms-rooms.ensures.done _ c.in_ok-ran.ensures.worked);
      place = c.rooms-rooms.ensures.place ∙ c.in_ok-ran.ensures.place;
      errors = one_refused c.close.result c.close.ensures.errors;
      limit = λ is. outcome_limit mind old c.processes-processes.ensures.ranges stage.0 stage.1 c.args.plan.now.window c.requires.window.plan_is _ _ by left sum (c.close.ensures.limit is);
    }
