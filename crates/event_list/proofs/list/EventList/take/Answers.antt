use Rattle.event_list.proofs.Words.{[], refl, ◌≡◌, ◌+◌, ◌-◌, ◌<◌, length, get_or, slice_get, slice_set, Some, map, ap, sym, subst, ◌∙◌, arith, map-set, All-set, All-weaker, All-get_or, HaveJoined, posted_in, setting_of, process_of, IsSeated, IsStepped, Mind, Process, step, most_step_actions}
use Rattle.std.specs.Prelude.{Result, Ok, Err, OnOk, IfOk}
use Rattle.event_list.proofs.Standing.{place_is, image_at}
use Rattle.event_list.proofs.list.EventList.take.Goals as goal

always : {T E A : Type 0} (r : Result T E) → A → OnOk r A
always (Ok v) a = a
always (Err e) a = tt

of_three : {T E A B : Type 0} {P Q : T → Type 0} (r : Result T E) → OnOk r A → IfOk r P → OnOk r B → ((v : T) → A → P v → B → Q v) → IfOk r Q
of_three (Ok v) a p b f = f v a p b
of_three (Err e) a p b f = tt

of_one : {T E A B : Type 0} (r : Result T E) → OnOk r A → (A → B) → OnOk r B
of_one (Ok v) a f = f a
of_one (Err e) a f = tt

pub turn-requires-clause-own : goal.turn-requires-clause-own
turn-requires-clause-own g c κs within =
    let f = process_of g.M.Process.mind in
    let xs = c.args.self.now.seats.items in
    let i = c.from-place.result - 1 in
    let old = c.index_mut-seat.result.now in
    let at : i ≡ c.args.event.0.receiver - 1 = ap (λ n. n - 1) (c.from-place.ensures ∙ c.number.ensures.value) in
    let inside : i < length xs = omega (arith, at, c.requires.receiver.0, c.requires.receiver.1, c.requires.count, c.args.self.now.seats.ok.0) in
    sym (c.requires.own (f old) (ap (slice_get (map f xs)) (sym at) ∙ image_at f xs i old inside c.index_mut-seat.ensures.value))

pub returns : goal.returns
returns g c =
    let mind = g.M.Process.mind in
    let f = process_of mind in
    let s = c.args.streams.now in
    let S = setting_of s in
    let key = c.args.event.0 in
    let xs = c.args.self.now.seats.items in
    let i = c.from-place.result - 1 in
    let old = c.index_mut-seat.result.now in
    let new = c.turn.new.self in
    let done = c.turn.ensures in
    let r = c.turn.result in
    let at : i ≡ key.receiver - 1 = ap (λ n. n - 1) (c.from-place.ensures ∙ c.number.ensures.value) in
    let inside : i < length xs = omega (arith, at, c.requires.receiver.0, c.requires.receiver.1, c.requires.count, c.args.self.now.seats.ok.0) in
    let there : old ≡ get_or xs i old = c.index_mut-seat.ensures.value in
    let same : (before : Process Mind) → slice_get (map f xs) (key.receiver - 1) ≡ Some before → f old ≡ before =
    λ before is. ap f there ∙ place_is f xs i old before (ap (slice_get (map f xs)) at ∙ is) in
    record {
      count = always r refl;
      seated = of_one r done.seated (λ stays most all.
          All-set (IsSeated mind s (most + most_step_actions)) xs i new (stays most (subst (IsSeated mind s most) (sym there) (All-get_or (IsSeated mind s most) xs i old inside all)))
          (All-weaker (IsSeated mind s most) (IsSeated mind s (most + most_step_actions)) (λ x h. record { low = h.low; high = h.high; is_mind = h.is_mind; horizon = h.horizon; crash = h.crash; places = h.places; counts = λ q. omega (arith, h.counts q) }) xs all));
      stepped = of_three r done.process done.entry done.added (λ e process entry added before is.
          subst (λ b. IsStepped {S = S} (map f xs) (map f (slice_set xs i new)) c.args.self.now.pending c.turn.new.added key e (step S b key c.args.event.1)) (same before is)
          (record {
            processes = map-set f xs i new ∙ (λ k. slice_set (map f xs) (at k) (process k));
            entry_is = entry;
            pending = added c.args.self.now.pending [] refl;
          }));
      heard = of_one r done.heard (λ heard before is. subst (λ b. HaveJoined g.L.Listener.heard c.args.listener.now c.turn.new.listener (posted_in S b key c.args.event.1)) (same before is) heard);
    }
