use Rattle.event_list.proofs.Words.{◌≡◌, ◌+◌, ◌*◌, List, length, map, refl, append-nil, sym, subst, ◌∙◌, arith, Some, slice_get, ◌-◌, ◌++◌, ◌∷◌, [], All, length-map, length_push, MatchOption-at_none, MatchOption-at_some, most_step_actions, Mind, HaveJoined, posted_in, setting_of, process_of, IsSeated, IsProcess, IsStepped, Process, step, trace_rises, setting_sound}
use Rattle.event_list.proofs.{Recording.{Going, taken_next, cut_short}, Standing.{first_longer, first_receiver, first_process, first_own, stands_next, stands_end}}
use Rattle.trace_laws.proofs.{Effects.{trace_has_causes, trace_takes_once}, Joining.{joined_then}}
use Rattle.std.proofs.lemmas.Result.{MatchResult-at_ok}
use Rattle.event_list.proofs.list.run_list_into.Goals as goal

pub returns-then-taken-limit-clause-limit : goal.returns-then-taken-limit-clause-limit
returns-then-taken-limit-clause-limit g c =
    let going = c.loop-list.invariant.going in
    λ _ whole is. omega (arith, going.long, c.limit-limit.ensures.value, c.if-taken-limit.true, first_longer _ _ _ _ _ going.stands _ _ (MatchOption-at_some _ _ _ c.in-Some.is c.in_ok-event.ensures.least) whole is)

pub returns-then-taken-limit-clause-front : goal.returns-then-taken-limit-clause-front
returns-then-taken-limit-clause-front g c =
    let i = c.loop-list.invariant in
    let s = c.args.scenario.now in
    let all : c.loop-list.taken ≡ s.limit = omega (arith, i.within, c.limit-limit.ensures.value, c.if-taken-limit.true) in
    λ _. cut_short (setting_of s) _ _ _ _ _ s.limit (subst (Going (setting_of s) _ _ _ _ _) all i.going)

pub take-requires-clause-seated : goal.take-requires-clause-seated
take-requires-clause-seated g c κs within =
    let all = subst (λ s. All (IsSeated g.M.Process.mind s (most_step_actions * c.loop-list.taken)) c.loop-list.list.seats.items) (sym c.new-streams.ensures) c.loop-list.invariant.seated in
    (most_step_actions * c.loop-list.taken, all, omega (arith, c.loop-list.invariant.within, c.limit-limit.ensures.ranges.limit_high))

pub take-requires-clause-receiver : goal.take-requires-clause-receiver
take-requires-clause-receiver g c κs within =
    subst (λ s. IsProcess (setting_of s) c.in-Some.event.0.receiver) (sym c.new-streams.ensures) (first_receiver _ _ _ _ _ c.loop-list.invariant.going.stands _ _ (MatchOption-at_some _ _ _ c.in-Some.is c.in_ok-event.ensures.least))

pub take-requires-clause-own : goal.take-requires-clause-own
take-requires-clause-own g c κs within =
    first_own c.args.scenario.now _ _ _ _ c.loop-list.invariant.going.stands _ _ (MatchOption-at_some _ _ _ c.in-Some.is c.in_ok-event.ensures.least)

pub loop-list-init : goal.loop-list-init
loop-list-init g c =
    let opens = c.in_ok-list.ensures in
    let followed = g.F.Follower.followed c.args.follower.now c.args.follower.now in
    let heard = g.L.Listener.heard in
    record {
      going = record {
        trace = [];
        letters = [];
        stands = opens.opening;
        long = refl;
        taken = λ before h. subst followed (sym (append-nil before)) h;
        heard = λ first before h. subst (λ xs. heard first xs c.args.listener.now) (sym (append-nil before)) h;
      };
      seated = opens.seated;
      count = opens.count;
      within = omega arith;
    }

pub loop-list-preserved-in_ok-follow : goal.loop-list-preserved-in_ok-follow
loop-list-preserved-in_ok-follow g c =
    let mind = g.M.Process.mind in
    let s = c.args.scenario.now in
    let S = setting_of s in
    let i = c.loop-list.invariant in
    let ps = map (process_of mind) c.loop-list.list.seats.items in
    let trace = i.going.trace in
    let letters = i.going.letters in
    let old = c.loop-list.taken in
    let entry = c.in-Ok.entry in
    let done = c.take.ensures in
    let is_ok = c.in-Ok.is in
    let least = (MatchOption-at_some _ _ _ c.in-Some.is c.in_ok-event.ensures.least) in
    let key = c.in-Some.event.0 in
    let input = c.in-Some.event.1 in
    let later : List (Process Mind) = map (process_of mind) c.take.new.self.seats.items in
    let is : c.new-streams.result ≡ s = c.new-streams.ensures in
    let long : length ps ≡ s.processes = omega (arith, i.count, c.loop-list.list.seats.ok.0, length-map c.loop-list.list.seats.items (process_of mind)) in
    let stepped : (p : Process Mind) → slice_get ps (key.receiver - 1) ≡ Some p → IsStepped {S = S} ps later c.take_least.new.self c.take.new.self.pending key entry (step S p key input) =
    subst (λ r. (p : Process Mind) → slice_get ps (key.receiver - 1) ≡ Some p → IsStepped {S = setting_of r} ps later c.take_least.new.self c.take.new.self.pending key entry (step (setting_of r) p key input)) is (MatchResult-at_ok _ _ _ is_ok done.stepped) in
    let heard = g.L.Listener.heard in
    let told : (p : Process Mind) → slice_get ps (key.receiver - 1) ≡ Some p → HaveJoined heard c.loop-list.listener c.take.new.listener (posted_in S p key input) =
    subst (λ r. (p : Process Mind) → slice_get ps (key.receiver - 1) ≡ Some p → HaveJoined heard c.loop-list.listener c.take.new.listener (posted_in (setting_of r) p key input)) is (MatchResult-at_ok _ _ _ is_ok done.heard) in
    let seated : All (IsSeated mind s (most_step_actions * old + most_step_actions)) c.take.new.self.seats.items =
    subst (λ r. All (IsSeated mind r (most_step_actions * old + most_step_actions)) c.take.new.self.seats.items) is (MatchResult-at_ok _ _ _ is_ok done.seated (most_step_actions * old) (subst (λ r. All (IsSeated mind r (most_step_actions * old)) c.loop-list.list.seats.items) (sym is) i.seated)) in
    record {
      going = record {
        trace = trace ++ entry ∷ [];
        letters = letters ++ posted_in S (i.going.stands.world.process key.receiver) key input;
        stands = stands_next S ps c.loop-list.list.pending trace letters i.going.stands key input least (setting_sound s c.limit-limit.ensures.ranges) long c.take_least.new.self (MatchOption-at_some _ _ _ c.in-Some.is c.in_ok-event.ensures.removed) later _ entry
            (stepped _ (first_process S ps c.loop-list.list.pending trace letters i.going.stands key input least));
        long = omega (arith, i.going.long, length_push trace entry);
        taken = taken_next _ _ (g.F.Follower.followed c.args.follower.now c.follow.new.self) trace entry i.going.taken (c.in_ok-follow.ensures c.args.follower.now);
        heard = joined_then heard c.args.listener.now c.loop-list.listener c.take.new.listener letters _ i.going.heard
            (told _ (first_process S ps c.loop-list.list.pending trace letters i.going.stands key input least));
      };
      seated = let same : most_step_actions * old + most_step_actions ≡ most_step_actions * (old + 1) = omega arith in subst (λ n. All (IsSeated mind s n) c.take.new.self.seats.items) same seated;
      count = MatchResult-at_ok _ _ _ is_ok done.count ∙ i.count;
      within = omega (arith, c.if-taken-limit.false, c.limit-limit.ensures.value);
    }

pub returns-clause-recorded : goal.returns-clause-recorded
returns-clause-recorded g c =
    let S = setting_of c.args.scenario.now in
    let i = c.loop-list.invariant in
    let trace = i.going.trace in
    let sound = setting_sound c.args.scenario.now c.limit-limit.ensures.ranges in
    let is = (stands_end S _ _ _ _ i.going.stands (MatchOption-at_none _ _ c.in_default.is c.in_ok-event.ensures.least)).0 in
    record {
      trace = trace;
      is_trace = is;
      rising = trace_rises S sound trace is;
      cause = trace_has_causes S sound trace is;
      once = trace_takes_once S sound trace is;
      within = omega (arith, i.going.long, i.within);
      taken = i.going.taken;
    }

pub returns-clause-heard : goal.returns-clause-heard
returns-clause-heard g c =
    let i = c.loop-list.invariant in (
      i.going.letters,
      (stands_end (setting_of c.args.scenario.now) _ _ _ _ i.going.stands (MatchOption-at_none _ _ c.in_default.is c.in_ok-event.ensures.least)).1,
      i.going.heard,
    )
