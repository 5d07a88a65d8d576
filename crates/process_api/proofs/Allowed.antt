-- What a process does is allowed: receivers are among 1 to n, and pauses are at least 1.
use Rattle.process_api.proofs.Basics.{ℕ, ◌+◌, ◌%◌, ◌<◌, ◌≤◌, refl, sym, subst, Bool, true, false, cond, ◌&&◌, arith, nat_eq, nat_lt, nat_le, Option, None, Some, IfSome, is_some, unwrap_or, List, [], ◌∷◌, ◌++◌, mod-lt, IsTrue, AllByRecursion, All, All-from_recursion, IsAllowed, Answer, still, after, to_all, Exchange, Coordinator, Lower, AlgorithmState, Idle, Exchanging, Coordinating, Mind, is_mind_at, is_paced, suspects_of, stands_at, Place, react_lower, react_algorithm, react, ReductionState, step_reduction, gathered, coordinator, greatest_round, is_own, majority, count_to, Processes, changes, suspected_by, step_detector, Action, Payload, StepInput, cond_both, leb-true}
use Rattle.process_api.proofs.{DetectorLaws.{detector_laws}, Lists.{both, images, always, option_both}, Minds.{both_true, same_count, mind_place, mind_paced, mind_stands}, Sending.{sent_to_all}, Waits.{all_do}}
use Rattle.std.specs.FinSet as set
use Rattle.process_api.specs.ConsensusS as exchange
use Rattle.process_api.specs.Coordinator as rotating
use Rattle.process_api.specs.{Coordinator.{also_seen}, declared.consensus.Phase.{Phase, TheVariants.{Opening, Collect, Await, Tally, Decided, Ended}}}
use Rattle.process_api.specs.declared.action.Action.TheVariants as action
use Rattle.process_api.specs.declared.action.Note.TheVariants as note
use Rattle.process_api.specs.declared.message.Payload.TheVariants as payload
use Rattle.process_api.specs.declared.message.StepInput.TheVariants as input
use Rattle.process_api.specs.declared.message.Tag.TheVariants as tag

-- all of these actions are allowed among n
abbrev pub AllAllowed : ℕ → List Action → Type 0
AllAllowed n actions = AllByRecursion (IsAllowed n) actions

all_sent : (n : ℕ) (what : Payload) → AllAllowed n (to_all n what)
all_sent n what = sent_to_all (IsAllowed n) n what (λ q h. h)

pub reduction_allowed : (place : Place) (s : ReductionState) (suspects : Processes) (x : StepInput) → 1 ≤ s.period → AllAllowed place.processes (step_reduction place s suspects x).actions
reduction_allowed place s suspects input.Start period = (period, tt)
reduction_allowed place s suspects (input.Wake tag.Share) period = both _ (to_all place.processes (payload.Suspects suspects)) _ (all_sent place.processes (payload.Suspects suspects)) (period, tt)
reduction_allowed place s suspects (input.Letter sender (payload.Suspects shared)) period =
    images (IsAllowed place.processes) action.Note _ (always (λ x. IsAllowed place.processes (action.Note x)) (λ x. tt) (changes 2 place.processes s.output (gathered place s.output sender shared)))
reduction_allowed place s suspects x period = tt

-- consensus with S
module _ (n own : ℕ) (is_suspected : ℕ → Bool) where
  abbrev Proper : Answer Exchange → Type 0
  Proper a = AllAllowed n a.actions

  entered : (round : ℕ) (s : Exchange) → Proper (exchange.enter n own round s)
  entered round s = (tt, all_sent n (cond (nat_lt round n) (payload.Vector round s.news) (payload.Last s.known)))

  wait_ended : (s : Exchange) → IfSome (exchange.end_wait n own is_suspected s) Proper
  wait_ended s =
      let next = exchange.enter n own (s.round + 1) (exchange.gather n own s) in
      cond_both (exchange.is_running n own s && exchange.is_over n own is_suspected s) (Some (cond (nat_lt s.round n) next (exchange.decide n own s))) None (λ (o : Option (Answer Exchange)). IfSome o Proper)
      (λ _. cond_both (nat_lt s.round n) next (exchange.decide n own s) Proper (λ _. entered (s.round + 1) (exchange.gather n own s)) (λ _. (tt, tt))) (λ _. tt)

  exchange_begun : (x : StepInput) (s : Exchange) → Proper (exchange.begin n own x s)
  exchange_begun input.Start s = cond_both (nat_eq s.round 0) (exchange.enter n own 1 s) (still s) Proper (λ _. entered 1 s) (λ _. tt)
  exchange_begun (input.Letter sender what) s = tt
  exchange_begun (input.Wake tag) s = tt

  pub exchange_allowed : (x : StepInput) (s : Exchange) → AllAllowed n (exchange.step_exchange n own is_suspected x s).actions
  exchange_allowed x s =
      let begun = exchange.begin n own x s in
      both (IsAllowed n) begun.actions _ (exchange_begun x s)
      (all_do (exchange.end_wait n own is_suspected) (λ k s. exchange.end_waits n own k is_suspected s) (λ s. refl) (λ k s. refl) (IsAllowed n) wait_ended (exchange.waits_left n own begun.state) begun.state)

-- the rotating coordinator
module _ (n : ℕ) (some : 1 ≤ n) where
  abbrev Sound : Answer Coordinator → Type 0
  Sound a = AllAllowed n a.actions

  abbrev SoundIf : Option (Answer Coordinator) → Type 0
  SoundIf o = IfSome o Sound

  one_of : (r : ℕ) → (1 ≤ coordinator n r) × (coordinator n r ≤ n)
  one_of r = let h : r % n < n = mod-lt r some in (omega (arith, h), omega (arith, h))

  spread_or_not : (b : Bool) (what : Payload) → AllAllowed n (cond b (to_all n what) [])
  spread_or_not b what = cond_both b (to_all n what) [] (AllAllowed n) (λ _. all_sent n what) (λ _. tt)

  module _ (own : ℕ) (is_suspected : ℕ → Bool) where
    left : (s : Coordinator) → Sound (rotating.leave n own s)
    left s = cond_both (nat_lt s.round greatest_round) (rotating.enter n own (s.round + 1) s) (still (record s { phase = Ended })) Sound (λ _. (tt, (one_of (s.round + 1), tt))) (λ _. tt)

    replied : (ack : Bool) (s : Coordinator) → Sound (rotating.reply n own ack s)
    replied ack s = (one_of s.round, cond_both (is_own n own s.round) (still (record s { phase = Tally })) (rotating.leave n own s) Sound (λ _. tt) (λ _. left s))

    tallied : (s : Coordinator) → SoundIf (rotating.tally n own s)
    tallied s =
        let spread = cond (nat_le (majority n) (count_to n (λ q. unwrap_or (s.kept.replies s.round q) false))) (to_all n (payload.Decide s.round s.estimate.value)) [] in
        cond_both (nat_le (majority n) (count_to n (λ q. is_some (s.kept.replies s.round q)))) (Some (after spread (rotating.leave n own s))) None SoundIf
        (λ _. both (IsAllowed n) spread _ (spread_or_not _ (payload.Decide s.round s.estimate.value)) (left s)) (λ _. tt)

    awaited : (s : Coordinator) → SoundIf (rotating.await n own is_suspected s)
    awaited s =
        option_both (s.kept.proposals s.round) (cond (is_suspected (coordinator n s.round)) (Some (rotating.reply n own false s)) None) (λ value. Some (rotating.reply n own true (rotating.adopt n own s value))) SoundIf
        (λ _. cond_both (is_suspected (coordinator n s.round)) (Some (rotating.reply n own false s)) None SoundIf (λ _. replied false s) (λ _. tt)) (λ v _. replied true (rotating.adopt n own s v))

    collected : (s : Coordinator) → SoundIf (rotating.collect n own s)
    collected s =
        let best = rotating.best_to n (s.kept.estimates s.round) in
        cond_both (nat_le (majority n) (count_to n (λ q. is_some (s.kept.estimates s.round q)))) (elim best as (λ z. Option (Answer Coordinator)) [ None ↦ None | Some best ↦ Some (rotating.propose n own s best) ]) None SoundIf
        (λ _. option_both best None (λ best. Some (rotating.propose n own s best)) SoundIf (λ _. tt) (λ best _. all_sent n (payload.Proposal s.round best.value))) (λ _. tt)

    round_ended : (s : Coordinator) → SoundIf (rotating.end_wait n own is_suspected s)
    round_ended s = go s.phase
      where
        go : (phase : Phase) → SoundIf (elim phase as (λ z. Option (Answer Coordinator)) [ Opening ↦ None | Collect ↦ rotating.collect n own s | Await ↦ rotating.await n own is_suspected s | Tally ↦ rotating.tally n own s | Decided ↦ None | Ended ↦ None ])
        go Collect = collected s
        go Await = awaited s
        go Tally = tallied s
        go _ = tt

    delivered : (round value : ℕ) (s : Coordinator) → Sound (rotating.deliver n own round value s)
    delivered round value s = go (s.seen round) (is_own n own round) (rotating.is_decided s.phase)
      where
        go : (b c d : Bool) → Sound (cond b (still s) (record {
          state = record s { seen = also_seen s.seen round; phase = Decided };
          actions = cond c [] (to_all n (payload.Decide round value)) ++ cond d [] (action.Note (note.Decided value) ∷ []);
        }))
        go true c d = tt
        go false true true = tt
        go false true false = (tt, tt)
        go false false d = both (IsAllowed n) (to_all n (payload.Decide round value)) _ (all_sent n (payload.Decide round value)) (cond_both d [] (action.Note (note.Decided value) ∷ []) (AllAllowed n) (λ _. tt) (λ _. (tt, tt)))

    received : (sender : ℕ) (what : Payload) (s : Coordinator) → Sound (rotating.receive n own sender what s)
    received sender (payload.Decide round value) s = cond_both (nat_le 1 round && nat_le round greatest_round) (rotating.deliver n own round value s) (still s) Sound (λ _. delivered round value s) (λ _. tt)
    received sender what s = tt

    coordinator_begun : (x : StepInput) (s : Coordinator) → Sound (rotating.begin n own x s)
    coordinator_begun input.Start s = cond_both (rotating.is_opening s.phase) (rotating.enter n own 1 s) (still s) Sound (λ _. (tt, (one_of 1, tt))) (λ _. tt)
    coordinator_begun (input.Wake tag) s = tt
    coordinator_begun (input.Letter sender what) s = go (rotating.is_opening s.phase) (nat_le sender n)
      where
        go : (b c : Bool) → Sound (cond b (still s) (cond c (rotating.receive n own sender what s) (still s)))
        go true c = tt
        go false true = received sender what s
        go false false = tt

    coordinator_allowed : (x : StepInput) (s : Coordinator) → AllAllowed n (rotating.step_coordinator n own is_suspected x s).actions
    coordinator_allowed x s =
        let begun = rotating.begin n own x s in
        both (IsAllowed n) begun.actions _ (coordinator_begun x s)
        (all_do (rotating.end_wait n own is_suspected) (λ k s. rotating.end_waits n own k is_suspected s) (λ s. refl) (λ k s. refl) (IsAllowed n) round_ended (rotating.waits_left n own begun.state) begun.state)

-- the detector's part, where its pauses are at least 1
lower_all : (m : Lower) (now : ℕ) (x : StepInput) → IsTrue (is_paced m) → AllAllowed m.place.processes (react_lower m now x).actions
unfolding react_lower
lower_all m now x paced = with_layer m.reduction (both_true _ _ paced).1
  where
    base : AllAllowed m.place.processes (step_detector m.place m.detector now x).actions
    base = (detector_laws m.place m.detector now x).allowed (both_true _ _ paced).0

    with_layer : (o : Option ReductionState) → IsTrue (elim o as (λ z. Bool) [ None ↦ true | Some reduction ↦ nat_le 1 reduction.period ]) → AllAllowed m.place.processes (react_lower (record m { reduction = o }) now x).actions
    with_layer None paced = base
    with_layer (Some reduction) paced =
        both (IsAllowed m.place.processes) (step_detector m.place m.detector now x).actions _ base
        (reduction_allowed m.place reduction (suspected_by m.place (step_detector m.place m.detector now x).state) x (leb-true 1 reduction.period paced))

-- the algorithm's part
algorithm_all : (place : Place) (a : AlgorithmState) (x : StepInput) (suspects : Processes) → 1 ≤ place.processes → IsTrue (stands_at place a) → AllAllowed place.processes (react_algorithm a x suspects).actions
unfolding react_algorithm
algorithm_all place Idle x suspects some at = tt
algorithm_all place (Exchanging its s) x suspects some at =
    subst (λ n. AllAllowed n (exchange.step_exchange its.processes its.own (set.contains suspects) x s).actions) (same_count its place at) (exchange_allowed its.processes its.own (set.contains suspects) x s)
algorithm_all place (Coordinating its s) x suspects some at =
    subst (λ n. AllAllowed n (rotating.step_coordinator its.processes its.own (set.contains suspects) x s).actions) (same_count its place at)
    (coordinator_allowed its.processes (subst (λ n. 1 ≤ n) (sym (same_count its place at)) some) its.own (set.contains suspects) x s)

pub algorithm_allowed : (place : Place) (a : AlgorithmState) (x : StepInput) (suspects : Processes) → 1 ≤ place.processes → IsTrue (stands_at place a) → All (IsAllowed place.processes) (react_algorithm a x suspects).actions
algorithm_allowed place a x suspects some at = All-from_recursion (IsAllowed place.processes) _ (algorithm_all place a x suspects some at)

pub react_allowed : (place : Place) (m : Mind) (now : ℕ) (x : StepInput) → 1 ≤ place.processes → IsTrue (is_mind_at place m) → All (IsAllowed place.processes) (react m now x).actions
unfolding react
react_allowed place m now x some is = All-from_recursion (IsAllowed place.processes) _
    (both (IsAllowed place.processes) (react_lower m.lower now x).actions _
    (subst (λ n. AllAllowed n (react_lower m.lower now x).actions) (same_count m.lower.place place (mind_place place m is)) (lower_all m.lower now x (mind_paced place m is)))
    (algorithm_all place m.algorithm x (suspects_of (react_lower m.lower now x).state) some (mind_stands place m is)))
