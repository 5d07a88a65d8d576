-- What the algorithms do: they send letters of their own kinds, and note rounds and decisions alone.
use Rattle.judges.proofs.Words.{ℕ, zero, suc, ◌+◌, Bool, true, false, ◌&&◌, nat_lt, nat_le, nat_eq, Option, None, Some, is_some, unwrap_or, [], ◌∷◌, AllByRecursion, cond_both, Answer, still, after, to_all, Coordinator, broadcast, AlgorithmState, Idle, Exchanging, Coordinating, numbers_to, react_algorithm, Processes, Action, Phase, Collect, Await, Tally, Payload, StepInput, both, images, always}
use Rattle.std.specs.FinSet as set
use Rattle.process_api.specs.{Rows.{cell}, ConsensusS.{Exchange}, Coordinator.{coordinator, greatest_round, is_own, majority, count_to}}
use Rattle.process_api.specs.ConsensusS as exchange
use Rattle.process_api.specs.Coordinator as rotating
use Rattle.process_api.specs.declared.action.Action.TheVariants as action
use Rattle.process_api.specs.declared.action.Note.TheVariants as note
use Rattle.process_api.specs.declared.message.Payload.TheVariants as payload
use Rattle.process_api.specs.declared.message.StepInput.TheVariants as input

-- what an algorithm may do: it sends no letter of another part, asks for no wake, and notes no suspicion and no trust
abbrev pub IsOfAlgorithm : Action → Type 0
IsOfAlgorithm (action.Send to payload.Alive) = ⊥
IsOfAlgorithm (action.Send to (payload.Heartbeat number)) = ⊥
IsOfAlgorithm (action.Send to (payload.Suspects shared)) = ⊥
IsOfAlgorithm (action.Wake pause tag) = ⊥
IsOfAlgorithm (action.Note (note.Suspect layer who)) = ⊥
IsOfAlgorithm (action.Note (note.Trust layer who)) = ⊥
IsOfAlgorithm a = Unit {0}

-- letters to all are as each of them
pub all_sent : (P : Action → Type 0) (n : ℕ) (what : Payload) → ((q : ℕ) → P (action.Send q what)) → AllByRecursion P (to_all n what)
all_sent P n what f = images P (λ q. action.Send q what) (numbers_to n) (always (λ q. P (action.Send q what)) f (numbers_to n))

abbrev Acts : {State : Type 0} → Answer State → Type 0
Acts a = AllByRecursion IsOfAlgorithm a.actions

abbrev ActsIf : {State : Type 0} → Option (Answer State) → Type 0
ActsIf None = Unit {0}
ActsIf (Some a) = Acts a

by_option : {X Y : Type 0} (P : Y → Type 0) (o : Option X) (none : Y) (some : X → Y) → P none → ((x : X) → P (some x)) → P (elim o [ None ↦ none | Some x ↦ some x ])
by_option P None none some f g = f
by_option P (Some x) none some f g = g x

-- an answer after another, if there is one
then_acts : {State : Type 0} (o : Option (Answer State)) (s : State) (rest : State → Answer State) → ActsIf o → ((s : State) → Acts (rest s)) → Acts (elim o [ None ↦ still s | Some a ↦ after a.actions (rest a.state) ])
then_acts None s rest good more = tt
then_acts (Some a) s rest good more = both IsOfAlgorithm a.actions _ good (more a.state)

-- consensus with S
module _ (n own : ℕ) (is_suspected : ℕ → Bool) where
  entered : (round : ℕ) (s : Exchange) → Acts (exchange.enter n own round s)
  entered round s = (
    tt,
    cond_both (nat_lt round n) (payload.Vector round s.news) (payload.Last s.known) (λ what. AllByRecursion IsOfAlgorithm (to_all n what))
        (λ _. all_sent IsOfAlgorithm n (payload.Vector round s.news) (λ q. tt)) (λ _. all_sent IsOfAlgorithm n (payload.Last s.known) (λ q. tt)),
  )

  decided : (s : Exchange) → Acts (exchange.decide n own s)
  decided s = (by_option (λ x. IsOfAlgorithm (action.Note x)) (exchange.first_to n (cell (exchange.common n own s))) note.NoValue note.Decided tt (λ value. tt), tt)

  wait_ended : (s : Exchange) → ActsIf (exchange.end_wait n own is_suspected s)
  wait_ended s = cond_both (exchange.is_running n own s && exchange.is_over n own is_suspected s) _ _ ActsIf
      (λ _. cond_both (nat_lt s.round n) _ _ Acts (λ _. entered (s.round + 1) (exchange.gather n own s)) (λ _. decided s)) (λ _. tt)

  waits_ended : (k : ℕ) (s : Exchange) → Acts (exchange.end_waits n own k is_suspected s)
  waits_ended zero s = tt
  waits_ended (suc k) s = then_acts (exchange.end_wait n own is_suspected s) s _ (wait_ended s) (waits_ended k)

  exchange_begun : (x : StepInput) (s : Exchange) → Acts (exchange.begin n own x s)
  exchange_begun input.Start s = cond_both (nat_eq s.round 0) _ _ Acts (λ _. entered 1 s) (λ _. tt)
  exchange_begun x s = tt

  exchange_acts : (x : StepInput) (s : Exchange) → Acts (exchange.step_exchange n own is_suspected x s)
  exchange_acts x s = both IsOfAlgorithm (exchange.begin n own x s).actions _ (exchange_begun x s) (waits_ended (exchange.waits_left n own (exchange.begin n own x s).state) (exchange.begin n own x s).state)

-- the rotating coordinator
module _ (n own : ℕ) (is_suspected : ℕ → Bool) where
  left : (s : Coordinator) → Acts (rotating.leave n own s)
  left s = cond_both (nat_lt s.round greatest_round) _ _ Acts (λ _. (tt, (tt, tt))) (λ _. tt)

  replied : (ack : Bool) (s : Coordinator) → Acts (rotating.reply n own ack s)
  replied ack s = (tt, cond_both (is_own n own s.round) _ _ Acts (λ _. tt) (λ _. left s))

  tallied : (s : Coordinator) → ActsIf (rotating.tally n own s)
  tallied s = cond_both (nat_le (majority n) (count_to n (λ q. is_some (s.kept.replies s.round q)))) _ _ ActsIf
      (λ _. both IsOfAlgorithm _ (rotating.leave n own s).actions
      (cond_both (nat_le (majority n) (count_to n (λ q. unwrap_or (s.kept.replies s.round q) false))) (broadcast n s.round s.estimate.value) [] (AllByRecursion IsOfAlgorithm)
      (λ _. all_sent IsOfAlgorithm n (payload.Decide s.round s.estimate.value) (λ q. tt)) (λ _. tt))
      (left s)) (λ _. tt)

  awaited : (s : Coordinator) → ActsIf (rotating.await n own is_suspected s)
  awaited s = by_option ActsIf (s.kept.proposals s.round) _ _
      (cond_both (is_suspected (coordinator n s.round)) _ _ ActsIf (λ _. replied false s) (λ _. tt)) (λ value. replied true (rotating.adopt n own s value))

  collected : (s : Coordinator) → ActsIf (rotating.collect n own s)
  collected s = cond_both (nat_le (majority n) (count_to n (λ q. is_some (s.kept.estimates s.round q)))) _ _ ActsIf
      (λ _. by_option ActsIf (rotating.best_to n (s.kept.estimates s.round)) _ _ tt (λ best. all_sent IsOfAlgorithm n (payload.Proposal s.round best.value) (λ q. tt))) (λ _. tt)

  round_ended : (phase : Phase) (s : Coordinator) → ActsIf (rotating.end_wait n own is_suspected (record s { phase = phase }))
  round_ended Collect s = collected (record s { phase = Collect })
  round_ended Await s = awaited (record s { phase = Await })
  round_ended Tally s = tallied (record s { phase = Tally })
  round_ended phase s = tt

  rounds_ended : (k : ℕ) (s : Coordinator) → Acts (rotating.end_waits n own k is_suspected s)
  rounds_ended zero s = tt
  rounds_ended (suc k) s = then_acts (rotating.end_wait n own is_suspected s) s _ (round_ended s.phase s) (rounds_ended k)

  delivered : (round value : ℕ) (s : Coordinator) → Acts (rotating.deliver n own round value s)
  delivered round value s = cond_both (s.seen round) _ _ Acts (λ _. tt)
      (λ _. both IsOfAlgorithm _ _
      (cond_both (is_own n own round) [] (broadcast n round value) (AllByRecursion IsOfAlgorithm) (λ _. tt) (λ _. all_sent IsOfAlgorithm n (payload.Decide round value) (λ q. tt)))
      (cond_both (rotating.is_decided s.phase) [] (action.Note (note.Decided value) ∷ []) (AllByRecursion IsOfAlgorithm) (λ _. tt) (λ _. (tt, tt))))

  received : (sender : ℕ) (what : Payload) (s : Coordinator) → Acts (rotating.receive n own sender what s)
  received sender (payload.Decide round value) s = cond_both (nat_le 1 round && nat_le round greatest_round) _ _ Acts (λ _. delivered round value s) (λ _. tt)
  received sender what s = tt

  coordinator_begun : (x : StepInput) (s : Coordinator) → Acts (rotating.begin n own x s)
  coordinator_begun input.Start s = cond_both (rotating.is_opening s.phase) _ _ Acts (λ _. (tt, (tt, tt))) (λ _. tt)
  coordinator_begun (input.Letter sender what) s = cond_both (rotating.is_opening s.phase) _ _ Acts (λ _. tt) (λ _. cond_both (nat_le sender n) _ _ Acts (λ _. received sender what s) (λ _. tt))
  coordinator_begun x s = tt

  coordinator_acts : (x : StepInput) (s : Coordinator) → Acts (rotating.step_coordinator n own is_suspected x s)
  coordinator_acts x s = both IsOfAlgorithm (rotating.begin n own x s).actions _ (coordinator_begun x s) (rounds_ended (rotating.waits_left n own (rotating.begin n own x s).state) (rotating.begin n own x s).state)

pub algorithm_acts : (a : AlgorithmState) (x : StepInput) (suspects : Processes) → AllByRecursion IsOfAlgorithm (react_algorithm a x suspects).actions
unfolding react_algorithm
algorithm_acts Idle x suspects = tt
algorithm_acts (Exchanging its s) x suspects = exchange_acts its.processes its.own (set.contains suspects) x s
algorithm_acts (Coordinating its s) x suspects = coordinator_acts its.processes its.own (set.contains suspects) x s
