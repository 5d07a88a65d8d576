-- The number of waits that may end is enough: after an input no wait is over.
use Rattle.consensus_es.proofs.Words.{◌≡◌, ℕ, ◌+◌, ◌-◌, ◌*◌, ◌<◌, ◌≤◌, refl, Bool, true, false, cond, arith, Option, None, Some, IfSome, ltb-true, Estimate, Phase, Collect, Await, Tally, Coordinator, enter, leave, reply, end_wait, waits_left, end_waits, settle, begin, step_coordinator, Answer, after, still, is_own, greatest_round, StepInput}
use Rattle.consensus_es.proofs.Cases.{by_leave, by_reply, by_collect, by_await, by_tally}
use Rattle.process_api.proofs.Waits as waits

module _ (n own : ℕ) (is_suspected : ℕ → Bool) where
  -- fewer than so many can end
  abbrev pub Fewer : ℕ → Answer Coordinator → Type 0
  Fewer k a = waits_left n own a.state < k

  left_fewer : (s : Coordinator) (k : ℕ) → (greatest_round - s.round) * 3 + 1 ≤ k → Fewer k (leave n own s)
  left_fewer s k some = by_leave n own s (Fewer k) (λ low. entered (is_own n own (s.round + 1)) (ltb-true _ _ low)) (omega arith)
    where
      entered : (b : Bool) → s.round < greatest_round → waits_left n own (record (enter n own (s.round + 1) s).state { phase = cond b Collect Await }) < k
      entered true low = omega arith
      entered false low = omega arith

  -- a process in another phase
  module _ (s : Coordinator) where
    abbrev at : Phase → Coordinator
    at phase = record s { phase = phase }

    abbrev AreFewer : Phase → Option (Answer Coordinator) → Type 0
    AreFewer phase o = IfSome o (Fewer (waits_left n own (at phase)))

    replied : (ack : Bool) (d : Estimate) → Fewer (waits_left n own (at Await)) (reply n own ack (record (at Await) { estimate = d }))
    replied ack d = by_reply n own (record (at Await) { estimate = d }) ack (Fewer (waits_left n own (at Await))) (λ _. omega arith) (λ _. left_fewer (record (at Await) { estimate = d }) _ (omega arith))

    by_phase : (phase : Phase) → AreFewer phase (end_wait n own is_suspected (at phase))
    by_phase Collect = by_collect n own (at Collect) (AreFewer Collect) tt (λ best. omega arith)
    by_phase Await = by_await n own (at Await) is_suspected (AreFewer Await) tt (λ v _. replied true (record { value = v; stamp = s.round })) (λ _. replied false s.estimate)
    by_phase Tally = by_tally n own (at Tally) (AreFewer Tally) tt (λ b. left_fewer (at Tally) _ (omega arith))
    by_phase _ = tt

  -- after the end of a wait fewer can end
  pub wait_fewer : (s : Coordinator) → IfSome (end_wait n own is_suspected s) (Fewer (waits_left n own s))
  wait_fewer s = by_phase s s.phase

  abbrev at_most : ℕ → Coordinator → Answer Coordinator
  at_most k s = end_waits n own k is_suspected s

  -- after an input no wait is over
  pub settled : (x : StepInput) (s : Coordinator) → end_wait n own is_suspected (step_coordinator n own is_suspected x s).state ≡ None
  settled x s = waits.over (end_wait n own is_suspected) at_most (λ s. refl) (λ k s. refl) (waits_left n own) wait_fewer (waits_left n own (begin n own x s).state) (begin n own x s).state (omega arith)

  -- where a wait is over its end comes first, and then the waits of the state after it
  pub settles_on : (s : Coordinator) (a : Answer Coordinator) → end_wait n own is_suspected s ≡ Some a
      → settle n own is_suspected (still s) ≡ after a.actions (settle n own is_suspected (still a.state))
  settles_on = waits.settles_on (end_wait n own is_suspected) at_most (λ s. refl) (λ k s. refl) (waits_left n own) wait_fewer

  -- where none is over nothing is done
  pub settles_here : (s : Coordinator) → end_wait n own is_suspected s ≡ None → settle n own is_suspected (still s) ≡ still s
  settles_here s = waits.stops (end_wait n own is_suspected) at_most (λ s. refl) (λ k s. refl) (waits_left n own s) s
