-- Consensus with a detector of class eventually-S, by rotating coordinators (Chandra and Toueg, Journal of the ACM
-- 43(2), 1996): what one input makes of it, and what it does. Decisions spread by diffusion, their reliable broadcast:
-- who receives one for the first time passes it on.
use Rattle.std.specs.Prelude.{ℕ, zero, suc, ◌+◌, ◌-◌, ◌*◌, Bool, true, false, not, ◌&&◌, nat_eq, nat_le, nat_lt, if◌then◌else◌, [], ◌∷◌, ◌++◌, Option, None, Some, is_some, unwrap_or, List, ◌/◌, ◌%◌}
use Rattle.process_api.specs.{Answer.{Answer, still, after, to_all}, Rows.{keep_one}}
use Rattle.process_api.specs.declared.{consensus.{Estimate.{Estimate}, Phase.{Phase, TheVariants.{Opening, Collect, Await, Tally, Decided, Ended}}}, message.{Payload.{Payload}, StepInput.{StepInput}}, action.Action.{Action}}
use Rattle.process_api.specs.declared.action.Action.TheVariants as action
use Rattle.process_api.specs.declared.action.Note.TheVariants as note
use Rattle.process_api.specs.declared.message.Payload.TheVariants as payload
use Rattle.process_api.specs.declared.message.StepInput.TheVariants as input

abbrev pub greatest_round : ℕ
greatest_round = 1_000_000_000_000

-- the coordinator of a round, of n processes
abbrev pub coordinator : ℕ → ℕ → ℕ
coordinator n round = round % n + 1

-- process own is the coordinator of a round
abbrev pub is_own : ℕ → ℕ → ℕ → Bool
is_own n own round = nat_eq (coordinator n round) own

-- more than half of n processes: (n + 1) / 2, rounded up
abbrev pub majority : ℕ → ℕ
majority n = (n + 2) / 2

-- how many of 1 to n are meant
abbrev pub count_to : ℕ → (ℕ → Bool) → ℕ
count_to zero which = 0
count_to (suc n) which = count_to n which + (if which (suc n) then 1 else 0)

-- the rounds whose decision was received: a decision is known by its round
abbrev pub Seen : Type 0
Seen = ℕ → Bool

abbrev pub none_seen : Seen
none_seen = λ r. false

-- a round joins
abbrev pub also_seen : Seen → ℕ → Seen
also_seen seen round = λ r. if nat_eq r round then true else seen r

-- to broadcast the decision of a round: a letter to all
abbrev pub broadcast : ℕ → ℕ → ℕ → List Action
broadcast n round value = to_all n (payload.Decide round value)

-- process own of n passes a decision on, unless the decision is its own: a round's decision comes from its coordinator
abbrev pub relay : (n own : ℕ) → ℕ → ℕ → List Action
relay n own round value = if is_own n own round then [] else broadcast n round value

-- of the estimates of 1 to n that with the largest stamp, of these the least sender's: a later one needs a larger stamp
abbrev pub better : Option Estimate → Option Estimate → Option Estimate
better (Some a) (Some b) = if nat_lt a.stamp b.stamp then Some b else Some a
better (Some a) None = Some a
better None b = b

abbrev pub best_to : ℕ → (ℕ → Option Estimate) → Option Estimate
best_to zero of_sender = None
best_to (suc n) of_sender = better (best_to n of_sender) (of_sender (suc n))

abbrev pub is_opening : Phase → Bool
is_opening Opening = true
is_opening _ = false

abbrev pub is_decided : Phase → Bool
is_decided Decided = true
is_decided _ = false

-- in a round, before a decision
abbrev pub is_running : Phase → Bool
is_running Collect = true
is_running Await = true
is_running Tally = true
is_running _ = false

-- first letters of rounds that aren't left, by round and sender; a proposal comes from its round's coordinator alone
pub record Kept : Type 0 where
  pub estimates : (round sender : ℕ) → Option Estimate
  pub proposals : (round : ℕ) → Option ℕ
  pub replies : (round sender : ℕ) → Option Bool

pub record Coordinator : Type 0 where
  pub round : ℕ
  pub phase : Phase
  pub estimate : Estimate
  pub kept : Kept
  -- the rounds whose decision was received
  pub seen : Seen

-- the opening state of a process with a proposal
abbrev pub opening_coordinator : ℕ → Coordinator
opening_coordinator proposal = record {
  round = 0;
  phase = Opening;
  estimate = record { value = proposal; stamp = 0 };
  kept = record { estimates = λ r q. None; proposals = λ r. None; replies = λ r q. None };
  seen = none_seen;
}

-- of two letters of one kind, round and sender the first counts
abbrev pub keep : {X : Type 0} → (ℕ → ℕ → Option X) → ℕ → ℕ → X → ℕ → ℕ → Option X
keep kept round sender x =
    λ r q. if nat_eq r round && nat_eq q sender then Some (unwrap_or (kept round sender) x) else kept r q

-- what is kept as a round is entered
abbrev pub from_round : ℕ → Kept → Kept
from_round round k = record {
  estimates = λ r q. if nat_lt r round then None else k.estimates r q;
  proposals = λ r. if nat_lt r round then None else k.proposals r;
  replies = λ r q. if nat_lt r round then None else k.replies r q;
}

-- process own of n
module _ (n own : ℕ) where
  abbrev pub enter : ℕ → Coordinator → Answer Coordinator
  enter round s = record {
    state = record s {
      round = round;
      phase = if is_own n own round then Collect else Await;
      kept = from_round round s.kept;
    };
    actions = action.Note (note.Round round)
        ∷ action.Send (coordinator n round) (payload.Estimate round s.estimate.value s.estimate.stamp) ∷ [];
  }

  -- the own round is left. Past the greatest there is no other
  abbrev pub leave : Coordinator → Answer Coordinator
  leave s = if nat_lt s.round greatest_round then enter (s.round + 1) s else still (record s { phase = Ended })

  -- a majority of estimates came: the best becomes the own, and it is proposed
  abbrev pub propose : Coordinator → Estimate → Answer Coordinator
  propose s best = record {
    state = record s { phase = Await; estimate = record { value = best.value; stamp = s.estimate.stamp } };
    actions = to_all n (payload.Proposal s.round best.value);
  }

  abbrev pub collect : Coordinator → Option (Answer Coordinator)
  collect s = if nat_le (majority n) (count_to n (λ q. is_some (s.kept.estimates s.round q)))
      then elim (best_to n (s.kept.estimates s.round)) [ None ↦ None | Some best ↦ Some (propose s best) ]
      else None

  -- the proposal is answered: the coordinator counts the replies, others leave the round
  abbrev pub reply : Bool → Coordinator → Answer Coordinator
  reply ack s = after (action.Send (coordinator n s.round) (payload.Reply s.round ack) ∷ [])
      (if is_own n own s.round then still (record s { phase = Tally }) else leave s)

  abbrev pub adopt : Coordinator → ℕ → Coordinator
  adopt s value = record s { estimate = record { value = value; stamp = s.round } }

  abbrev pub await : (ℕ → Bool) → Coordinator → Option (Answer Coordinator)
  await is_suspected s = elim (s.kept.proposals s.round) [
    | Some value ↦ Some (reply true (adopt s value))
    | None ↦ if is_suspected (coordinator n s.round) then Some (reply false s) else None
  ]

  -- a majority of replies came: where a majority of acks is among them, the decision is spread
  abbrev pub tally : Coordinator → Option (Answer Coordinator)
  tally s = if nat_le (majority n) (count_to n (λ q. is_some (s.kept.replies s.round q)))
      then Some
      (after
      (if nat_le (majority n) (count_to n (λ q. unwrap_or (s.kept.replies s.round q) false))
      then broadcast n s.round s.estimate.value
      else [])
      (leave s))
      else None

  -- the end of the wait, where it is over
  abbrev pub end_wait : (ℕ → Bool) → Coordinator → Option (Answer Coordinator)
  end_wait is_suspected s = elim s.phase [
    | Opening ↦ None
    | Collect ↦ collect s
    | Await ↦ await is_suspected s
    | Tally ↦ tally s
    | Decided ↦ None
    | Ended ↦ None
  ]

  -- how many waits can end from here on: three in each round
  abbrev pub waits_left : Coordinator → ℕ
  waits_left s = (greatest_round - s.round) * 3
      + elim s.phase [ Opening ↦ 0 | Collect ↦ 3 | Await ↦ 2 | Tally ↦ 1 | Decided ↦ 0 | Ended ↦ 0 ]

  -- at most so many waits end, each as soon as the one before has
  abbrev pub end_waits : ℕ → (ℕ → Bool) → Coordinator → Answer Coordinator
  end_waits zero is_suspected s = still s
  end_waits (suc k) is_suspected s = elim (end_wait is_suspected s) [
    | None ↦ still s
    | Some a ↦ after a.actions (end_waits k is_suspected a.state)
  ]

  -- waits end until none is over
  abbrev pub settle : (ℕ → Bool) → Answer Coordinator → Answer Coordinator
  settle is_suspected a = after a.actions (end_waits (waits_left a.state) is_suspected a.state)

  -- a letter of a round that the algorithm has, of the own round or, by another, of a later one
  abbrev pub is_timely : Coordinator → ℕ → ℕ → Bool
  is_timely s sender round = is_running s.phase && (nat_le s.round round && (nat_le round greatest_round
      && not (nat_eq sender own && nat_lt s.round round)))

  -- the own proposal does not count while estimates are still collected
  abbrev pub is_early : Coordinator → ℕ → Bool
  is_early s sender = nat_eq sender own && elim s.phase [
    | Opening ↦ false
    | Collect ↦ true
    | Await ↦ false
    | Tally ↦ false
    | Decided ↦ false
    | Ended ↦ false
  ]

  -- the decision of a round is received
  abbrev pub deliver : ℕ → ℕ → Coordinator → Answer Coordinator
  deliver round value s = if s.seen round
      then still s
      else record {
        state = record s { seen = also_seen s.seen round; phase = Decided };
        actions = relay n own round value ++ (if is_decided s.phase then [] else action.Note (note.Decided value) ∷ []);
      }

  -- a letter of one of the n processes
  abbrev pub receive : ℕ → Payload → Coordinator → Answer Coordinator
  receive sender payload.Alive s = still s
  receive sender (payload.Heartbeat number) s = still s
  receive sender (payload.Suspects shared) s = still s
  receive sender (payload.Vector round cells) s = still s
  receive sender (payload.Last cells) s = still s
  receive sender (payload.Estimate round value stamp) s = still (if is_timely s sender round && is_own n own round
      then record s {
        kept = record s.kept {
          estimates = keep s.kept.estimates round sender (record { value = value; stamp = stamp });
        };
      }
      else s)
  receive sender (payload.Proposal round value) s =
      still (if is_timely s sender round && (nat_eq sender (coordinator n round) && not (is_early s sender))
      then record s { kept = record s.kept { proposals = keep_one s.kept.proposals round value } }
      else s)
  receive sender (payload.Reply round ack) s = still (if is_timely s sender round && is_own n own round
      then record s { kept = record s.kept { replies = keep s.kept.replies round sender ack } }
      else s)
  receive sender (payload.Decide round value) s =
      if nat_le 1 round && nat_le round greatest_round then deliver round value s else still s

  -- what an input does before any wait ends
  abbrev pub begin : StepInput → Coordinator → Answer Coordinator
  begin input.Start s = if is_opening s.phase then enter 1 s else still s
  begin (input.Letter sender what) s =
      if is_opening s.phase then still s else (if nat_le sender n then receive sender what s else still s)
  begin (input.Wake tag) s = still s

  -- one input, with the suspects as they are by then
  abbrev pub step_coordinator : (ℕ → Bool) → StepInput → Coordinator → Answer Coordinator
  step_coordinator is_suspected x s = settle is_suspected (begin x s)
