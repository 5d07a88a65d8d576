-- A process's progress, its letters and proposals as the definition's state, and what its functions do.
use Rattle.std.specs.{Prelude.{◌≡◌, ◌++◌, ℕ, Bool, true, false, Option, None, Some, List, unwrap_or, if◌then◌else◌, [], ◌+◌, ◌<◌, nat_eq, ◌⊎◌, ◌*◌, ◌≤◌, length}, Ordering.{nat_cmp}}
use Rattle.std.specs.FinSet as set
use Rattle.std.specs.BTreeSet as tree_set
use Rattle.process_api.specs.{Answer.{Answer, still, after}, Coordinator.{count_to, is_own, Coordinator, opening_coordinator, step_coordinator, Seen, relay, best_to, end_wait, settle}, Mind.{AlgorithmState, Coordinating}, Sets.{Processes}}
use Rattle.process_api.specs.{Letters.{by_number}, declared.letters.Letters.{Letters}}
use Rattle.process_api.specs.declared.{action.Action.{Action}, consensus.{Phase.{Phase, TheVariants.{Opening, Collect, Await, Tally, Decided, Ended}}, Estimate.{Estimate}}, membership.Membership.{Membership}, message.StepInput.{StepInput}}
use Rattle.process_api.specs.Letters as kept
use Rattle.{scenario_record.specs.{Opening.{place_of}, declared.opening.Opening.{Opening as ProcessOpening}}, consensus_es.specs.declared.{progress.Progress.{Progress}, proposals.Proposals.{Proposals}, diffusion.Diffusion.{Diffusion}}}

abbrev pub seen_of : Diffusion → Seen
seen_of diffusion = λ round. tree_set.contains nat_cmp diffusion.rounds round

-- the letters by which a decision is passed on, where it comes for the first time
abbrev pub passed_on : Membership → Bool → ℕ → ℕ → List Action
passed_on m first round value = if first then relay m.processes m.own round value else []

abbrev pub by_sender : {X : Type 0} → Letters X → ℕ → ℕ → Option X
by_sender letters = kept.by_sender letters

abbrev pub of_round : Proposals → ℕ → Option ℕ
of_round proposals = by_number proposals.by_round

abbrev pub no_proposals : ℕ → Option ℕ
no_proposals = λ r. None

abbrev pub state_of : Progress → Coordinator
state_of s = record {
  round = s.round;
  phase = s.phase;
  estimate = s.estimate;
  kept = record { estimates = by_sender s.estimates; proposals = of_round s.proposals; replies = by_sender s.replies };
  seen = seen_of s.diffusion;
}

-- how the process of an opening begins, with its proposal
abbrev pub opening_algorithm : ProcessOpening → AlgorithmState
opening_algorithm o = Coordinating (place_of o) (opening_coordinator (unwrap_or o.proposal 0))

-- a process has come to what the definition answers, and has done what it does
pub record Does (after : Progress) (out out2 : List Action) (answer : Answer Coordinator) : Type 0 where
  pub state : state_of after ≡ answer.state
  pub actions : out2 ≡ out ++ answer.actions

-- what the definition makes of one input, with the suspects as they are by then
abbrev pub stepped : Membership → Progress → Processes → StepInput → Answer Coordinator
stepped m s suspects input = step_coordinator m.processes m.own (set.contains suspects) input (state_of s)

-- the end of a wait, if it is over
abbrev pub Ends : Bool → Progress → Progress → List Action → List Action → Option (Answer Coordinator) → Type 0
Ends over before after out out2 None = (over ≡ false) × Does after out out2 (still (state_of before))
Ends over before after out out2 (Some answer) = (over ≡ true) × Does after out out2 answer

abbrev pub is_collecting : Phase → Bool
is_collecting p =
    elim p [ Opening ↦ false | Collect ↦ true | Await ↦ false | Tally ↦ false | Decided ↦ false | Ended ↦ false ]

-- how many of 1 to n acknowledge
abbrev pub acks_of : ℕ → (ℕ → Option Bool) → ℕ
acks_of n replies = count_to n (λ q. unwrap_or (replies q) false)

-- ---- what holds of every state that a process comes to: why one input makes few actions

-- own proposals are kept only of rounds below this: while a coordinator collects estimates it has none
abbrev pub own_below : Phase → ℕ → ℕ
own_below Opening round = round + 1
own_below Collect round = round
own_below Await round = round + 1
own_below Tally round = round + 1
own_below Decided round = round + 1
own_below Ended round = round + 1

-- process own of n
module _ (n own : ℕ) where
  -- a process that opens is in no round, and only a round's coordinator collects estimates and replies
  abbrev pub is_in_place : Phase → ℕ → Bool
  is_in_place Opening round = nat_eq round 0
  is_in_place Collect round = is_own n own round
  is_in_place Await round = true
  is_in_place Tally round = is_own n own round
  is_in_place Decided round = true
  is_in_place Ended round = true

  pub record IsOrderly (s : Coordinator) : Type 0 where
    pub own_kept : (round value : ℕ) → s.kept.proposals round ≡ Some value → is_own n own round ≡ true
        → round < own_below s.phase s.round
    pub in_place : is_in_place s.phase s.round ≡ true

-- ---- waits end as long as one can, one input makes few actions and leaves few rounds, and the best estimate is chosen

-- after an input no wait is over
abbrev pub SettlesAlways : Type 0
SettlesAlways = (n own : ℕ) (is_suspected : ℕ → Bool) (input : StepInput) (s : Coordinator)
    → end_wait n own is_suspected (step_coordinator n own is_suspected input s).state ≡ None

-- where a wait is over, its end comes first and then what waits after it; where none is, nothing is done
abbrev pub SettlesByEnds : Type 0
SettlesByEnds = (n own : ℕ) (is_suspected : ℕ → Bool) (s : Coordinator)
    → ((a : Answer Coordinator) → end_wait n own is_suspected s ≡ Some a
    → settle n own is_suspected (still s) ≡ after a.actions (settle n own is_suspected (still a.state)))
    × (end_wait n own is_suspected s ≡ None → settle n own is_suspected (still s) ≡ still s)

abbrev pub OpensOrderly : Type 0
OpensOrderly = (n own proposal : ℕ) → IsOrderly n own (opening_coordinator proposal)

-- an orderly process stays so, and one input makes few actions
abbrev pub ActsLittle : Type 0
ActsLittle = (n own : ℕ) → 1 ≤ own → own ≤ n → (is_suspected : ℕ → Bool) → is_suspected own ≡ false
    → (input : StepInput) (s : Coordinator) → IsOrderly n own s
    → IsOrderly n own (step_coordinator n own is_suspected input s).state
    × (length (step_coordinator n own is_suspected input s).actions ≤ 6 * n + 3)

-- an orderly process leaves at most n rounds in one input
abbrev pub LeavesFewRounds : Type 0
LeavesFewRounds = (n own : ℕ) → 1 ≤ own → own ≤ n → (is_suspected : ℕ → Bool) → is_suspected own ≡ false
    → (input : StepInput) (s : Coordinator) → IsOrderly n own s
    → (step_coordinator n own is_suspected input s).state.round ≤ s.round + n

-- estimate d of process p is behind estimate e of q: its stamp is smaller, or the same and its sender no less
abbrev pub IsBehind : Estimate → ℕ → ℕ → Estimate → Type 0
IsBehind e q p d = (d.stamp < e.stamp) ⊎ ((d.stamp ≡ e.stamp) × (q ≤ p))

-- of the estimates of 1 to n, e has the largest stamp, and of these the least sender
abbrev pub IsBest : ℕ → (ℕ → Option Estimate) → Estimate → Type 0
IsBest n of_sender e = (q : ℕ) × (1 ≤ q) × (q ≤ n) × (of_sender q ≡ Some e)
    × ((p : ℕ) → 1 ≤ p → p ≤ n → (d : Estimate) → of_sender p ≡ Some d → IsBehind e q p d)

-- every estimate that is chosen is the best
abbrev pub ChoosesBest : Type 0
ChoosesBest = (n : ℕ) (of_sender : ℕ → Option Estimate) (e : Estimate)
    → best_to n of_sender ≡ Some e → IsBest n of_sender e
