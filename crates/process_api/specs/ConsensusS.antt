-- Consensus with a detector of class S, by an exchange of vectors (Chandra and Toueg, Journal of the ACM 43(2), 1996):
-- what one input makes of it, and what it does.
use Rattle.std.specs.Prelude.{ℕ, zero, suc, ◌+◌, ◌-◌, Bool, true, false, not, ◌&&◌, ◌||◌, nat_eq, nat_le, nat_lt, if◌then◌else◌, [], ◌∷◌, map, length, Option, None, Some, is_some, unwrap_or}
use Rattle.process_api.specs.{Place.{numbers_to}, Rows.{Vector, cell}, Answer.{Answer, still, after, to_all}, declared.message.{Payload.{Payload}, StepInput.{StepInput}}}
use Rattle.process_api.specs.declared.action.Action.TheVariants as action
use Rattle.process_api.specs.declared.action.Note.TheVariants as note
use Rattle.process_api.specs.declared.message.Payload.TheVariants as payload
use Rattle.process_api.specs.declared.message.StepInput.TheVariants as input

-- whether all of 1 to n are meant, and whether any is
abbrev pub all_to : ℕ → (ℕ → Bool) → Bool
all_to zero which = true
all_to (suc n) which = all_to n which && which (suc n)

abbrev pub any_to : ℕ → (ℕ → Bool) → Bool
any_to zero which = false
any_to (suc n) which = any_to n which || which (suc n)

-- a value, or another where there is none
abbrev pub or_else : {X : Type 0} → Option X → Option X → Option X
or_else (Some x) other = Some x
or_else None other = other

-- the value of the least of 1 to n that has one
abbrev pub first_to : {X : Type 0} → ℕ → (ℕ → Option X) → Option X
first_to zero value_of = None
first_to (suc n) value_of = or_else (first_to n value_of) (value_of (suc n))

-- the vector of n such cells
abbrev pub cells_of : ℕ → (ℕ → Option ℕ) → Vector
cells_of n value_of = map value_of (numbers_to n)

-- the first letters by round and sender. The last vectors are those of round n
abbrev pub Kept : Type 0
Kept = (round sender : ℕ) → Option Vector

pub record Exchange : Type 0 where
  -- 0 before its Start, n + 1 after its decision
  pub round : ℕ
  -- the proposals that it knows
  pub known : Vector
  -- of these the ones that the round before brought
  pub news : Vector
  -- the first letters of the rounds that are not yet left
  pub kept : Kept

-- of two letters of one round and sender the first counts
abbrev pub keep : Kept → ℕ → ℕ → Vector → Kept
keep kept round sender cells =
    λ r q. if nat_eq r round && nat_eq q sender then Some (unwrap_or (kept round sender) cells) else kept r q

-- what is kept as a round is left
abbrev pub above : ℕ → Kept → Kept
above round kept = λ r q. if nat_le r round then None else kept r q

-- process own of n
module _ (n own : ℕ) where
  -- the opening state of a process with a proposal
  abbrev pub opening_exchange : ℕ → Exchange
  opening_exchange proposal = let cells = cells_of n (λ k. if nat_eq k own then Some proposal else None) in
      record { round = 0; known = cells; news = cells; kept = λ r q. None }

  -- a round begins: what is new goes to all, and in round n all that is known
  abbrev pub enter : ℕ → Exchange → Answer Exchange
  enter round s = record {
    state = record s { round = round };
    actions = action.Note (note.Round round)
        ∷ to_all n (if nat_lt round n then payload.Vector round s.news else payload.Last s.known);
  }

  -- in a round: after the Start, before the decision
  abbrev pub is_running : Exchange → Bool
  is_running s = nat_le 1 s.round && nat_le s.round n

  -- each process was heard of in this round, or is suspected
  abbrev pub is_over : (ℕ → Bool) → Exchange → Bool
  is_over is_suspected s = all_to n (λ q. is_some (s.kept s.round q) || is_suspected q)

  -- what the round's letters tell of cell k: the value of the least sender that has one
  abbrev pub told : Exchange → ℕ → Option ℕ
  told s k = first_to n (λ q. elim (s.kept s.round q) [ None ↦ None | Some cells ↦ cell cells k ])

  -- each empty cell takes what the letters tell, and only that is new
  abbrev pub gather : Exchange → Exchange
  gather s = record {
    round = s.round;
    known = cells_of n (λ k. or_else (cell s.known k) (told s k));
    news = cells_of n (λ k. if is_some (cell s.known k) then None else told s k);
    kept = above s.round s.kept;
  }

  -- cell k is empty in some letter of the round
  abbrev pub is_missed : Exchange → ℕ → Bool
  is_missed s k = any_to n (λ q. elim (s.kept s.round q) [ None ↦ false | Some cells ↦ not (is_some (cell cells k)) ])

  -- what all that were heard of know
  abbrev pub common : Exchange → Vector
  common s = cells_of n (λ k. if is_missed s k then None else cell s.known k)

  -- the first value of these, if any, is the decision
  abbrev pub decide : Exchange → Answer Exchange
  decide s = record {
    state = record s { round = n + 1; known = common s; kept = above s.round s.kept };
    actions = action.Note (elim (first_to n (cell (common s))) [
      | None ↦ note.NoValue
      | Some value ↦ note.Decided value
    ]) ∷ [];
  }

  -- the end of the wait, where it is over
  abbrev pub end_wait : (ℕ → Bool) → Exchange → Option (Answer Exchange)
  end_wait is_suspected s = if is_running s && is_over is_suspected s
      then Some (if nat_lt s.round n then enter (s.round + 1) (gather s) else decide s)
      else None

  -- at most so many waits end, each as soon as the one before has
  abbrev pub end_waits : ℕ → (ℕ → Bool) → Exchange → Answer Exchange
  end_waits zero is_suspected s = still s
  end_waits (suc k) is_suspected s = elim (end_wait is_suspected s) [
    | None ↦ still s
    | Some a ↦ after a.actions (end_waits k is_suspected a.state)
  ]

  -- how many waits can end from here on: one in each round
  abbrev pub waits_left : Exchange → ℕ
  waits_left s = n + 1 - s.round

  -- waits end until none is over
  abbrev pub settle : (ℕ → Bool) → Answer Exchange → Answer Exchange
  settle is_suspected a = after a.actions (end_waits (waits_left a.state) is_suspected a.state)

  -- a letter of one of the n processes, of n cells, of the own round or, by another, of a later one
  abbrev pub is_timely : Exchange → ℕ → ℕ → Vector → Bool
  is_timely s sender round cells = is_running s && (nat_le sender n && (nat_eq (length cells) n
      && (nat_le s.round round && not (nat_eq sender own && nat_lt s.round round))))

  abbrev pub receive_cells : ℕ → ℕ → Vector → Exchange → Exchange
  receive_cells sender round cells s =
      if is_timely s sender round cells then record s { kept = keep s.kept round sender cells } else s

  abbrev pub receive : ℕ → Payload → Exchange → Exchange
  receive sender (payload.Vector round cells) s =
      if nat_le 1 round && nat_lt round n then receive_cells sender round cells s else s
  receive sender (payload.Last cells) s = receive_cells sender n cells s
  receive sender _ s = s

  -- what an input does before any wait ends
  abbrev pub begin : StepInput → Exchange → Answer Exchange
  begin input.Start s = if nat_eq s.round 0 then enter 1 s else still s
  begin (input.Letter sender what) s = still (receive sender what s)
  begin (input.Wake tag) s = still s

  -- one input, with the suspects as they are by then
  abbrev pub step_exchange : (ℕ → Bool) → StepInput → Exchange → Answer Exchange
  step_exchange is_suspected x s = settle is_suspected (begin x s)
