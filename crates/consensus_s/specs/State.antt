-- The state of the exchange that the code holds. Kept letters as a function of round and sender.
use Rattle.std.specs.Prelude.{◌≡◌, ℕ, ◌<◌, Bool, None, Some, false, not, is_some, Option}
use Rattle.std.specs.FinSet as set
use Rattle.process_api.specs.{Answer.{Answer, still}, ConsensusS.{Exchange, end_wait, step_exchange, Kept, any_to, first_to, settle}, Sets.{Processes}, Rows.{Vector, cell}, Letters.{by_sender}}
use Rattle.{process_api.specs.declared.{message.StepInput.{StepInput}, letters.Letters.{Letters}}, scenario_record.specs.declared.opening.Opening.{Opening}, consensus_s.specs.declared.exchange.Exchange.{Exchange as Held}}

abbrev pub kept_of : Letters Vector → Kept
kept_of letters = by_sender letters

-- what the letters of a round tell of cell k
abbrev pub told_in : ℕ → Kept → ℕ → ℕ → Option ℕ
told_in n kept round k = first_to n (λ q. elim (kept round q) [ None ↦ None | Some cells ↦ cell cells k ])

-- cell k is empty in some letter of a round
abbrev pub missed_in : ℕ → Kept → ℕ → ℕ → Bool
missed_in n kept round k =
    any_to n (λ q. elim (kept round q) [ None ↦ false | Some cells ↦ not (is_some (cell cells k)) ])

abbrev pub exchange_of : Held → Exchange
exchange_of e = record { round = e.round; known = e.known; news = e.news; kept = kept_of e.letters }

-- the wait ends, if it is over
abbrev pub end_one : (n own : ℕ) → (ℕ → Bool) → Exchange → Answer Exchange
end_one n own is_suspected s = elim (end_wait n own is_suspected s) [ None ↦ still s | Some a ↦ a ]

-- what the process of an opening makes of its wait, and of an input, with the suspects as they are by then
abbrev pub ended : Opening → Processes → Held → Answer Exchange
ended o suspects e = end_one o.processes o.own (set.contains suspects) (exchange_of e)

abbrev pub stepped : Opening → Processes → StepInput → Held → Answer Exchange
stepped o suspects input e = step_exchange o.processes o.own (set.contains suspects) input (exchange_of e)

-- an own letter is kept of no later round
abbrev pub IsOrderly : ℕ → Exchange → Type 0
IsOrderly own s = (r : ℕ) → s.round < r → s.kept r own ≡ None

-- after an input no wait is over
abbrev pub SettlesAlways : Type 0
SettlesAlways = (n own : ℕ) (is_suspected : ℕ → Bool) (input : StepInput) (s : Exchange)
    → end_wait n own is_suspected (step_exchange n own is_suspected input s).state ≡ None

-- where no wait is over, nothing is done
abbrev pub RestsSettled : Type 0
RestsSettled = (n own : ℕ) (is_suspected : ℕ → Bool) (s : Exchange)
    → end_wait n own is_suspected s ≡ None → settle n own is_suspected (still s) ≡ still s
