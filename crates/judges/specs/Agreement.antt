-- What a run of the rotating coordinator promises under every scenario: agreement, validity and integrity, the safety
-- half of the consensus of Chandra and Toueg (Journal of the ACM 43(2), 1996).
use Rattle.std.specs.Prelude.{◌≡◌, ◌≢◌, ◌⊎◌, ℕ, List, [], ◌∷◌, Some, filter}
use Rattle.{process_api.specs.{Order.{EntryRecord}, declared.action.Note.{Note, TheVariants.{Decided}}}, scenario_record.specs.{Record.{Record, proposal}, declared.algorithm.AlgorithmKind.TheVariants.{EventuallyStrong}}}
use Rattle.{trace_laws.specs.{History.{IsIn}, Setting.{setting_of}, World.{IsTrace}}, judges.specs.{Verdicts.{IsProcess}, Outcomes.{notes_of, is_answer, outcomes}, declared.outcomes.{Answer.TheVariants.{Value, NoValue}, Outcome.{Outcome}}}}

-- the Decided and NoValue notes of process p, each with its tick, in order
abbrev pub answers_of : List EntryRecord → (p : ℕ) → List (ℕ × Note)
answers_of trace p = filter (λ n. is_answer n.1) (notes_of trace p)

-- it has none, or one alone, which is a decision
abbrev pub DecidesOnce : List EntryRecord → (p : ℕ) → Type 0
DecidesOnce trace p = (answers_of trace p ≡ []) ⊎ ((tick value : ℕ) × (answers_of trace p ≡ (tick, Decided value) ∷ []))

module _ (s : Record) where
  pub record Agree (outcomes : List Outcome) : Type 0 where
    -- two outcomes with a value have the same value
    pub one_value : (a b : Outcome) → IsIn a outcomes → IsIn b outcomes
        → (v w : ℕ) → a.value ≡ Value v → b.value ≡ Value w → v ≡ w
    -- each value is what some process proposed
    pub proposed : (a : Outcome) → IsIn a outcomes → (v : ℕ) → a.value ≡ Value v
        → (q : ℕ) × IsProcess s q × (proposal s q ≡ Some v)
    -- nobody ends with no value
    pub valued : (a : Outcome) → IsIn a outcomes → a.value ≢ NoValue

  -- and so for a trace: the outcomes of processes 1 to n agree, and whoever decides does so once
  pub record Agrees (trace : List EntryRecord) : Type 0 where
    pub agree : Agree (outcomes trace s.processes)
    pub once : (p : ℕ) → DecidesOnce trace p

-- the one trace of a scenario whose algorithm is the rotating coordinator, whatever its detector, links and crashes
abbrev pub IsCoordinated : Record → List EntryRecord → Type 0
IsCoordinated s trace = (s.algorithm ≡ EventuallyStrong) × IsTrace (setting_of s) trace
