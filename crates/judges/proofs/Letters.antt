-- Where letters come from: each that is on its way was sent, and none is at first.
use Rattle.judges.proofs.Words.{◌≡◌, ℕ, zero, suc, inl, inr, sym, ap, ◌∙◌, nat_lt, ◌==◌, [], ◌∷◌, List, cond_both, Key, Payload, StepInput, Action, Setting, Event, in_time, by_fate, counted, joining, added, Has, starts, start_of, IsIn, in_append, key_cmp}
use Rattle.process_api.specs.declared.message.StepInput.TheVariants as input
use Rattle.process_api.specs.declared.action.Action.TheVariants as action
use Rattle.streams.specs.declared.fate.Fate.{Fate}
use Rattle.streams.specs.declared.fate.Fate.TheVariants as fate
use Rattle.std.specs.FinMap as finmap
use Rattle.trace_laws.proofs.Sets.{inserted, not_None}

module _ {Mind : Type 0} (S : Setting Mind) where
  in_time_input : (key : Key) (x : StepInput) (e : Event) → IsIn e (in_time S.horizon key x) → e.1 ≡ x
  in_time_input key x e h = cond_both (nat_lt key.tick S.horizon) ((key, x) ∷ []) [] (λ es. IsIn e es → e.1 ≡ x)
      (λ _ i. elim i [ inl same ↦ ap (λ (z : Event). z.1) same | inr none ↦ absurd none ]) (λ _ none. absurd none) h

  by_fate_input : (f : Fate) (key : Key) (x : StepInput) (e : Event) → IsIn e (by_fate S.horizon f key x) → e.1 ≡ x
  by_fate_input fate.Lost key x e none = absurd none
  by_fate_input (fate.Delay ticks) key x e h = in_time_input _ x e h

  module _ (p now : ℕ) where
    -- a letter that joins is one that the actions send
    joining_letter : (counts : ℕ → ℕ) (a : Action) (key : Key) (q : ℕ) (y : Payload) → IsIn (key, input.Letter q y) (joining S p now counts a) → (q ≡ p) × (to : ℕ) × (action.Send to y ≡ a)
    joining_letter counts (action.Send to what) key q y h =
        let e : input.Letter q y ≡ input.Letter p what = cond_both (to == p) _ _ (λ es. IsIn (key, input.Letter q y) es → input.Letter q y ≡ input.Letter p what)
        (λ _ i. in_time_input _ (input.Letter p what) (key, input.Letter q y) i) (λ _ i. by_fate_input _ _ (input.Letter p what) (key, input.Letter q y) i) h in
        (cc, to, cc)
    joining_letter counts (action.Wake pause tag) key q y h = absurd (cc (in_time_input _ (input.Wake tag) (key, input.Letter q y) h))
    joining_letter counts (action.Note x) key q y h = absurd h

    pub added_letter : (counts : ℕ → ℕ) (actions : List Action) (key : Key) (q : ℕ) (y : Payload) → IsIn (key, input.Letter q y) (added S p now counts actions) → (q ≡ p) × (to : ℕ) × IsIn (action.Send to y) actions
    added_letter counts [] key q y h = absurd h
    added_letter counts (a ∷ actions) key q y h =
        elim (in_append (key, input.Letter q y) (joining S p now counts a) (added S p now (counted p counts a) actions) h) [
          | inl i ↦ let j = joining_letter counts a key q y i in (j.0, j.1, inl j.2)
          | inr i ↦ let r = added_letter (counted p counts a) actions key q y i in (r.0, r.1, inr r.2)
        ]

-- at first there are Starts alone
first_inputs : (n : ℕ) (key : Key) (x : StepInput) → Has (starts n) key x → x ≡ input.Start
first_inputs zero key x h = absurd (not_None x (sym (finmap.get-empty key_cmp key) ∙ h))
first_inputs (suc n) key x h = elim (inserted (starts n) (start_of (suc n)) input.Start key x h) [ inl e ↦ e.1 | inr old ↦ first_inputs n key x old.1 ]

pub no_letter_first : (n : ℕ) (key : Key) (q : ℕ) (y : Payload) → Has (starts n) key (input.Letter q y) → ⊥
no_letter_first n key q y h = cc (first_inputs n key (input.Letter q y) h)
