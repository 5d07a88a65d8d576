-- In a trace each entry but the starts has one cause, and each event that is added is taken once.
use Rattle.trace_laws.proofs.{Words.{◌≡◌, sym, ap, subst, List, Less, EntryRecord, key_cmp, Key, StepInput, Setting, IsSound, IsIn, IsOnly, IsClosed}, Causes.{has_one_cause, one_cause, is_taken_once}, Steps.{in_images, of_images}}
use Rattle.trace_laws.proofs.Closed.{one_history, trace_is_closed}
use Rattle.trace_laws.specs.{World.{Pair, entries, IsTrace}, History.{IsHistoryOf, IsEffect, Causes, IsStartKey, HasCauses, TakesOnce}}

-- an entry is that of a pair
pair_of : (e : EntryRecord) (h : List Pair) → IsIn e (entries h) → (input : StepInput) × IsIn (e, input) h
pair_of e h i =
    let m = of_images (λ (s : Pair). s.0) e h i in
    (m.0.1, subst (λ c. IsIn (c, m.0.1) h) (sym m.2) m.1)

module _ {Mind : Type 0} (S : Setting Mind) (sound : IsSound S) where
  -- the history of a trace
  history_of : (trace : List EntryRecord) → IsTrace S trace → (history : List Pair) × IsHistoryOf S trace history
  history_of trace (h, last, run, is) =
      let closed = trace_is_closed S sound h last run in
      (h, ((closed, sym is), λ g other. one_history S sound h g closed other.0))

  module _ (history : List Pair) (closed : IsClosed S history) where
    abbrev IsCaused : (e : EntryRecord) (trace : List EntryRecord) → Type 0
    IsCaused e trace = (c : EntryRecord) × IsIn c trace × (key_cmp c.key e.key ≡ Less) × IsOnly (λ d. Causes S history d e.key) c

    caused : (e : EntryRecord) → IsIn e (entries history) → ¬ (IsStartKey S e.key) → IsCaused e (entries history)
    caused e there not_start =
        let at = pair_of e history there in
        let found = has_one_cause S sound history closed (e, at.0) at.1 (λ start. not_start (start.0, start.1)) in
        let c = found.0 in
        let is = found.3.0 in
        (c.0, in_images (λ (s : Pair). s.0) c history found.1, found.2, ((at.0, (c.1, is)), λ d other. ap (λ (z : Pair). z.0) (one_cause S sound history closed c (d, other.1.0) e.key at.0 other.0 is other.1.1)))

    abbrev IsTakenByOne : (key : Key) (input : StepInput) (trace : List EntryRecord) → Type 0
    IsTakenByOne key input trace = (e : EntryRecord) × IsIn (e, input) history × IsOnly (λ f. IsIn f trace × (f.key ≡ key)) e

    taken_by_one : (c : EntryRecord) (key : Key) (input : StepInput) → IsEffect S history c key input → IsTakenByOne key input (entries history)
    taken_by_one c key input (took, is) =
        let found = is_taken_once S sound history closed (c, took) key input is in
        let t = found.0 in
        let there = found.2.0 in
        (t.0, subst (λ i. IsIn (t.0, i) history) found.1 there.0, ((in_images (λ (s : Pair). s.0) t history there.0, there.1), λ f other. let at = pair_of f history other.0 in ap (λ (z : Pair). z.0) (found.2.1 (f, at.0) (at.1, other.1))))

  pub trace_has_causes : (trace : List EntryRecord) → IsTrace S trace → HasCauses S trace
  trace_has_causes trace is =
      let h = history_of trace is in
      (h.0, h.1, λ e there not_start. subst (IsCaused h.0 h.1.0.0 e) h.1.0.1 (caused h.0 h.1.0.0 e (subst (IsIn e) (sym h.1.0.1) there) not_start))

  pub trace_takes_once : (trace : List EntryRecord) → IsTrace S trace → TakesOnce S trace
  trace_takes_once trace is =
      let h = history_of trace is in
      (h.0, h.1, λ c key input effect. subst (IsTakenByOne h.0 h.1.0.0 key input) h.1.0.1 (taken_by_one h.0 h.1.0.0 c key input effect))
