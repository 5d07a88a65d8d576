-- The outcomes after one more entry.
use Rattle.judges.proofs.Words.{arith, ◌≡◌, ℕ, max, true, false, cond, refl, sym, ap, ◌∙◌, eqb, Option, None, Some, List, [], ◌∷◌, ◌++◌, append_assoc, append-nil, zero, suc, ◌-◌, ◌<◌, inl, inr, map, length, get_or, set, length-append, fold_push, cond_both, eq-eqb, ne_eqb, cases_eq, cases_lt, same_Some, Round, Decided, NoValue, EntryRecord, Outcome, length-map, map-append, get_or-set_same, get_or-set_other, length-set, get_or_append_left, get_or-append_right, same_lists, numbers_to}
use Rattle.process_api.specs.declared.action.Note.{Note}
use Rattle.judges.specs.{Outcomes.{timed, notes_of, is_answer, answer_of, round_of, first_answer, value_of, tick_of, greatest_round, outcome_of, outcome, outcomes}, Inside.Noting.{answered, noted, all_noted}}

notes_of-push : (trace : List EntryRecord) (entry : EntryRecord) (p : ℕ) → notes_of (trace ++ entry ∷ []) p ≡ notes_of trace p ++ cond (eqb entry.key.receiver p) (timed entry.key.tick entry.notes) []
notes_of-push [] entry p = elim (eqb entry.key.receiver p) as (λ b. cond b (timed entry.key.tick entry.notes ++ []) [] ≡ cond b (timed entry.key.tick entry.notes) []) [ true ↦ append-nil _ | false ↦ refl ]
notes_of-push (first ∷ trace) entry p =
    let more = cond (eqb entry.key.receiver p) (timed entry.key.tick entry.notes) [] in
    elim (eqb first.key.receiver p) as (λ b. cond b (timed first.key.tick first.notes ++ notes_of (trace ++ entry ∷ []) p) (notes_of (trace ++ entry ∷ []) p)
    ≡ cond b (timed first.key.tick first.notes ++ notes_of trace p) (notes_of trace p) ++ more) [
      | true ↦ ap (λ ns. timed first.key.tick first.notes ++ ns) (notes_of-push trace entry p) ∙ sym (append_assoc (timed first.key.tick first.notes) (notes_of trace p) more)
      | false ↦ notes_of-push trace entry p
    ]

-- the first answer among notes and one more
abbrev or_this : Option (ℕ × Note) → (ℕ × Note) → Option (ℕ × Note)
or_this None n = cond (is_answer n.1) (Some n) None
or_this (Some m) n = Some m

first_answer-push : (ns : List (ℕ × Note)) (n : ℕ × Note) → first_answer (ns ++ n ∷ []) ≡ or_this (first_answer ns) n
first_answer-push [] n = refl
first_answer-push (m ∷ ns) n =
    elim (is_answer m.1) as (λ b. cond b (Some m) (first_answer (ns ++ n ∷ [])) ≡ or_this (cond b (Some m) (first_answer ns)) n) [ true ↦ refl | false ↦ first_answer-push ns n ]

first_is_answer : (ns : List (ℕ × Note)) (m : ℕ × Note) → first_answer ns ≡ Some m → is_answer m.1 ≡ true
first_is_answer [] m e = absurd (cc)
first_is_answer (n ∷ ns) m e =
    cond_both (is_answer n.1) (Some n) (first_answer ns) (λ o. o ≡ Some m → is_answer m.1 ≡ true)
    (λ is same. ap (λ (x : ℕ × Note). is_answer x.1) (sym (same_Some n m same)) ∙ is) (λ _. first_is_answer ns m) e

module _ (p g t : ℕ) where
  abbrev shown : Option (ℕ × Note) → ℕ → Outcome
  shown o rounds = record { pid = p; value = value_of o; tick = tick_of o; rounds = rounds }

  kept : (o : Option (ℕ × Note)) → shown o (max g 0) ≡ shown o g
  kept o = ap (shown o) (let e : max g 0 ≡ g = omega arith in e)

  -- an answer stays as another comes
  stays : (tick : ℕ) (first later : Note) → is_answer first ≡ true → shown (Some (tick, first)) g ≡ answered (shown (Some (tick, first)) g) (answer_of first) t later
  stays tick (Decided w) later e = refl
  stays tick NoValue later e = refl
  stays tick first later e = absurd (cc)

  one_more : (o : Option (ℕ × Note)) → ((m : ℕ × Note) → o ≡ Some m → is_answer m.1 ≡ true) → (note : Note) → shown (or_this o (t, note)) (max g (round_of note)) ≡ noted (shown o g) t note
  one_more None h (Round r) = refl
  one_more None h (Decided v) = kept (Some (t, Decided v))
  one_more None h NoValue = kept (Some (t, NoValue))
  one_more None h note = kept None
  one_more (Some m) h (Round r) = refl
  one_more (Some m) h (Decided v) = kept (Some m) ∙ stays m.0 m.1 (Decided v) (h m refl)
  one_more (Some m) h NoValue = kept (Some m) ∙ stays m.0 m.1 NoValue (h m refl)
  one_more (Some m) h note = kept (Some m)

outcome_of-push : (p : ℕ) (ns : List (ℕ × Note)) (t : ℕ) (note : Note) → outcome_of p (ns ++ (t, note) ∷ []) ≡ noted (outcome_of p ns) t note
outcome_of-push p ns t note =
    (λ i. record {
      pid = p;
      value = value_of (first_answer-push ns (t, note) i);
      tick = tick_of (first_answer-push ns (t, note) i);
      rounds = fold_push (λ greatest (n : ℕ × Note). max greatest (round_of n.1)) 0 ns (t, note) i;
    })
    ∙ one_more p (greatest_round ns) t (first_answer ns) (first_is_answer ns) note

outcome_of-append : (p : ℕ) (ns : List (ℕ × Note)) (t : ℕ) (notes : List Note) → outcome_of p (ns ++ timed t notes) ≡ all_noted (outcome_of p ns) t notes
outcome_of-append p ns t [] = ap (outcome_of p) (append-nil ns)
outcome_of-append p ns t (note ∷ notes) =
    ap (outcome_of p) (sym (append_assoc ns ((t, note) ∷ []) (timed t notes)))
    ∙ outcome_of-append p (ns ++ (t, note) ∷ []) t notes
    ∙ ap (λ o. all_noted o t notes) (outcome_of-push p ns t note)

pub outcome-own : (trace : List EntryRecord) (entry : EntryRecord) (p : ℕ) → entry.key.receiver ≡ p → outcome (trace ++ entry ∷ []) p ≡ all_noted (outcome trace p) entry.key.tick entry.notes
outcome-own trace entry p own =
    ap (outcome_of p) (notes_of-push trace entry p ∙ ap (λ b. notes_of trace p ++ cond b (timed entry.key.tick entry.notes) []) (eq-eqb _ _ own))
    ∙ outcome_of-append p (notes_of trace p) entry.key.tick entry.notes

pub outcome-other : (trace : List EntryRecord) (entry : EntryRecord) (p : ℕ) → (entry.key.receiver ≡ p → ⊥) → outcome (trace ++ entry ∷ []) p ≡ outcome trace p
outcome-other trace entry p other =
    ap (outcome_of p) (notes_of-push trace entry p ∙ ap (λ b. notes_of trace p ++ cond b (timed entry.key.tick entry.notes) []) (ne_eqb _ _ other) ∙ append-nil (notes_of trace p))

-- ---- of all processes

length-numbers_to : (n : ℕ) → length (numbers_to n) ≡ n
length-numbers_to zero = refl
length-numbers_to (suc n) = length-append (numbers_to n) (suc n ∷ []) ∙ omega (arith, length-numbers_to n)

-- what a function of the numbers has at a place
number_at : {X : Type 0} (f : ℕ → X) (n k : ℕ) (d : X) → k < n → get_or (map f (numbers_to n)) k d ≡ f (suc k)
number_at f zero k d l = absurd (omega arith)
number_at f (suc n) k d l =
    ap (λ xs. get_or xs k d) (map-append f (numbers_to n) (suc n ∷ []))
    ∙ elim (cases_lt k n) [
      | inl p ↦ get_or_append_left (map f (numbers_to n)) (f (suc n) ∷ []) d k (omega (arith, length-map (numbers_to n) f, length-numbers_to n)) ∙ number_at f n k d p
      | inr p ↦
          get_or-append_right (map f (numbers_to n)) (f (suc n) ∷ []) n k d (length-map (numbers_to n) f ∙ length-numbers_to n) p
          ∙ ap (λ i. get_or (f (suc n) ∷ []) i d) (let e : k - n ≡ 0 = omega arith in e) ∙ ap (λ i. f (suc i)) (let e : n ≡ k = omega arith in e)
    ]

pub length-outcomes : (trace : List EntryRecord) (n : ℕ) → length (outcomes trace n) ≡ n
length-outcomes trace n = length-map (numbers_to n) (outcome trace) ∙ length-numbers_to n

module _ (trace : List EntryRecord) (entry : EntryRecord) (n : ℕ) where
  -- the one outcome that an entry changes
  pub outcomes-own : (k : ℕ) → entry.key.receiver ≡ suc k → k < n → (new : Outcome) → new ≡ all_noted (outcome trace (suc k)) entry.key.tick entry.notes
      → set (outcomes trace n) k new ≡ outcomes (trace ++ entry ∷ []) n
  outcomes-own k own l new is =
      same_lists (set (outcomes trace n) k new) (outcomes (trace ++ entry ∷ []) n)
      (length-set (outcomes trace n) k new ∙ length-outcomes trace n ∙ sym (length-outcomes (trace ++ entry ∷ []) n))
      (λ i d m.
      let small : i < n = omega (arith, length-set (outcomes trace n) k new, length-outcomes trace n) in
      elim (cases_eq i k) [
        | inl e ↦
            ap (λ x. get_or (set (outcomes trace n) k new) x d) e ∙ get_or-set_same (outcomes trace n) k new d (omega (arith, length-outcomes trace n))
            ∙ is ∙ sym (outcome-own trace entry (suc k) own) ∙ ap (λ x. outcome (trace ++ entry ∷ []) (suc x)) (sym e) ∙ sym (number_at (outcome (trace ++ entry ∷ [])) n i d small)
        | inr e ↦
            get_or-set_other (outcomes trace n) k i new d e ∙ number_at (outcome trace) n i d small
            ∙ sym (outcome-other trace entry (suc i) (λ r. e (omega (arith, own, r)))) ∙ sym (number_at (outcome (trace ++ entry ∷ [])) n i d small)
      ])

  -- no other changes
  outcomes_same : ((i : ℕ) → i < n → outcome (trace ++ entry ∷ []) (suc i) ≡ outcome trace (suc i)) → outcomes trace n ≡ outcomes (trace ++ entry ∷ []) n
  outcomes_same same =
      same_lists (outcomes trace n) (outcomes (trace ++ entry ∷ []) n) (length-outcomes trace n ∙ sym (length-outcomes (trace ++ entry ∷ []) n))
      (λ i d m.
      let small : i < n = omega (arith, length-outcomes trace n) in
      number_at (outcome trace) n i d small ∙ sym (same i small) ∙ sym (number_at (outcome (trace ++ entry ∷ [])) n i d small))

  pub outcomes-other : n < entry.key.receiver → outcomes trace n ≡ outcomes (trace ++ entry ∷ []) n
  outcomes-other above = outcomes_same (λ i small. outcome-other trace entry (suc i) (λ r. omega (arith, r, small)))

  -- an entry without notes changes nothing
  pub outcomes_quiet : entry.notes ≡ [] → outcomes trace n ≡ outcomes (trace ++ entry ∷ []) n
  outcomes_quiet none = outcomes_same (λ i small. elim (cases_eq entry.key.receiver (suc i)) [
    | inl e ↦ outcome-own trace entry (suc i) e ∙ ap (all_noted (outcome trace (suc i)) entry.key.tick) none
    | inr d ↦ outcome-other trace entry (suc i) d
  ])

pub outcomes-at : (trace : List EntryRecord) (n k : ℕ) (d : Outcome) → k < n → get_or (outcomes trace n) k d ≡ outcome trace (suc k)
outcomes-at trace n k d l = number_at (outcome trace) n k d l
