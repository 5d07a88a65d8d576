-- The pairs of one process in a history, and what their steps add.
use Rattle.trace_laws.proofs.Words.{◌≡◌, ◌≢◌, ◌⊎◌, ℕ, ◌+◌, ◌<◌, ◌≤◌, inl, inr, refl, sym, ap, ◌∙◌, subst, List, [], ◌∷◌, IsTrue, cond, ◌==◌, arith, cases_eq, cond_both, eq-eqb, ne_eqb, eqb-true, Key, StepInput, Setting, IsSound, IsProcess, Event, Process, step, World, made, taken}
use Rattle.trace_laws.proofs.{Steps.{IsSent, step_counts, step_mind, step_sent}, Worlds.{process_at, process_other}}
use Rattle.trace_laws.specs.History.{IsIn, Pair, pairs_of, Adds, AreSteps, IsAdded}

pub pairs_here : (s : Pair) (rest : List Pair) (p : ℕ) → s.0.key.receiver ≡ p → pairs_of p (s ∷ rest) ≡ s ∷ pairs_of p rest
pairs_here s rest p e = ap (λ b. cond b (s ∷ pairs_of p rest) (pairs_of p rest)) (eq-eqb _ _ e)

pub pairs_other : (s : Pair) (rest : List Pair) (p : ℕ) → (s.0.key.receiver ≡ p → ⊥) → pairs_of p (s ∷ rest) ≡ pairs_of p rest
pairs_other s rest p n = ap (λ b. cond b (s ∷ pairs_of p rest) (pairs_of p rest)) (ne_eqb _ _ n)

pub in_pairs : (p : ℕ) (h : List Pair) (c : Pair) → IsIn c (pairs_of p h) → IsIn c h × (c.0.key.receiver ≡ p)
in_pairs p [] c i = absurd i
in_pairs p (s ∷ h) c i =
    cond_both (s.0.key.receiver == p) (s ∷ pairs_of p h) (pairs_of p h) (λ l. IsIn c l → IsIn c (s ∷ h) × (c.0.key.receiver ≡ p))
    (λ is j. elim j [
      | inl e ↦ (inl e, ap (λ (t : Pair). t.0.key.receiver) e ∙ eqb-true _ _ is)
      | inr k ↦ (inr (in_pairs p h c k).0, (in_pairs p h c k).1)
    ])
    (λ _ k. (inr (in_pairs p h c k).0, (in_pairs p h c k).1)) i

pub pairs_in : (p : ℕ) (h : List Pair) (c : Pair) → IsIn c h → c.0.key.receiver ≡ p → IsIn c (pairs_of p h)
pairs_in p [] c i e = absurd i
pairs_in p (s ∷ h) c (inl f) e = subst (IsIn c) (sym (pairs_here s h p (sym (ap (λ (t : Pair). t.0.key.receiver) f) ∙ e))) (inl f)
pairs_in p (s ∷ h) c (inr j) e =
    cond_both (s.0.key.receiver == p) (s ∷ pairs_of p h) (pairs_of p h) (IsIn c) (λ _. inr (pairs_in p h c j e)) (λ _. pairs_in p h c j e)

module _ {Mind : Type 0} (S : Setting Mind) where
  -- what is added, some step adds
  pub adder : (before : Process Mind) (pairs : List Pair) (q : Key) (y : StepInput) → IsAdded S q y before pairs → (c : Pair) × Adds S before c q y pairs
  adder before [] q y h = absurd h
  adder before (s ∷ rest) q y (inl i) = (s, inl (refl, i))
  adder before (s ∷ rest) q y (inr h) = let r = adder (step S before s.0.key s.1).process rest q y h in (r.0, inr r.1)

  pub added_by : (before : Process Mind) (pairs : List Pair) (c : Pair) (q : Key) (y : StepInput) → Adds S before c q y pairs → IsAdded S q y before pairs × IsIn c pairs
  added_by before [] c q y h = absurd h
  added_by before (s ∷ rest) c q y (inl p) = (inl p.1, inl p.0)
  added_by before (s ∷ rest) c q y (inr h) = let r = added_by (step S before s.0.key s.1).process rest c q y h in (inr r.0, inr r.1)

  -- the step that added an event
  pub record IsCause (p : ℕ) (q : Key) (c : Key) : Type 0 where
    pub sender : q.sender ≡ p
    pub receiver : IsProcess S q.receiver
    pub later : c.tick < q.tick
    pub far : q.receiver ≢ p → c.tick + S.lookahead ≤ q.tick
    pub below : q.tick < S.horizon

  -- the steps of process p, each with a mind of it
  module _ (sound : IsSound S) (p : ℕ) (is_process : IsProcess S p) where
    module _ (before : Process Mind) (mind : IsTrue (S.is_mind p before.mind)) (s : Pair) (own : s.0.key.receiver ≡ p) where
      its : IsProcess S s.0.key.receiver × IsTrue (S.is_mind s.0.key.receiver before.mind)
      its = subst (λ r. IsProcess S r × IsTrue (S.is_mind r before.mind)) (sym own) (is_process, mind)

      pub sent_at : (e : Event) → IsIn e (step S before s.0.key s.1).added → IsSent S s.0.key.receiver s.0.key.tick before.counts (step S before s.0.key s.1).process.counts e
      sent_at = step_sent S sound before s.0.key s.1 its.0 its.1

      counts_at : (r : ℕ) → before.counts r ≤ (step S before s.0.key s.1).process.counts r
      counts_at = step_counts S sound before s.0.key s.1 its.0 its.1

      pub mind_after : IsTrue (S.is_mind p (step S before s.0.key s.1).process.mind)
      mind_after = subst (λ r. IsTrue (S.is_mind r (step S before s.0.key s.1).process.mind)) own (step_mind S sound before s.0.key s.1 its.0 its.1)

    abbrev pub Own : List Pair → Type 0
    Own pairs = (c : Pair) → IsIn c pairs → c.0.key.receiver ≡ p

    -- what is known of an event and the step that adds it; later steps give greater numbers
    pub adds_is : (before : Process Mind) → IsTrue (S.is_mind p before.mind) → (pairs : List Pair) → Own pairs → (c : Pair) (q : Key) (y : StepInput) → Adds S before c q y pairs → IsCause p q c.0.key × (before.counts q.receiver < q.number)
    adds_is before mind [] own c q y h = absurd h
    adds_is before mind (s ∷ rest) own c q y (inl h) =
        let at = own s (inl refl) in
        let sent = sent_at before mind s at (q, y) h.1 in (
          subst (λ (z : Pair). IsCause p q z.0.key) (sym h.0) (record { sender = sent.sender ∙ at; receiver = sent.receiver; later = sent.later; far = λ n. sent.far (λ f. n (f ∙ at)); below = sent.below }),
          sent.above,
        )
    adds_is before mind (s ∷ rest) own c q y (inr h) =
        let at = own s (inl refl) in
        let later = adds_is (step S before s.0.key s.1).process (mind_after before mind s at) rest (λ d i. own d (inr i)) c q y h in
        (later.0, omega (arith, counts_at before mind s at q.receiver, later.1))

    pub cause : (before : Process Mind) → IsTrue (S.is_mind p before.mind) → (pairs : List Pair) → Own pairs → (q : Key) (y : StepInput) → IsAdded S q y before pairs → (c : Pair) × IsIn c pairs × IsCause p q c.0.key
    cause before mind pairs own q y h =
        let a = adder before pairs q y h in
        (a.0, (added_by before pairs a.0 q y a.1).1, (adds_is before mind pairs own a.0 q y a.1).0)

  module _ (w : World Mind) (s : Pair) (rest : List Pair) where
    -- the pairs of a process and the process after the first step: that step is its, or another's
    split_first : (p : ℕ) (P : List Pair → Process Mind → Type 0)
        → (s.0.key.receiver ≡ p → P (s ∷ pairs_of p rest) (step S (w.process p) s.0.key s.1).process) → (s.0.key.receiver ≢ p → P (pairs_of p rest) (w.process p))
        → P (pairs_of p (s ∷ rest)) ((taken S w s.0.key s.1).process p)
    split_first p P its other = elim (cases_eq s.0.key.receiver p) [
      | inl e ↦
          let made_is : (step S (w.process p) s.0.key s.1).process ≡ (taken S w s.0.key s.1).process p =
          ap (λ r. (step S (w.process r) s.0.key s.1).process) (sym e) ∙ (sym (process_at S w s.0.key s.1) ∙ ap (taken S w s.0.key s.1).process e) in
          subst (λ h. P h ((taken S w s.0.key s.1).process p)) (sym (pairs_here s rest p e)) (subst (P (s ∷ pairs_of p rest)) made_is (its e))
      | inr n ↦ subst (λ h. P h ((taken S w s.0.key s.1).process p)) (sym (pairs_other s rest p n))
          (subst (P (pairs_of p rest)) (sym (process_other S w s.0.key s.1 p (λ e. n (sym e)))) (other n))
    ]

    -- what is added in a history: by its first step, or after it
    pub added_split : (p : ℕ) (q : Key) (y : StepInput) → IsAdded S q y (w.process p) (pairs_of p (s ∷ rest))
        → ((s.0.key.receiver ≡ p) × IsIn (q, y) (made S w s.0.key s.1).added) ⊎ IsAdded S q y ((taken S w s.0.key s.1).process p) (pairs_of p rest)
    added_split p q y =
        split_first p (λ h after. IsAdded S q y (w.process p) h → ((s.0.key.receiver ≡ p) × IsIn (q, y) (made S w s.0.key s.1).added) ⊎ IsAdded S q y after (pairs_of p rest))
        (λ e h. elim h [ inl i ↦ inl (e, subst (λ r. IsIn (q, y) (step S (w.process r) s.0.key s.1).added) (sym e) i) | inr j ↦ inr j ]) (λ _ h. inr h)

    pub added_first : (q : Key) (y : StepInput) → IsIn (q, y) (made S w s.0.key s.1).added → IsAdded S q y (w.process s.0.key.receiver) (pairs_of s.0.key.receiver (s ∷ rest))
    added_first q y i = subst (IsAdded S q y (w.process s.0.key.receiver)) (sym (pairs_here s rest s.0.key.receiver refl)) (inl i)

    pub added_after : (p : ℕ) (q : Key) (y : StepInput) → IsAdded S q y ((taken S w s.0.key s.1).process p) (pairs_of p rest) → IsAdded S q y (w.process p) (pairs_of p (s ∷ rest))
    added_after p q y = split_first p (λ h after. IsAdded S q y after (pairs_of p rest) → IsAdded S q y (w.process p) h) (λ _ a. inr a) (λ _ a. a)

    -- the same of the steps themselves
    pub steps_split : (p : ℕ) → AreSteps S (w.process p) (pairs_of p (s ∷ rest))
        → (s.0.key.receiver ≡ p → s.0 ≡ (made S w s.0.key s.1).entry) × AreSteps S ((taken S w s.0.key s.1).process p) (pairs_of p rest)
    steps_split p =
        split_first p (λ h after. AreSteps S (w.process p) h → (s.0.key.receiver ≡ p → s.0 ≡ (made S w s.0.key s.1).entry) × AreSteps S after (pairs_of p rest))
        (λ e h. ((λ _. h.0 ∙ ap (λ r. (step S (w.process r) s.0.key s.1).entry) (sym e)), h.1)) (λ n h. ((λ e. absurd (n e)), h))

    pub steps_join : (p : ℕ) → s.0 ≡ (made S w s.0.key s.1).entry → AreSteps S ((taken S w s.0.key s.1).process p) (pairs_of p rest) → AreSteps S (w.process p) (pairs_of p (s ∷ rest))
    steps_join p first =
        split_first p (λ h after. AreSteps S after (pairs_of p rest) → AreSteps S (w.process p) h)
        (λ e h. (first ∙ ap (λ r. (step S (w.process r) s.0.key s.1).entry) e, h)) (λ _ h. h)
