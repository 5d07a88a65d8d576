-- Each event has one cause, and is taken once.
use Rattle.trace_laws.proofs.Words.{◌≡◌, ℕ, inl, inr, refl, sym, ap, ◌∙◌, subst, List, [], ◌∷◌, arith, IsTrue, Less, key_cmp, Key, StepInput, Setting, IsSound, IsProcess, Process, step, opening_process, before_by_tick, not_before_itself}
use Rattle.trace_laws.proofs.{Pairs.{IsCause, Own, added_by, adder, adds_is, in_pairs, mind_after, sent_at}, Rising.{IsRising, rising_pairs}}
use Rattle.trace_laws.specs.History.{IsIn, Pair, pairs_of, IsClosed, IsStart, Adds, IsCauseOf, IsOnly}

module _ {Mind : Type 0} (S : Setting Mind) (sound : IsSound S) where
  -- an event is added by one step alone: later steps give greater numbers
  module _ (p : ℕ) (is_process : IsProcess S p) where
    clash : (before : Process Mind) → IsTrue (S.is_mind p before.mind) → (s : Pair) (rest : List Pair) → Own S sound p is_process (s ∷ rest) → (d : Pair) (q : Key) (y z : StepInput) → IsIn (q, y) (step S before s.0.key s.1).added → Adds S (step S before s.0.key s.1).process d q z rest → ⊥
    clash before mind s rest own d q y z i g =
        let at = own s (inl refl) in
        let sent = sent_at S sound p is_process before mind s at (q, y) i in
        let above = (adds_is S sound p is_process (step S before s.0.key s.1).process (mind_after S sound p is_process before mind s at) rest (λ e j. own e (inr j)) d q z g).1 in
        omega (arith, sent.within, above)

    one_adder : (before : Process Mind) → IsTrue (S.is_mind p before.mind) → (pairs : List Pair) → Own S sound p is_process pairs → (c d : Pair) (q : Key) (y z : StepInput) → Adds S before c q y pairs → Adds S before d q z pairs → c ≡ d
    one_adder before mind [] own c d q y z h g = absurd h
    one_adder before mind (s ∷ rest) own c d q y z (inl h) (inl g) = h.0 ∙ sym g.0
    one_adder before mind (s ∷ rest) own c d q y z (inl h) (inr g) = absurd (clash before mind s rest own d q y z h.1 g)
    one_adder before mind (s ∷ rest) own c d q y z (inr h) (inl g) = absurd (clash before mind s rest own c q z y g.1 h)
    one_adder before mind (s ∷ rest) own c d q y z (inr h) (inr g) =
        one_adder (step S before s.0.key s.1).process (mind_after S sound p is_process before mind s (own s (inl refl))) rest (λ e i. own e (inr i)) c d q y z h g

  module _ (history : List Pair) (closed : IsClosed S history) where
    own_pairs : (p : ℕ) (c : Pair) → IsIn c (pairs_of p history) → c.0.key.receiver ≡ p
    own_pairs p c i = (in_pairs p history c i).1

    cause_is : (c : Pair) (q : Key) (y : StepInput) → IsCauseOf S history c q y → IsCause S c.0.key.receiver q c.0.key
    cause_is c q y h =
        let p = c.0.key.receiver in
        (adds_is S sound p h.0 (opening_process S p) (sound.opens p h.0) (pairs_of p history) (own_pairs p) c q y h.1).0

    -- of two causes of a key each is the other
    pub one_cause : (c d : Pair) (q : Key) (y z : StepInput) → IsCauseOf S history c q y → IsCauseOf S history d q z → d ≡ c
    one_cause c d q y z h g =
        let same : d.0.key.receiver ≡ c.0.key.receiver = sym (cause_is d q z g).sender ∙ (cause_is c q y h).sender in
        sym (one_adder c.0.key.receiver h.0 (opening_process S c.0.key.receiver) (sound.opens c.0.key.receiver h.0) (pairs_of c.0.key.receiver history) (own_pairs c.0.key.receiver) c d q y z h.1
        (subst (λ r. Adds S (opening_process S r) d q z (pairs_of r history)) same g.1))

    pub has_one_cause : (t : Pair) → IsIn t history → ¬ (IsStart S t.0.key t.1) → (c : Pair) × IsIn c history × (key_cmp c.0.key t.0.key ≡ Less) × IsOnly (λ d. IsCauseOf S history d t.0.key t.1) c
    has_one_cause t i not_start = elim ((closed.exact t.0.key t.1).0 (t.0, refl, i)).1 [
      | inl start ↦ absurd (not_start start)
      | inr (p, is, a) ↦
          let found = adder S (opening_process S p) (pairs_of p history) t.0.key t.1 a in
          let c = found.0 in
          let there = in_pairs p history c (added_by S (opening_process S p) (pairs_of p history) c t.0.key t.1 found.1).1 in
          let is_cause : IsCauseOf S history c t.0.key t.1 =
          subst (λ r. IsProcess S r × Adds S (opening_process S r) c t.0.key t.1 (pairs_of r history)) (sym there.1) (is, found.1) in
          (c, there.0, before_by_tick c.0.key t.0.key (cause_is c t.0.key t.1 is_cause).later, (is_cause, λ d g. one_cause c d t.0.key t.1 t.1 is_cause g))
    ]

    one_at : (h : List Pair) → IsRising h → (t u : Pair) → IsIn t h → IsIn u h → u.0.key ≡ t.0.key → u ≡ t
    one_at [] r t u i j e = absurd i
    one_at (s ∷ h) r t u (inl i) (inl j) e = j ∙ sym i
    one_at (s ∷ h) r t u (inl i) (inr j) e = absurd (not_before_itself s.0.key (subst (λ z. key_cmp s.0.key z ≡ Less) (e ∙ ap (λ (z : Pair). z.0.key) i) (r.0 u j)))
    one_at (s ∷ h) r t u (inr i) (inl j) e = absurd (not_before_itself s.0.key (subst (λ z. key_cmp s.0.key z ≡ Less) (sym e ∙ ap (λ (z : Pair). z.0.key) j) (r.0 t i)))
    one_at (s ∷ h) r t u (inr i) (inr j) e = one_at h r.1 t u i j e

    pub is_taken_once : (c : Pair) (q : Key) (y : StepInput) → IsCauseOf S history c q y → (t : Pair) × (t.1 ≡ y) × IsOnly (λ u. IsIn u history × (u.0.key ≡ q)) t
    is_taken_once c q y h =
        let p = c.0.key.receiver in
        let added = (added_by S (opening_process S p) (pairs_of p history) c q y h.1).0 in
        let is = (closed.exact q y).1 ((cause_is c q y h).below, inr (p, h.0, added)) in
        ((is.0, y), refl, ((is.2, is.1), λ u g. one_at history (rising_pairs history closed.rising) (is.0, y) u is.2 g.0 (g.1 ∙ sym is.1)))
