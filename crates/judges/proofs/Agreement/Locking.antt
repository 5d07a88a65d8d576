-- Why all decisions have one value: once a majority has acknowledged a round's proposal, every later proposal has its value.
use Rattle.judges.proofs.Words.{◌≡◌, ℕ, zero, suc, ◌+◌, ◌<◌, ◌≤◌, inl, inr, refl, sym, ap, ◌∙◌, Bool, true, false, cond, ◌&&◌, arith, nat_lt, Option, None, Some, is_some, unwrap_or, ◌⊎◌, subst, cases_Bool, cases_eq, cond_both, and_parts, ltb-true, ltb-false, cases_lt, cases_order, same_Some, count_to, majority, coordinator, Estimate, better, best_to, Payload}
use Rattle.process_api.specs.declared.message.Payload.TheVariants as payload

-- ---- majorities of 1 to n meet, and the best of some estimates

-- what is there
pub there_is : {X : Type 0} (o : Option X) → is_some o ≡ true → (x : X) × (o ≡ Some x)
there_is None e = absurd (cc)
there_is (Some x) e = (x, refl)

pub is_true_there : (o : Option Bool) → unwrap_or o false ≡ true → o ≡ Some true
is_true_there None e = absurd (cc)
is_true_there (Some b) e = ap Some e

at_most_one : (b c : Bool) → (b && c) ≡ false → cond b 1 0 + cond c 1 0 ≤ 1
at_most_one b c e = grind arith

-- two sets that have more members than there are have one in common
pub meet : (n : ℕ) (f g : ℕ → Bool) → n < count_to n f + count_to n g → (q : ℕ) × (1 ≤ q) × (q ≤ n) × (f q ≡ true) × (g q ≡ true)
meet zero f g h = absurd (omega arith)
meet (suc n) f g h = elim (cases_Bool (f (suc n) && g (suc n))) [
  | inl both ↦ let b = and_parts _ _ both in (suc n, omega arith, omega arith, b.0, b.1)
  | inr e ↦ let r = meet n f g (omega (arith, h, at_most_one (f (suc n)) (g (suc n)) e)) in (r.0, r.1, omega (arith, r.2), r.3, r.4)
]

-- two majorities meet
pub majorities_meet : (n : ℕ) (f g : ℕ → Bool) → majority n ≤ count_to n f → majority n ≤ count_to n g → (q : ℕ) × (1 ≤ q) × (q ≤ n) × (f q ≡ true) × (g q ≡ true)
majorities_meet n f g a b = meet n f g (omega arith)

-- the best of the estimates of 1 to n is one of them, and none has a larger stamp. There is none only where there are none
abbrev pub IsBest : ℕ → (ℕ → Option Estimate) → Option Estimate → Type 0
IsBest n f None = (q : ℕ) → 1 ≤ q → q ≤ n → f q ≡ None
IsBest n f (Some e) = ((q : ℕ) × (1 ≤ q) × (q ≤ n) × (f q ≡ Some e)) × ((q : ℕ) → 1 ≤ q → q ≤ n → (d : Estimate) → f q ≡ Some d → d.stamp ≤ e.stamp)

pub best_is : (n : ℕ) (f : ℕ → Option Estimate) → IsBest n f (best_to n f)
best_is zero f = λ q low high. absurd (omega arith)
best_is (suc n) f = go (best_to n f) (best_is n f) (f (suc n)) refl
  where
    last : (e : Estimate) → f (suc n) ≡ Some e → ((q : ℕ) → 1 ≤ q → q ≤ n → (d : Estimate) → f q ≡ Some d → d.stamp ≤ e.stamp) → IsBest (suc n) f (Some e)
    last e at tops = (
      (suc n, omega arith, omega arith, at),
      λ q low high d is. elim (cases_eq q (suc n)) [
        | inl s ↦ let same = ap (λ (x : Estimate). x.stamp) (same_Some d e (sym is ∙ ap f s ∙ at)) in omega arith
        | inr s ↦ tops q low (omega arith) d is
      ],
    )

    stays : (e : Estimate) → IsBest n f (Some e) → ((d : Estimate) → f (suc n) ≡ Some d → d.stamp ≤ e.stamp) → IsBest (suc n) f (Some e)
    stays e b low = (
      (b.0.0, b.0.1, omega (arith, b.0.2), b.0.3),
      λ q first high d is. elim (cases_eq q (suc n)) [
        | inl s ↦ low d (ap f (sym s) ∙ is)
        | inr s ↦ b.1 q first (omega arith) d is
      ],
    )

    go : (a : Option Estimate) → IsBest n f a → (b : Option Estimate) → f (suc n) ≡ b → IsBest (suc n) f (better a b)
    go None none None at = λ q low high. elim (cases_eq q (suc n)) [ inl s ↦ ap f s ∙ at | inr s ↦ none q low (omega arith) ]
    go None none (Some b) at = last b at (λ q low high d is. absurd (cc (none q low high, is)))
    go (Some a) best None at = stays a best (λ d is. absurd (cc (at, is)))
    go (Some a) best (Some b) at = cond_both (nat_lt a.stamp b.stamp) (Some b) (Some a) (IsBest (suc n) f)
        (λ less. let l = ltb-true a.stamp b.stamp less in last b at (λ q low high d is. let m = best.1 q low high d is in omega arith))
        (λ more. let l = ltb-false a.stamp b.stamp more in stays a best (λ d is. let same = ap (λ (x : Estimate). x.stamp) (same_Some d b (sym is ∙ at)) in omega arith))

-- ---- once a majority has acknowledged a round's proposal, every later proposal has its value.

-- what was sent, by whom
module _ (n : ℕ) (Sent : ℕ → Payload → Type 0) where
  -- a value is the best of a majority's estimates of a round
  pub record IsChosen (round value : ℕ) : Type 0 where
    pub voters : ℕ → Bool
    pub enough : majority n ≤ count_to n voters
    pub stamp : ℕ
    pub from : ℕ
    pub best : Sent from (payload.Estimate round value stamp)
    pub others : (q : ℕ) → 1 ≤ q → q ≤ n → voters q ≡ true → (v t : ℕ) × Sent q (payload.Estimate round v t) × (t ≤ stamp)

  -- a majority has acknowledged the proposal of a round
  pub record IsLocked (round value : ℕ) : Type 0 where
    pub proposed : Sent (coordinator n round) (payload.Proposal round value)
    pub acks : ℕ → Bool
    pub enough : majority n ≤ count_to n acks
    pub each : (q : ℕ) → 1 ≤ q → q ≤ n → acks q ≡ true → Sent q (payload.Reply round true)

  -- where an estimate is from: it is a proposal of the process's own, or was adopted in a round
  abbrev pub Origin : (ℕ → Type 0) → ℕ → ℕ → Type 0
  Origin IsOwn value stamp = ((stamp ≡ 0) × IsOwn value) ⊎ ((1 ≤ stamp) × Sent (coordinator n stamp) (payload.Proposal stamp value))

  -- what is true of all that was sent
  pub record Facts (IsValid : ℕ → Type 0) : Type 0 where
    pub one_proposal : (q r v w : ℕ) → Sent q (payload.Proposal r v) → Sent q (payload.Proposal r w) → v ≡ w
    pub chosen : (q r v : ℕ) → Sent q (payload.Proposal r v) → IsChosen r v
    pub earlier : (q r v t : ℕ) → Sent q (payload.Estimate r v t) → t < r
    pub origin : (q r v t : ℕ) → Sent q (payload.Estimate r v t) → Origin IsValid v t
    pub adopted : (q k r v t : ℕ) → Sent q (payload.Reply k true) → Sent q (payload.Estimate r v t) → k < r → k ≤ t

  module _ (IsValid : ℕ → Type 0) (facts : Facts IsValid) where
    -- the stamp of what a proposal was chosen from is below its round
    early : (q k w : ℕ) (sent : Sent q (payload.Proposal k w)) → (facts.chosen q k w sent).stamp < k
    early q k w sent = let c = facts.chosen q k w sent in facts.earlier c.from k w c.stamp c.best

    -- every later proposal has the locked value: d bounds how much later
    later_same : (d r v : ℕ) → IsLocked r v → (k q w : ℕ) → k ≤ d → r < k → Sent q (payload.Proposal k w) → w ≡ v
    later_same zero r v locked k q w near after sent = absurd (omega arith)
    later_same (suc d) r v locked k q w near after sent =
        let c = facts.chosen q k w sent in
        let m = majorities_meet n locked.acks c.voters locked.enough c.enough in
        let e = c.others m.0 m.1 m.2 m.4 in
        let old : r ≤ e.1 = facts.adopted m.0 r k e.0 e.1 (locked.each m.0 m.1 m.2 m.3) e.2 after in
        let below : c.stamp < k = early q k w sent in
        elim (facts.origin c.from k w c.stamp c.best) [
          | inl h ↦ absurd (omega (arith, early (coordinator n r) r v locked.proposed, h.0, e.3))
          | inr h ↦ elim (cases_lt r c.stamp) [
            | inl l ↦ later_same d r v locked c.stamp (coordinator n c.stamp) w (omega arith) l h.1
            | inr l ↦ let same : c.stamp ≡ r = omega (arith, e.3) in
                facts.one_proposal (coordinator n r) r w v (subst (λ z. Sent (coordinator n z) (payload.Proposal z w)) same h.1) locked.proposed
          ]
        ]

    -- two locked values are one
    pub one_locked : (r v k w : ℕ) → IsLocked r v → IsLocked k w → v ≡ w
    one_locked r v k w a b = elim (cases_order r k) [
      | inl e ↦ facts.one_proposal (coordinator n k) k v w (subst (λ z. Sent (coordinator n z) (payload.Proposal z v)) e a.proposed) b.proposed
      | inr (inl l) ↦ sym (later_same k r v a k (coordinator n k) w (omega arith) l b.proposed)
      | inr (inr l) ↦ later_same r k w b r (coordinator n r) v (omega arith) l a.proposed
    ]

    -- every proposal has a valid value: d bounds its round
    valid_below : (d q k w : ℕ) → k ≤ d → Sent q (payload.Proposal k w) → IsValid w
    valid_below zero q k w near sent = absurd (omega (arith, early q k w sent))
    valid_below (suc d) q k w near sent =
        let c = facts.chosen q k w sent in
        elim (facts.origin c.from k w c.stamp c.best) [
          | inl own ↦ own.1
          | inr h ↦ valid_below d (coordinator n c.stamp) c.stamp w (omega (arith, early q k w sent)) h.1
        ]

    pub locked_valid : (r v : ℕ) → IsLocked r v → IsValid v
    locked_valid r v a = valid_below r (coordinator n r) r v (omega arith) a.proposed
