-- Which events the actions of a step add, and from which action each comes.
use Rattle.detector_bounds.proofs.Words.{◌≡◌, ◌≢◌, ℕ, ◌+◌, ◌<◌, ◌≤◌, inl, inr, refl, sym, subst, List, [], ◌∷◌, arith, nat_lt, ◌==◌, cond_both, eqb-true, eqb-false, Action, Key, Payload, StepInput, Tag, Fate, IsIn, Setting, Event, in_time, by_fate, counted, joining, added, in_append, in_left, in_right, in_time_is}
use Rattle.process_api.specs.declared.action.Action.TheVariants.{Send, Wake, Note}
use Rattle.process_api.specs.declared.message.StepInput.TheVariants as input
use Rattle.streams.specs.declared.fate.Fate.TheVariants as fate

module _ {Mind : Type 0} (S : Setting Mind) (p now : ℕ) where
  -- a letter that process p sends at tick now may come at this tick
  pub record Comes (to tick : ℕ) : Type 0 where
    pub to_itself : to ≡ p → tick ≡ now + 1
    pub to_another : to ≢ p → (number delay : ℕ) × (1 ≤ number) × (S.fate p to number now ≡ fate.Delay delay) × (tick ≡ now + delay)

  -- an event that an action of process p at tick now may add
  abbrev pub IsOf : Action → Key → StepInput → Type 0
  IsOf (Send to what) key x = (x ≡ input.Letter p what) × (key.receiver ≡ to) × Comes to key.tick
  IsOf (Wake pause tag) key x = (x ≡ input.Wake tag) × (key.receiver ≡ p) × (key.tick ≡ now + pause)
  IsOf (Note noted) key x = ⊥

  -- ---- each event comes of an action

  one_of : (key k : Key) (x y : StepInput) (P : Key → StepInput → Type 0) → P k y → IsIn (key, x) (in_time S.horizon k y) → P key x
  one_of key k x y P have i = subst (λ (e : Event). P e.0 e.1) (sym (in_time_is S k y (key, x) i).0) have

  by_fate_of : (f : Fate) (to number : ℕ) (key : Key) (x y : StepInput) (P : Key → StepInput → Type 0)
      → ((delay : ℕ) → f ≡ fate.Delay delay → P (record { tick = now + delay; receiver = to; sender = p; number = number }) y)
      → IsIn (key, x) (by_fate S.horizon f (record { tick = now; receiver = to; sender = p; number = number }) y) → P key x
  by_fate_of fate.Lost to number key x y P have none = absurd none
  by_fate_of (fate.Delay delay) to number key x y P have i = one_of key _ x y P (have delay refl) i

  of_joining : (counts : ℕ → ℕ) (a : Action) (key : Key) (x : StepInput) → IsIn (key, x) (joining S p now counts a) → IsOf a key x
  of_joining counts (Send to what) key x i = cond_both (to == p) _ _ (λ es. IsIn (key, x) es → IsOf (Send to what) key x)
      (λ is j. one_of key _ x (input.Letter p what) (IsOf (Send to what)) (
        refl,
        sym (eqb-true to p is),
        record { to_itself = λ e. refl; to_another = λ n. absurd (n (eqb-true to p is)) },
      ) j)
      (λ is j. by_fate_of (S.fate p to (counts to + 1) now) to (counts to + 1) key x (input.Letter p what) (IsOf (Send to what)) (λ delay f. (
        refl,
        refl,
        record { to_itself = λ e. absurd (eqb-false to p is e); to_another = λ n. (counts to + 1, delay, omega arith, f, refl) },
      )) j)
      i
  of_joining counts (Wake pause tag) key x i = one_of key _ x (input.Wake tag) (IsOf (Wake pause tag)) (refl, refl, refl) i
  of_joining counts (Note noted) key x none = absurd none

  pub comes_of : (counts : ℕ → ℕ) (actions : List Action) (key : Key) (x : StepInput) → IsIn (key, x) (added S p now counts actions)
      → (a : Action) × IsIn a actions × IsOf a key x
  comes_of counts [] key x none = absurd none
  comes_of counts (a ∷ actions) key x i = elim (in_append (key, x) (joining S p now counts a) (added S p now (counted p counts a) actions) i) [
    | inl j ↦ (a, inl refl, of_joining counts a key x j)
    | inr j ↦ let r = comes_of (counted p counts a) actions key x j in (r.0, inr r.1, r.2)
  ]

  -- ---- what joins by an action

  -- whatever an action of these adds, by some counts, they add
  joins : (counts : ℕ → ℕ) (actions : List Action) (a : Action) → IsIn a actions → (c : ℕ → ℕ) × ((e : Event) → IsIn e (joining S p now c a) → IsIn e (added S p now counts actions))
  joins counts [] a none = absurd none
  joins counts (b ∷ actions) a (inl e) = (counts, λ event i. in_left event (joining S p now counts b) (added S p now (counted p counts b) actions) (subst (λ c. IsIn event (joining S p now counts c)) e i))
  joins counts (b ∷ actions) a (inr i) =
      let r = joins (counted p counts b) actions a i in
      (r.0, λ event j. in_right event (joining S p now counts b) (added S p now (counted p counts b) actions) (r.1 event j))

  -- an event of this tick is added for a process
  abbrev pub IsAddedAt : (ℕ → ℕ) → List Action → (receiver tick : ℕ) → StepInput → Type 0
  IsAddedAt counts actions receiver tick x = (key : Key) × (key.receiver ≡ receiver) × (key.tick ≡ tick) × IsIn (key, x) (added S p now counts actions)

  there_in_time : (key : Key) (x : StepInput) → key.tick < S.horizon → IsIn (key, x) (in_time S.horizon key x)
  there_in_time key x below = cond_both (nat_lt key.tick S.horizon) ((key, x) ∷ []) [] (IsIn (key, x)) (λ _. inl refl) (λ late. absurd (grind (late, below, arith)))

  pub wake_joins : (counts : ℕ → ℕ) (actions : List Action) (pause : ℕ) (tag : Tag) → IsIn (Wake pause tag) actions → now + pause < S.horizon
      → IsAddedAt counts actions p (now + pause) (input.Wake tag)
  wake_joins counts actions pause tag i below =
      let r = joins counts actions (Wake pause tag) i in
      let key : Key = record { tick = now + pause; receiver = p; sender = p; number = r.0 p + 1 } in
      (key, refl, refl, r.1 (key, input.Wake tag) (there_in_time key (input.Wake tag) below))

  -- a letter to another has a number, and comes by its fate
  abbrev pub Posts : (ℕ → ℕ) → List Action → (to : ℕ) → Payload → Type 0
  Posts counts actions to what = (number : ℕ) × (1 ≤ number)
      × ((delay : ℕ) → S.fate p to number now ≡ fate.Delay delay → now + delay < S.horizon → IsAddedAt counts actions to (now + delay) (input.Letter p what))

  posted : (counts : ℕ → ℕ) (to : ℕ) (what : Payload) (delay : ℕ) → to ≢ p → S.fate p to (counts to + 1) now ≡ fate.Delay delay → now + delay < S.horizon
      → IsIn {X = Event} (record { tick = now + delay; receiver = to; sender = p; number = counts to + 1 }, input.Letter p what) (joining S p now counts (Send to what))
  posted counts to what delay other f below =
      let key : Key = record { tick = now + delay; receiver = to; sender = p; number = counts to + 1 } in
      cond_both (to == p) _ _ (IsIn {X = Event} (key, input.Letter p what)) (λ is. absurd (other (eqb-true to p is)))
      (λ _. subst (λ g. IsIn {X = Event} (key, input.Letter p what) (by_fate S.horizon g (record { tick = now; receiver = to; sender = p; number = counts to + 1 }) (input.Letter p what))) (sym f)
      (there_in_time key (input.Letter p what) below))

  pub letter_joins : (counts : ℕ → ℕ) (actions : List Action) (to : ℕ) (what : Payload) → to ≢ p → IsIn (Send to what) actions → Posts counts actions to what
  letter_joins counts actions to what other i =
      let r = joins counts actions (Send to what) i in (
        r.0 to + 1,
        omega arith,
        λ delay f below. (record { tick = now + delay; receiver = to; sender = p; number = r.0 to + 1 }, refl, refl, r.1 _ (posted r.0 to what delay other f below)),
      )

  -- a letter to itself comes at the next tick
  pub own_joins : (counts : ℕ → ℕ) (actions : List Action) (what : Payload) → IsIn (Send p what) actions → now + 1 < S.horizon → IsAddedAt counts actions p (now + 1) (input.Letter p what)
  own_joins counts actions what i below =
      let r = joins counts actions (Send p what) i in
      let key : Key = record { tick = now + 1; receiver = p; sender = p; number = r.0 p + 1 } in (
        key,
        refl,
        refl,
        r.1 (key, input.Letter p what)
            (cond_both (p == p) _ _ (IsIn {X = Event} (key, input.Letter p what)) (λ _. there_in_time key (input.Letter p what) below) (λ other. absurd (eqb-false p p other refl))),
      )
