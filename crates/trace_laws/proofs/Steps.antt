-- What is true of the events that one step adds.
use Rattle.trace_laws.proofs.Words.{◌≡◌, ◌≢◌, ◌⊎◌, ℕ, ◌+◌, ◌<◌, ◌≤◌, inl, inr, refl, sym, ap, subst, cond, List, [], ◌∷◌, ◌++◌, map, arith, nat_lt, ◌==◌, IsTrue, AllByRecursion, cond_both, eq-eqb, ne_eqb, eqb-true, eqb-false, ltb-true, Key, StepInput, Action, change, Setting, IsSound, IsProcess, IsSlow, has_crashed, Event, Process, Made, raised, in_time, by_fate, counted, joining, counts_after, added, step, made_by, dead, IsIn}
use Rattle.{trace_laws.proofs.Sets.{AreApart}, std.proofs.lemmas.List.Elements.{recursion_from_All}}
use Rattle.process_api.specs.{declared.action.Action.TheVariants.{Send, Wake, Note}, Answer.{IsAllowed}}
use Rattle.streams.specs.declared.fate.Fate.{Fate}
use Rattle.streams.specs.declared.fate.Fate.TheVariants as fate

pub change_at : {X : Type 0} (f : ℕ → X) (p : ℕ) (v : X) → change f p v p ≡ v
change_at f p v = ap (λ b. cond b v (f p)) (eq-eqb p p refl)

pub change_other : {X : Type 0} (f : ℕ → X) (p : ℕ) (v : X) (q : ℕ) → q ≢ p → change f p v q ≡ f q
change_other f p v q n = ap (λ b. cond b v (f q)) (ne_eqb q p n)

pub raised_up : (counts : ℕ → ℕ) (to q : ℕ) → counts q ≤ raised counts to q
raised_up counts to q = grind arith

pub in_append : {X : Type 0} (x : X) (xs ys : List X) → IsIn x (xs ++ ys) → IsIn x xs ⊎ IsIn x ys
in_append x [] ys h = inr h
in_append x (z ∷ xs) ys (inl e) = inl (inl e)
in_append x (z ∷ xs) ys (inr h) = elim (in_append x xs ys h) [ inl i ↦ inl (inr i) | inr i ↦ inr i ]

pub in_left : {X : Type 0} (x : X) (xs ys : List X) → IsIn x xs → IsIn x (xs ++ ys)
in_left x [] ys h = absurd h
in_left x (z ∷ xs) ys (inl e) = inl e
in_left x (z ∷ xs) ys (inr h) = inr (in_left x xs ys h)

pub in_right : {X : Type 0} (x : X) (xs ys : List X) → IsIn x ys → IsIn x (xs ++ ys)
in_right x [] ys h = h
in_right x (z ∷ xs) ys h = inr (in_right x xs ys h)

pub in_images : {X Y : Type 0} (f : X → Y) (x : X) (xs : List X) → IsIn x xs → IsIn (f x) (map f xs)
in_images f x [] i = absurd i
in_images f x (y ∷ ys) (inl e) = inl (ap f e)
in_images f x (y ∷ ys) (inr i) = inr (in_images f x ys i)

pub of_images : {X Y : Type 0} (f : X → Y) (y : Y) (xs : List X) → IsIn y (map f xs) → (x : X) × IsIn x xs × (y ≡ f x)
of_images f y [] i = absurd i
of_images f y (x ∷ xs) (inl e) = (x, inl refl, e)
of_images f y (x ∷ xs) (inr i) = let m = of_images f y xs i in (m.0, inr m.1, m.2)

module _ {Mind : Type 0} (S : Setting Mind) where
  -- an event that process p added at tick now, as the counts of its links rose
  pub record IsSent (p now : ℕ) (counts after : ℕ → ℕ) (e : Event) : Type 0 where
    pub sender : e.0.sender ≡ p
    pub receiver : IsProcess S e.0.receiver
    pub later : now < e.0.tick
    pub far : e.0.receiver ≢ p → now + S.lookahead ≤ e.0.tick
    pub below : e.0.tick < S.horizon
    pub above : counts e.0.receiver < e.0.number
    pub within : e.0.number ≤ after e.0.receiver

  pub in_time_is : (key : Key) (x : StepInput) (e : Event) → IsIn e (in_time S.horizon key x) → (e ≡ (key, x)) × (key.tick < S.horizon)
  in_time_is key x e =
      cond_both (nat_lt key.tick S.horizon) ((key, x) ∷ []) [] (λ es. IsIn e es → (e ≡ (key, x)) × (key.tick < S.horizon))
      (λ is h. elim h [ inl same ↦ (same, ltb-true _ _ is) | inr none ↦ absurd none ]) (λ is none. absurd none)

  one_in_time : (key : Key) (x : StepInput) → AreApart (in_time S.horizon key x)
  one_in_time key x = cond_both (nat_lt key.tick S.horizon) ((key, x) ∷ []) [] AreApart (λ _. ((λ f none. absurd none), tt)) (λ _. tt)

  -- a step is that of a crashed process, or goes by what the mind answers
  module _ (before : Process Mind) (key : Key) (x : StepInput) where
    pub by_crash : (P : Made S → Type 0) → P (record { process = before; entry = dead key; added = [] }) → P (made_by S before key x (S.react before.mind key.tick x)) → P (step S before key x)
    by_crash P down up = cond_both (has_crashed (S.crash key.receiver) key.tick) _ _ P (λ _. down) (λ _. up)

    pub step_key : (step S before key x).entry.key ≡ key
    step_key = by_crash (λ m. m.entry.key ≡ key) refl refl

  module _ (sound : IsSound S) (p now : ℕ) (is_process : IsProcess S p) where
    -- an event that joins at a tick
    at_tick : (counts : ℕ → ℕ) (to : ℕ) → IsProcess S to → (tick : ℕ) → now < tick → (to ≢ p → now + S.lookahead ≤ tick) → (x : StepInput) (e : Event)
        → IsIn e (in_time S.horizon (record { tick = tick; receiver = to; sender = p; number = counts to + 1 }) x) → IsSent p now counts (raised counts to) e
    at_tick counts to process tick later far x e h =
        let is = in_time_is _ x e h in
        let up : raised counts to to ≡ counts to + 1 = change_at counts to (counts to + 1) in
        subst (IsSent p now counts (raised counts to)) (sym is.0) (record {
          sender = refl;
          receiver = process;
          later = later;
          far = far;
          below = is.1;
          above = omega arith;
          within = omega (arith, up);
        })

    by_fate_sent : (counts : ℕ → ℕ) (to : ℕ) → IsProcess S to → (f : Fate) → IsSlow S f → (x : StepInput) (e : Event)
        → IsIn e (by_fate S.horizon f (record { tick = now; receiver = to; sender = p; number = counts to + 1 }) x) → IsSent p now counts (raised counts to) e
    by_fate_sent counts to process fate.Lost slow x e h = absurd h
    by_fate_sent counts to process (fate.Delay ticks) slow x e h = at_tick counts to process (now + ticks) (omega (arith, slow, sound.ahead)) (λ _. omega (arith, slow)) x e h

    joining_sent : (counts : ℕ → ℕ) (a : Action) → IsAllowed S.processes a → (e : Event) → IsIn e (joining S p now counts a) → IsSent p now counts (counted p counts a) e
    joining_sent counts (Send to payload) allowed e h =
        cond_both (to == p) _ _ (λ es. IsIn e es → IsSent p now counts (raised counts to) e)
        (λ is i. subst (λ q. IsSent p now counts (raised counts q) e) (sym (eqb-true to p is)) (at_tick counts p is_process (now + 1) (omega arith) (λ n. absurd (n refl)) _ e i))
        (λ is. by_fate_sent counts to allowed _ (sound.slow p to (counts to + 1) now is_process allowed (λ s. eqb-false to p is (sym s)) (omega arith)) _ e) h
    joining_sent counts (Wake pause tag) allowed e h = at_tick counts p is_process (now + pause) (omega (arith, allowed)) (λ n. absurd (n refl)) _ e h
    joining_sent counts (Note note) allowed e h = absurd h

    by_fate_apart : (f : Fate) (key : Key) (x : StepInput) → AreApart (by_fate S.horizon f key x)
    by_fate_apart fate.Lost key x = tt
    by_fate_apart (fate.Delay ticks) key x = one_in_time _ _

    one_joining : (counts : ℕ → ℕ) (a : Action) → AreApart (joining S p now counts a)
    one_joining counts (Send to payload) = cond_both (to == p) _ _ AreApart (λ _. one_in_time _ _) (λ _. by_fate_apart _ _ _)
    one_joining counts (Wake pause tag) = one_in_time _ _
    one_joining counts (Note note) = tt

    counted_up : (counts : ℕ → ℕ) (a : Action) (q : ℕ) → counts q ≤ counted p counts a q
    counted_up counts (Send to payload) q = raised_up counts to q
    counted_up counts (Wake pause tag) q = raised_up counts p q
    counted_up counts (Note note) q = omega arith

    counts_up : (counts : ℕ → ℕ) (actions : List Action) (q : ℕ) → counts q ≤ counts_after p counts actions q
    counts_up counts [] q = omega arith
    counts_up counts (a ∷ actions) q = omega (arith, counted_up counts a q, counts_up (counted p counts a) actions q)

    added_sent : (counts : ℕ → ℕ) (actions : List Action) → AllByRecursion (IsAllowed S.processes) actions → (e : Event) → IsIn e (added S p now counts actions)
        → IsSent p now counts (counts_after p counts actions) e
    added_sent counts [] allowed e h = absurd h
    added_sent counts (a ∷ actions) allowed e h = elim (in_append e (joining S p now counts a) (added S p now (counted p counts a) actions) h) [
      | inl i ↦
          let s = joining_sent counts a allowed.0 e i in
          let within : e.0.number ≤ counts_after p (counted p counts a) actions e.0.receiver = omega (arith, s.within, counts_up (counted p counts a) actions e.0.receiver) in
          record { sender = s.sender; receiver = s.receiver; later = s.later; far = s.far; below = s.below; above = s.above; within = within }
      | inr i ↦
          let s = added_sent (counted p counts a) actions allowed.1 e i in
          let above : counts e.0.receiver < e.0.number = omega (arith, s.above, counted_up counts a e.0.receiver) in
          record { sender = s.sender; receiver = s.receiver; later = s.later; far = s.far; below = s.below; above = above; within = s.within }
    ]

    apart_append : (xs ys : List Event) → AreApart xs → AreApart ys → ((e f : Event) → IsIn e xs → IsIn f ys → f.0 ≢ e.0) → AreApart (xs ++ ys)
    apart_append [] ys a b n = b
    apart_append (x ∷ xs) ys a b n = (
      (λ f i. elim (in_append f xs ys i) [ inl j ↦ a.0 f j | inr j ↦ n x f (inl refl) j ]),
      apart_append xs ys a.1 b (λ e f i j. n e f (inr i) j),
    )

    added_apart : (counts : ℕ → ℕ) (actions : List Action) → AllByRecursion (IsAllowed S.processes) actions → AreApart (added S p now counts actions)
    added_apart counts [] allowed = tt
    added_apart counts (a ∷ actions) allowed = apart_append _ _ (one_joining counts a) (added_apart (counted p counts a) actions allowed.1) (λ e f i j same.
        let s = joining_sent counts a allowed.0 e i in
        let t = added_sent (counted p counts a) actions allowed.1 f j in
        let at : (counted p counts a) f.0.receiver ≡ (counted p counts a) e.0.receiver = ap (λ (k : Key). counted p counts a k.receiver) same in
        let numbers : f.0.number ≡ e.0.number = ap (λ (k : Key). k.number) same in
        omega (arith, s.within, t.above, at, numbers))

  -- the same of a whole step, in which the process may have crashed
  module _ (sound : IsSound S) (before : Process Mind) (key : Key) (x : StepInput) (is_process : IsProcess S key.receiver) (mind : IsTrue (S.is_mind key.receiver before.mind)) where
    allowed : AllByRecursion (IsAllowed S.processes) (S.react before.mind key.tick x).actions
    allowed = recursion_from_All _ _ (sound.allowed key.receiver before.mind key.tick x is_process mind)

    pub step_sent : (e : Event) → IsIn e (step S before key x).added → IsSent key.receiver key.tick before.counts (step S before key x).process.counts e
    step_sent e =
        by_crash before key x (λ m. IsIn e m.added → IsSent key.receiver key.tick before.counts m.process.counts e) (λ none. absurd none)
        (added_sent sound key.receiver key.tick is_process before.counts _ allowed e)

    pub step_apart : AreApart (step S before key x).added
    step_apart = by_crash before key x (λ m. AreApart m.added) tt (added_apart sound key.receiver key.tick is_process before.counts _ allowed)

    pub step_counts : (q : ℕ) → before.counts q ≤ (step S before key x).process.counts q
    step_counts q =
        by_crash before key x (λ m. before.counts q ≤ m.process.counts q) (omega arith)
        (counts_up sound key.receiver key.tick is_process before.counts (S.react before.mind key.tick x).actions q)

    pub step_mind : IsTrue (S.is_mind key.receiver (step S before key x).process.mind)
    step_mind = by_crash before key x (λ m. IsTrue (S.is_mind key.receiver m.process.mind)) mind (sound.keeps key.receiver before.mind key.tick x is_process mind)
