-- Events in a row and all later ones, as a finite set of events.
use Rattle.pending_events.proofs.Words.{◌≡◌, ◌≢◌, ◌≤◌, ◌<◌, ℕ, zero, suc, ◌+◌, inl, inr, refl, sym, ap, ◌∙◌, subst, arith, Bool, cond, true, false, List, [], ◌∷◌, length, reverse, Option, Some, None, MatchOption, Result, Ok, Err, OnOk, OnErr, AllocError, find, cases_eq, option_or, eq_by_cmp, key_cmp, Key, StepInput, keys_total, exact_keys, Calendar, latest, all_in, due, found, came, AllByRecursion, IsCalendar, IsParted, IsPut, IsTaken, IsVacant, IsEmpty, Event, Events, IsLeast, joined, not_None, weaker, cases_lt, length-reverse, ticks_rise, due_before, inserted, removed, tie}
use Rattle.pending_events.proofs.{Falling.{found_here, latest_append, none_latest, or_assoc, or_None}, Nearby.{all_came}, Rows.{get_joined}}
use Rattle.std.specs.FinMap as events

-- events of another tick are not found
other_tick : (t : ℕ) (q : Key) (es : List Event) → AllByRecursion (λ e. e.0.tick ≡ t) es → q.tick ≢ t → latest q es ≡ None
other_tick t q es own n = none_latest q es (weaker _ _ (λ e is s. n (ap (λ (k : Key). k.tick) s ∙ is)) es own)

-- what is found among the events of all ticks
module _ (c : Calendar) (h : IsCalendar c) (q : Key) where
  none_from : (n : ℕ) → n ≤ q.tick → latest q (due_before c n) ≡ None
  unfolding due_before
  none_from zero low = refl
  none_from (suc n) low = latest_append q (due_before c n) (due c n) ∙ (λ i. option_or (other_tick n q (due c n) (h.own n) (λ s. omega (arith, s, low)) i) (none_from n (omega (arith, low)) i))

  found_before : (n : ℕ) → q.tick < n → latest q (due_before c n) ≡ found c q
  unfolding due_before
  found_before zero high = absurd (omega (arith, high))
  found_before (suc n) high = latest_append q (due_before c n) (due c n) ∙ elim (cases_eq q.tick n) [
    | inl s ↦ ap (option_or (latest q (due c n))) (none_from n (omega (arith, s))) ∙ (or_None (latest q (due c n)) ∙ ap (λ t. latest q (due c t)) (sym s))
    | inr m ↦ ap (λ o. option_or o (latest q (due_before c n))) (other_tick n q (due c n) (h.own n) m) ∙ found_before n (omega (arith, high, m))
  ]

  get_all : (m : Events) → events.get (all_in m c) q ≡ option_or (found c q) (events.get m q)
  get_all m = get_joined (due_before c 4294967296) m q ∙ ap (λ o. option_or o (events.get m q)) (elim (cases_lt q.tick 4294967296) [
    | inl low ↦ found_before 4294967296 low
    | inr high ↦ none_from 4294967296 high ∙ sym (ap (latest q) (h.late q.tick high))
  ])

-- what is changed in the one part is changed in both, where the other has none of it
chosen : (b : Bool) (f a o : Option StepInput) → (b ≡ true → f ≡ None) → cond b o (option_or f a) ≡ option_or f (cond b o a)
chosen true f a o h = sym (ap (λ g. option_or g o) (h refl))
chosen false f a o h = refl

module _ {end : ℕ} {m : Events} {c : Calendar} (h : IsParted end m c) {all : Events} (are : all_in m c ≡ all) where
  holds : (q : Key) → events.get all q ≡ option_or (found c q) (events.get m q)
  holds q = ap (λ s. events.get s q) (sym are) ∙ get_all c h.calendar q m

  -- the row has changed at a key
  here : (k : Key) → k.tick < end → (q : Key) (o : Option StepInput) → cond (eq_by_cmp key_cmp q k) o (events.get all q) ≡ option_or (found c q) (cond (eq_by_cmp key_cmp q k) o (events.get m q))
  here k low q o = ap (cond (eq_by_cmp key_cmp q k) o) (holds q) ∙ chosen _ (found c q) (events.get m q) o (λ e. ap (found c) (exact_keys q k (tie _ e)) ∙ ap (latest k) (h.none_below k.tick low))

  abbrev AreJoined : Result (Unit {0}) AllocError → Event → Events → Type 0
  AreJoined r e new = OnOk r (new ≡ events.insert all e.0 e.1) × OnErr r (new ≡ all)

  pub row_joined : (e : Event) → e.0.tick < end → (r : Result (Unit {0}) AllocError) (n : Events) → OnOk r (n ≡ events.insert m e.0 e.1) → OnErr r (n ≡ m) → IsParted end n c × AreJoined r e (all_in n c)
  row_joined e low (Err x) n ok err = subst (λ n. IsParted end n c × AreJoined (Err x) e (all_in n c)) (sym err) (h, (tt, are))
  row_joined e low (Ok x) n ok err = subst (λ n. IsParted end n c × AreJoined (Ok x) e (all_in n c)) (sym ok) (
    record {
      calendar = h.calendar;
      below = λ q y there. elim (inserted m e.0 e.1 q y there) [ inl s ↦ subst (λ p. p.tick < end) (sym s.0) low | inr old ↦ h.below q y old.1 ];
      none_below = h.none_below;
      from = h.from;
    },
    (
      events.same_map keys_total exact_keys (all_in (events.insert m e.0 e.1) c) (events.insert all e.0 e.1) (λ q. get_all c h.calendar q (events.insert m e.0 e.1)
          ∙ (ap (option_or (found c q)) (events.get-insert keys_total m e.0 e.1 q) ∙ sym (events.get-insert keys_total all e.0 e.1 q ∙ here e.0 low q (Some e.1)))),
      tt,
    ),
  )

  -- a later event comes
  pub later_joined : (e : Event) → end ≤ e.0.tick → (r : Result (Unit {0}) AllocError) (d : Calendar) → IsCalendar d → d.from ≡ c.from → IsPut (due c) (due d) e.0.tick (came r e) → IsParted end m d × AreJoined r e (all_in m d)
  later_joined e late r d i from put = (
    record {
      calendar = i;
      below = h.below;
      none_below = λ t low. put.others t (omega (arith, low, late)) ∙ h.none_below t low;
      from = omega (arith, h.from, from);
    },
    subst (AreJoined r e) (events.same_map keys_total exact_keys (joined all (came r e)) (all_in m d) (λ q. get_joined (came r e) all q
        ∙ (ap (option_or (latest q (came r e))) (holds q) ∙ (sym (or_assoc _ (found c q) (events.get m q)) ∙ (ap (λ o. option_or o (events.get m q)) (sym (added q)) ∙ sym (get_all d i q m))))))
        (elim r as (λ r. AreJoined r e (joined all (came r e))) [ Ok x ↦ (refl, tt) | Err x ↦ (tt, refl) ]),
  )
    where
      added : (q : Key) → found d q ≡ option_or (latest q (came r e)) (found c q)
      added q = elim (cases_eq q.tick e.0.tick) [
        | inl s ↦ ap (λ t. latest q (due d t)) s ∙ (ap (latest q) put.here ∙ (latest_append q (due c e.0.tick) (came r e) ∙ ap (λ t. option_or (latest q (came r e)) (latest q (due c t))) (sym s)))
        | inr n ↦ ap (latest q) (put.others q.tick n) ∙ sym (ap (λ o. option_or o (found c q)) (other_tick e.0.tick q (came r e) (all_came (λ f. f.0.tick ≡ e.0.tick) r e refl) n))
      ]

  -- the least event of the row is taken, which is the least of all
  abbrev IsTakenFrom : Option Event → Events → Type 0
  IsTakenFrom r new = MatchOption r (IsEmpty all) (λ e. IsLeast all e.0 e.1) × MatchOption r (new ≡ all) (λ e. new ≡ events.remove all e.0)

  pub row_taken : (r : Option Event) (n : Events) → (IsEmpty m → IsVacant c) → MatchOption r (IsEmpty m) (λ e. IsLeast m e.0 e.1) → MatchOption r (n ≡ m) (λ e. n ≡ events.remove m e.0) → IsParted end n c × IsTakenFrom r (all_in n c)
  row_taken None n vacant none same = subst (λ n. IsParted end n c × IsTakenFrom None (all_in n c)) (sym same)
      (h, ((λ q y there. none q y (sym (ap (λ es. option_or (latest q es) (events.get m q)) (vacant none q.tick)) ∙ (sym (holds q) ∙ there))), are))
  row_taken (Some e) n vacant least gone = subst (λ n. IsParted end n c × IsTakenFrom (Some e) (all_in n c)) (sym gone) (
    record { calendar = h.calendar; below = λ q y there. h.below q y (removed m e.0 q y there).1; none_below = h.none_below; from = h.from },
    (
      record {
        there = holds e.0 ∙ (ap (λ es. option_or (latest e.0 es) (events.get m e.0)) (h.none_below e.0.tick low) ∙ least.there);
        none_before = λ q y has less.
            let sooner = ticks_rise q e.0 less in
            least.none_before q y (sym (ap (λ es. option_or (latest q es) (events.get m q)) (h.none_below q.tick (omega (arith, low, sooner)))) ∙ (sym (holds q) ∙ has)) less;
      },
      events.same_map keys_total exact_keys (all_in (events.remove m e.0) c) (events.remove all e.0) (λ q. get_all c h.calendar q (events.remove m e.0)
          ∙ (ap (option_or (found c q)) (events.get-remove keys_total m e.0 q) ∙ sym (events.get-remove keys_total all e.0 q ∙ here e.0 low q None))),
    ),
  )
    where
      low : e.0.tick < end
      low = h.below e.0 e.1 least.there

pub none_parted : (m : Events) (c : Calendar) → IsCalendar c → IsVacant c → c.from ≡ 0 → IsEmpty m → IsParted 0 m c
none_parted m c i vacant from none = record { calendar = i; below = λ q y there. absurd (none q y there); none_below = λ t low. vacant t; from = omega (arith, from) }

pub all_none : (m : Events) (c : Calendar) → IsCalendar c → IsVacant c → all_in m c ≡ m
all_none m c i vacant = events.same_map keys_total exact_keys (all_in m c) m (λ q. get_all c i q m ∙ ap (λ es. option_or (latest q es) (events.get m q)) (vacant q.tick))

none_at : (m : Events) (q : Key) → IsEmpty m → events.get m q ≡ None
none_at m q none = go (events.get m q) refl
  where
    go : (o : Option StepInput) → events.get m q ≡ o → o ≡ None
    go None e = refl
    go (Some y) e = absurd (none q y e)

none_first : (es : List Event) → ((q : Key) → find key_cmp q es ≡ None) → length es ≡ 0
none_first [] h = refl
none_first (e ∷ es) h = absurd (not_None e.1 (sym (h e.0) ∙ found_here e.0 e (find key_cmp e.0 es) refl))

-- the events of the least tick are taken, and those of the row are these or none
module _ {end : ℕ} {m : Events} {c : Calendar} (h : IsParted end m c) (none : IsEmpty m) {tick : ℕ} {es : List Event} {d : Calendar} (i : IsCalendar d) (t : IsTaken c d tick es) (n : Events) where
  -- memory was refused
  pub lost : IsEmpty n → IsParted (tick + 1) n d
  lost empty = record { calendar = i; below = λ q y there. absurd (empty q y there); none_below = λ k low. t.gone k (omega (arith, low)); from = omega (arith, t.from) }

  module _ (is : n ≡ joined events.empty es) where
    at : (q : Key) → events.get n q ≡ latest q es
    at q = ap (λ s. events.get s q) is ∙ (get_joined es events.empty q ∙ (ap (option_or (latest q es)) (events.get-empty key_cmp q) ∙ or_None (latest q es)))

    own : AllByRecursion (λ e. e.0.tick ≡ tick) es
    own = subst (AllByRecursion (λ e. e.0.tick ≡ tick)) (sym t.all) (h.calendar.own tick)

    pub filled : IsParted (tick + 1) n d
    filled = record {
      calendar = i;
      below = λ q y there. elim (cases_eq q.tick tick) [
        | inl e ↦ omega (arith, e)
        | inr other ↦ absurd (not_None y (sym (at q ∙ other_tick tick q es own other) ∙ there))
      ];
      none_below = λ k low. t.gone k (omega (arith, low));
      from = omega (arith, t.from);
    }

    pub filled_same : all_in n d ≡ all_in m c
    filled_same = events.same_map keys_total exact_keys (all_in n d) (all_in m c) (λ q. get_all d i q n ∙ (ap (option_or (found d q)) (at q)
        ∙ (same q ∙ sym (get_all c h.calendar q m ∙ (ap (option_or (found c q)) (none_at m q none) ∙ or_None (found c q))))))
      where
        same : (q : Key) → option_or (found d q) (latest q es) ≡ found c q
        same q = elim (cases_eq q.tick tick) [
          | inl e ↦ ap (λ xs. option_or (latest q xs) (latest q es)) (t.gone q.tick (omega (arith, e))) ∙ (ap (latest q) t.all ∙ ap (λ k. latest q (due c k)) (sym e))
          | inr n ↦ ap (option_or (found d q)) (other_tick tick q es own n) ∙ (or_None (found d q) ∙ ap (latest q) (t.others q.tick n))
        ]

    pub filled_some : IsEmpty n → ⊥
    filled_some empty = omega (arith, t.first.some, ap length t.all, length-reverse es, none_first (reverse es) (λ q. sym (at q) ∙ none_at n q empty))
