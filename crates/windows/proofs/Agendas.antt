-- Events in a row and events that wait, as one set.
use Rattle.windows.proofs.Words.{◌≡◌, ◌≢◌, ◌⊎◌, ◌≤◌, ◌<◌, ℕ, ◌+◌, inl, inr, refl, sym, ap, ◌∙◌, subst, List, [], ◌∷◌, ◌++◌, map, append_assoc, min, arith, false, Less, Option, Some, None, MatchOption, AllByRecursion, IsPermutation, cases_lt, Contains-permutation, IsPermutation-sym, key_cmp, Key, Letter, StepInput, keys_total, exact_keys, same_or_not, ticks_rise, weaker, IsIn, IsEmpty, IsLeastTick, Event, Events, Has, IsLeast, NoneBelow, joined, joined_one, least_below, insert_at, insert_other, joined_cases, one_input, remove_at, remove_other, removed, same_events, event_of, earlier_of, soonest_in, in_map, joined_back, map_in, AreFrom, AreLists, AreOne, all_ahead, in_box, All, All-push, before_or_not, not_None, in_left, in_right, IsNextStart, first_tick, is_some, option_or}
use Rattle.windows.proofs.{Letters.{joined_both}, Ranked.{contains_in, in_contains}, Places.{all_at, all_place}}
use Rattle.std.specs.FinMap as events
use Rattle.pending_events.specs.Inside.Calendar.{latest}
use Rattle.pending_events.proofs.{Falling.{none_latest}, Rows.{get_joined}}
use Rattle.windows.specs.declared.agenda.Inner.{Inner}

-- ---- the tick at which the next window opens

pub none_pending : (horizon : ℕ) → IsNextStart horizon [] horizon
none_pending horizon = record { to_horizon = omega arith; late = all_at (NoneBelow horizon) [] (λ i m at. absurd (not_None m at)); least = inl refl }

-- nothing is before the least tick
pub from_least : (m : Events) (tick : ℕ) → IsLeastTick m tick → NoneBelow tick m
from_least m tick least k y h = go (before_or_not k least.0)
  where
    go : (key_cmp k least.0 ≡ Less) ⊎ ((k ≡ least.0) ⊎ (key_cmp least.0 k ≡ Less)) → tick ≤ k.tick
    go (inl before) = absurd (least.2.none_before k y h before)
    go (inr (inl same)) = omega (arith, ap (λ (z : Key). z.tick) same, least.3)
    go (inr (inr after)) = omega (arith, ticks_rise least.0 k after, least.3)

none_earlier : (m : Events) (a b : ℕ) → a ≤ b → NoneBelow b m → NoneBelow a m
none_earlier m a b le none k y h = omega (arith, le, none k y h)

module _ (horizon : ℕ) (own : List Events) (m : Events) where
  later_all : (a b : ℕ) → a ≤ b → All (NoneBelow b) own → All (NoneBelow a) own
  later_all a b le all = all_at (NoneBelow a) own (λ i x at. none_earlier x a b le (all_place (NoneBelow b) own all i x at))

  keeps : (next : ℕ) → (next ≡ horizon) ⊎ ((set : Events) × IsIn set own × IsLeastTick set next) → (next ≡ horizon) ⊎ ((set : Events) × IsIn set (own ++ m ∷ []) × IsLeastTick set next)
  keeps next (inl at) = inl at
  keeps next (inr r) = inr (r.0, in_left r.0 own (m ∷ []) r.1, r.2)

  pub one_empty : (next : ℕ) → IsNextStart horizon own next → IsEmpty m → IsNextStart horizon (own ++ m ∷ []) next
  one_empty next is none = record {
    to_horizon = is.to_horizon;
    late = All-push (NoneBelow next) own m is.late (λ k y h. absurd (none k y h));
    least = keeps next is.least;
  }

  pub one_pending : (next tick : ℕ) → IsNextStart horizon own next → IsLeastTick m tick → IsNextStart horizon (own ++ m ∷ []) (min next tick)
  one_pending next tick is at = record {
    to_horizon = omega (arith, is.to_horizon);
    late = All-push (NoneBelow (min next tick)) own m (later_all (min next tick) next (omega arith) is.late) (none_earlier m (min next tick) tick (omega arith) (from_least m tick at));
    least = go (cases_lt tick next);
  }
    where
      go : (tick < next) ⊎ (next ≤ tick) → (min next tick ≡ horizon) ⊎ ((set : Events) × IsIn set (own ++ m ∷ []) × IsLeastTick set (min next tick))
      go (inl less) = inr (m, in_right m own (m ∷ []) (inl refl), subst (IsLeastTick m) (omega (arith, less)) at)
      go (inr more) = subst (λ n. (n ≡ horizon) ⊎ ((set : Events) × IsIn set (own ++ m ∷ []) × IsLeastTick set n)) (omega (arith, more)) (keeps next is.least)

-- ---- the least tick

earlier_three : (a b c : Option ℕ) → earlier_of a (earlier_of b c) ≡ earlier_of (earlier_of a b) c
earlier_three None b c = refl
earlier_three (Some a) None c = refl
earlier_three (Some a) (Some b) None = refl
earlier_three (Some a) (Some b) (Some c) = ap Some (omega arith)

pub tick_more : (es : List Event) (e : Event) → first_tick (es ++ e ∷ []) ≡ earlier_of (first_tick es) (Some e.0.tick)
tick_more [] e = refl
tick_more (x ∷ es) e = ap (earlier_of (Some x.0.tick)) (tick_more es e) ∙ earlier_three (Some x.0.tick) (first_tick es) (Some e.0.tick)

-- of letters
pub tick_of_letters : (xs : List Letter) → first_tick (map event_of xs) ≡ soonest_in xs
tick_of_letters [] = refl
tick_of_letters (x ∷ xs) = ap (earlier_of (Some x.key.tick)) (tick_of_letters xs)

-- sets without a least tick are the same
pub none_same : (m n : Events) (a b : Option ℕ) → MatchOption a (IsEmpty m) (λ t. IsLeastTick m t) → MatchOption b (IsEmpty n) (λ t. IsLeastTick n t) → is_some (earlier_of a b) ≡ false → m ≡ n
none_same m n None None none none' e = same_events m n (λ k y h. absurd (none k y h)) (λ k y h. absurd (none' k y h))
none_same m n None (Some b) is is' e = cc
none_same m n (Some a) None is is' e = cc
none_same m n (Some a) (Some b) is is' e = cc

-- an event of the tick is there, and none is below it
least_at : (m : Events) (t : ℕ) (k : Key) (y : StepInput) → Has m k y → k.tick ≡ t → ((q : Key) (z : StepInput) → Has m q z → t ≤ q.tick) → IsLeastTick m t
least_at m t k y there at low = go (least_below (k.tick + 1) m)
  where
    go : NoneBelow (k.tick + 1) m ⊎ ((l : Key) × (x : StepInput) × IsLeast m l x × (l.tick < k.tick + 1)) → IsLeastTick m t
    go (inl none) = let far = none k y there in absurd (omega (arith, far))
    go (inr l) = let below = l.3 in let above = low l.0 l.1 l.2.there in (l.0, l.1, l.2, omega (arith, below, above, at))

pub of_list : (P : Key → Type 0) (es : List Event) → AllByRecursion (λ e. P e.0) es → (k : Key) (y : StepInput) → IsIn (k, y) es → P k
of_list P [] all k y i = absurd i
of_list P (e ∷ es) all k y (inl is) = subst P (sym (ap (λ (p : Event). p.0) is)) all.0
of_list P (e ∷ es) all k y (inr i) = of_list P es all.1 k y i

module _ (m : Events) (es : List Event) where
  -- what holds of all keys
  pub of_joined : (P : Key → Type 0) → ((k : Key) (y : StepInput) → Has m k y → P k) → AllByRecursion (λ e. P e.0) es → (k : Key) (y : StepInput) → Has (joined m es) k y → P k
  of_joined P old new k y h = go (joined_cases es m k y h)
    where
      go : IsIn (k, y) es ⊎ Has m k y → P k
      go (inl i) = of_list P es new k y i
      go (inr there) = old k y there

-- the least tick of a set, with one event more and with several
module _ (m : Events) (e : Event) where
  kept : (k : Key) (y : StepInput) → Has m k y → (z : StepInput) × Has (events.insert m e.0 e.1) k z
  kept k y h = there (same_or_not k e.0)
    where
      there : (k ≡ e.0) ⊎ (k ≢ e.0) → (z : StepInput) × Has (events.insert m e.0 e.1) k z
      there (inl s) = (e.1, subst (λ q. Has (events.insert m e.0 e.1) q e.1) (sym s) (insert_at m e.0 e.1))
      there (inr n) = (y, insert_other m e.0 e.1 k n ∙ h)

  -- where none is earlier
  of_both : (t : ℕ) → ((q : Key) (y : StepInput) → Has m q y → t ≤ q.tick) → t ≤ e.0.tick → (q : Key) (y : StepInput) → Has (events.insert m e.0 e.1) q y → t ≤ q.tick
  of_both t old new = of_joined m (e ∷ []) (λ q. t ≤ q.tick) old (new, tt)

  least_insert : (a : Option ℕ) → MatchOption a (IsEmpty m) (λ t. IsLeastTick m t) → MatchOption (earlier_of a (Some e.0.tick)) (IsEmpty (events.insert m e.0 e.1)) (λ t. IsLeastTick (events.insert m e.0 e.1) t)
  least_insert None none = least_at _ e.0.tick e.0 e.1 (insert_at m e.0 e.1) refl (of_both e.0.tick (λ q y there. absurd (none q y there)) (omega arith))
  least_insert (Some a) least = go (cases_lt a e.0.tick)
    where
      go : (a < e.0.tick) ⊎ (e.0.tick ≤ a) → IsLeastTick (events.insert m e.0 e.1) (min a e.0.tick)
      go (inl less) =
          let k = kept least.0 least.1 least.2.there in
          subst (IsLeastTick (events.insert m e.0 e.1)) (omega (arith, less)) (least_at _ a least.0 k.0 k.1 least.3 (of_both a (from_least m a least) (omega (arith, less))))
      go (inr more) =
          subst (IsLeastTick (events.insert m e.0 e.1)) (omega (arith, more)) (least_at _ e.0.tick e.0 e.1 (insert_at m e.0 e.1) refl
          (of_both e.0.tick (λ q y there. let far = from_least m a least q y there in omega (arith, far, more)) (omega arith)))

pub least_joined : (es : List Event) (m : Events) (a : Option ℕ) → MatchOption a (IsEmpty m) (λ t. IsLeastTick m t) → MatchOption (earlier_of a (first_tick es)) (IsEmpty (joined m es)) (λ t. IsLeastTick (joined m es) t)
least_joined [] m None h = h
least_joined [] m (Some a) h = h
least_joined (e ∷ es) m a h =
    let n : Events = events.insert m e.0 e.1 in
    subst (λ o. MatchOption o (IsEmpty (joined n es)) (λ t. IsLeastTick (joined n es) t)) (sym (earlier_three a (Some e.0.tick) (first_tick es)))
    (least_joined es n (earlier_of a (Some e.0.tick)) (least_insert m e a h))

-- ---- an event below the tick from which others are

module _ (m : Events) (es : List Event) (end : ℕ) (from : AreFrom end es) (k : Key) (early : k.tick < end) where
  not_later : latest k es ≡ None
  not_later = none_latest k es (weaker (λ (e : Event). end ≤ e.0.tick) (λ e. k ≢ e.0) (λ e l s. omega (arith, l, early, ap (λ (q : Key). q.tick) s)) es from)

  pub has_early : events.get (joined m es) k ≡ events.get m k
  has_early = get_joined es m k ∙ ap (λ o. option_or o (events.get m k)) not_later

  -- a set changed at this key alone
  module _ (o : Option StepInput) (n n' : Events) (there : events.get n k ≡ o) (others : (q : Key) → q ≢ k → events.get n q ≡ events.get m q) (there' : events.get n' k ≡ o) (others' : (q : Key) → q ≢ k → events.get n' q ≡ events.get (joined m es) q) where
    changed : joined n es ≡ n'
    changed = events.same_map keys_total exact_keys (joined n es) n' (λ q. go q (same_or_not q k))
      where
        go : (q : Key) → (q ≡ k) ⊎ (q ≢ k) → events.get (joined n es) q ≡ events.get n' q
        go q (inl s) = ap (events.get (joined n es)) s ∙ (get_joined es n k ∙ (ap (λ l. option_or l (events.get n k)) not_later ∙ (there ∙ sym (ap (events.get n') s ∙ there'))))
        go q (inr other) = get_joined es n q ∙ (ap (option_or (latest q es)) (others q other) ∙ (sym (get_joined es m q) ∙ sym (others' q other)))

  pub insert_past : (x : StepInput) → joined (events.insert m k x) es ≡ events.insert (joined m es) k x
  insert_past x = changed (Some x) (events.insert m k x) (events.insert (joined m es) k x) (insert_at m k x) (λ q n. insert_other m k x q n) (insert_at (joined m es) k x) (λ q n. insert_other (joined m es) k x q n)

  remove_past : joined (events.remove m k) es ≡ events.remove (joined m es) k
  remove_past = changed None (events.remove m k) (events.remove (joined m es) k) (remove_at m k) (λ q n. remove_other m k q n) (remove_at (joined m es) k) (λ q n. remove_other (joined m es) k q n)

  least_past : (x : StepInput) → IsLeast m k x → IsLeast (joined m es) k x
  least_past x least = record {
    there = has_early ∙ least.there;
    none_before = λ q y has less. go q y less (joined_cases es m q y has);
  }
    where
      go : (q : Key) (y : StepInput) → key_cmp q k ≡ Less → IsIn (q, y) es ⊎ Has m q y → ⊥
      go q y less (inl i) = let late = of_list (λ p. end ≤ p.tick) es from q y i in let low = ticks_rise q k less in omega (arith, late, low, early)
      go q y less (inr has) = least.none_before q y has less

-- what a call that takes the least of the early events answers
module _ (m n : Events) (es : List Event) (end : ℕ) (from : AreFrom end es) (below : (k : Key) (y : StepInput) → Has m k y → k.tick < end) where
  pub taken_least : (r : Option Event) → MatchOption r (IsEmpty m) (λ e. IsLeast m e.0 e.1) → MatchOption r (NoneBelow end (joined m es)) (λ e. IsLeast (joined m es) e.0 e.1 × (e.0.tick < end))
  taken_least None none = of_joined m es (λ q. end ≤ q.tick) (λ q y there. absurd (none q y there)) from
  taken_least (Some e) least = let early = below e.0 e.1 least.there in (least_past m es end from e.0 early e.1 least, early)

  pub taken_removed : (r : Option Event) → MatchOption r (IsEmpty m) (λ e. IsLeast m e.0 e.1) → MatchOption r (n ≡ m) (λ e. n ≡ events.remove m e.0) → MatchOption r (joined n es ≡ joined m es) (λ e. joined n es ≡ events.remove (joined m es) e.0)
  taken_removed None least is = ap (λ s. joined s es) is
  taken_removed (Some e) least is = ap (λ s. joined s es) is ∙ remove_past m es end from e.0 (below e.0 e.1 least.there)

  pub taken_below : (r : Option Event) → MatchOption r (n ≡ m) (λ e. n ≡ events.remove m e.0) → (k : Key) (y : StepInput) → Has n k y → k.tick < end
  taken_below None is k y there = below k y (subst (λ s. Has s k y) is there)
  taken_below (Some e) is k y there = below k y (removed m e.0 k y (subst (λ s. Has s k y) is there)).1

-- ---- letters join in whatever order

module _ (m : Events) (k : Key) (y : StepInput) where
  -- where letters with one key become one event, what has joined with it has its input
  input_of_one : (xs : List Letter) → AreOne xs → Has (joined m (map event_of xs)) k y → (e : Event) → IsIn e (map event_of xs) → e.0 ≡ k → e.1 ≡ y
  input_of_one xs one has e i at =
      let z = in_map event_of xs e i in
      let same : (f : Event) → IsIn f (map event_of xs) → f.0 ≡ k → f.1 ≡ e.1 =
      λ f j there.
      let w = in_map event_of xs f j in
      let keys : w.0.key ≡ z.0.key = sym (ap (λ (g : Event). g.0) w.2) ∙ (there ∙ (sym at ∙ ap (λ (g : Event). g.0) z.2)) in
      ap (λ (g : Event). g.1) (w.2 ∙ (one w.0 z.0 w.1 z.1 keys ∙ sym z.2)) in
      one_input (joined m (map event_of xs)) k e.1 y (joined_back (map event_of xs) m k e.1 same (inl (subst (λ q. IsIn (q, e.1) (map event_of xs)) at i))) has

  moved_has : (xs ys : List Letter) → AreOne xs → ((x : Letter) → IsIn x xs → IsIn x ys) → ((x : Letter) → IsIn x ys → IsIn x xs) → Has (joined m (map event_of xs)) k y → Has (joined m (map event_of ys)) k y
  moved_has xs ys one to back has =
      let across : (e : Event) → IsIn e (map event_of ys) → IsIn e (map event_of xs) =
      λ e i. let z = in_map event_of ys e i in subst (λ f. IsIn f (map event_of xs)) (sym z.2) (map_in event_of xs z.0 (back z.0 z.1)) in
      joined_back (map event_of ys) m k y (λ e i at. input_of_one xs one has e (across e i) at) (go (joined_cases (map event_of xs) m k y has))
    where
      go : IsIn (k, y) (map event_of xs) ⊎ Has m k y → IsIn (k, y) (map event_of ys) ⊎ Has m k y
      go (inl i) = let z = in_map event_of xs (k, y) i in inl (subst (λ f. IsIn f (map event_of ys)) (sym z.2) (map_in event_of ys z.0 (to z.0 z.1)))
      go (inr old) = inr old

pub joined_moved : (m : Events) (xs ys : List Letter) → IsPermutation xs ys → AreOne xs → joined m (map event_of xs) ≡ joined m (map event_of ys)
joined_moved m xs ys same one =
    let to : (x : Letter) → IsIn x xs → IsIn x ys = λ x i. contains_in ys x (Contains-permutation xs ys x same (in_contains xs x i)) in
    let back : (x : Letter) → IsIn x ys → IsIn x xs = λ x i. contains_in xs x (Contains-permutation ys xs x (IsPermutation-sym xs ys same) (in_contains ys x i)) in
    same_events (joined m (map event_of xs)) (joined m (map event_of ys)) (λ k y. moved_has m k y xs ys one to back)
    (λ k y. moved_has m k y ys xs (λ x z i j e. one x z (back x i) (back z j) e) back to)

-- where there is no least tick there is no letter
pub no_letter : (xs : List Letter) → soonest_in xs ≡ None → xs ≡ []
no_letter [] e = refl
no_letter (x ∷ xs) e = some (soonest_in xs) e
  where
    some : (o : Option ℕ) → earlier_of (Some x.key.tick) o ≡ None → x ∷ xs ≡ []
    some None h = cc
    some (Some t) h = cc

-- ---- events are parted

module _ (due later es : List Event) (e : Event) (same : joined events.empty (due ++ later) ≡ joined events.empty es) where
  pub filed_due : (end : ℕ) → AreFrom end later → e.0.tick < end → joined events.empty ((due ++ e ∷ []) ++ later) ≡ joined events.empty (es ++ e ∷ [])
  filed_due end from early =
      sym (joined_both events.empty (due ++ e ∷ []) later)
      ∙ (ap (λ m. joined m later) (joined_one events.empty due e)
      ∙ (insert_past (joined events.empty due) later end from e.0 early e.1
      ∙ (ap (λ m. events.insert m e.0 e.1) (joined_both events.empty due later ∙ same) ∙ sym (joined_one events.empty es e))))

  pub filed_later : joined events.empty (due ++ (later ++ e ∷ [])) ≡ joined events.empty (es ++ e ∷ [])
  filed_later =
      ap (joined events.empty) (sym (append_assoc due later (e ∷ [])))
      ∙ (joined_one events.empty (due ++ later) e ∙ (ap (λ m. events.insert m e.0 e.1) same ∙ sym (joined_one events.empty es e)))

-- ---- what the box has

module _ (i j : Inner) (same : i ≡ j) where
  pub are_inside : AreLists j.lists × AreOne (in_box j.inbox) → AreLists i.lists × AreOne (in_box i.inbox)
  are_inside = subst (λ (k : Inner). AreLists k.lists × AreOne (in_box k.inbox)) (sym same)

  pub all_inside : all_ahead i.lists i.inbox ≡ all_ahead j.lists j.inbox
  all_inside = ap (λ (k : Inner). all_ahead k.lists k.inbox) same
