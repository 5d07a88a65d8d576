-- A run of the list exists, and there is one alone.
use Rattle.trace_laws.proofs.Words.{◌++◌, ◌≡◌, ◌≢◌, ◌⊎◌, ℕ, zero, suc, ◌+◌, ◌<◌, inl, inr, refl, sym, ap, ◌∙◌, subst, List, [], ◌∷◌, length, arith, T, Bool, true, false, cond, ◌&&◌, Ordering, Less, Some, is_lt, map, cases_lt, eq_by_cmp, below_all, key_cmp, Key, StepInput, Setting, IsSound, Event, Events, World, Has, IsLeast, NoneBelow, IsWorld, made, taken, Run, exact_keys, not_before_itself, not_both, same_or_not}
use Rattle.trace_laws.proofs.{Sets.{apart, least_first, least_is_one, not_None, one_input, removed, removed_back, same_events, tie, tied}, Steps.{step_key}, Worlds.{taken_cases, taken_world, made_sent}}
use Rattle.std.specs.FinMap as finmap
use Rattle.{std.specs.FinMap.{find, is_sorted}, trace_laws.specs.History.{IsIn, Pair}}

-- ---- the least event of a set

first_part : (a b : Bool) → T (a && b) → T a
first_part a b h = grind arith

second_part : (a b : Bool) → T (a && b) → T b
second_part a b h = grind arith

is_less : (r : Ordering) → T (is_lt r) → r ≡ Less
is_less r h = grind arith

found_above : (k : Key) (es : List Event) → T (below_all key_cmp k es) → (q : Key) (y : StepInput) → find key_cmp q es ≡ Some y → key_cmp k q ≡ Less
found_above k [] below q y h = absurd (not_None y h)
found_above k (e ∷ es) below q y h =
    elim (eq_by_cmp key_cmp q e.0) as (λ b. eq_by_cmp key_cmp q e.0 ≡ b → cond b (Some e.1) (find key_cmp q es) ≡ Some y → key_cmp k q ≡ Less) [
      | true ↦ λ is found. ap (key_cmp k) (exact_keys q e.0 (tie _ is)) ∙ is_less _ (first_part _ _ below)
      | false ↦ λ is found. found_above k es (second_part _ _ below) q y found
    ] refl h

found_key : (es : List Event) (q : Key) (y : StepInput) → find key_cmp q es ≡ Some y → IsIn q (map (λ e. e.0) es)
found_key [] q y h = absurd (not_None y h)
found_key (e ∷ es) q y h =
    elim (eq_by_cmp key_cmp q e.0) as (λ b. eq_by_cmp key_cmp q e.0 ≡ b → cond b (Some e.1) (find key_cmp q es) ≡ Some y → IsIn q (map (λ e. e.0) (e ∷ es))) [
      | true ↦ λ is found. inl (exact_keys q e.0 (tie _ is))
      | false ↦ λ is found. inr (found_key es q y found)
    ] refl h

pub nothing_there : (m : Events) → finmap.entries m ≡ [] → (q : Key) (y : StepInput) → ¬ (Has m q y)
nothing_there m is q y h = not_None y (sym (finmap.get-entries m q ∙ ap (find key_cmp q) is) ∙ h)

-- a set with this first entry
module _ (m : Events) (e : Event) (es : List Event) (is : finmap.entries m ≡ e ∷ es) where
  sorted : T (is_sorted key_cmp (e ∷ es))
  sorted = subst (λ l. T (is_sorted key_cmp l)) is (finmap.entries_sorted m)

  at : (q : Key) → finmap.get m q ≡ find key_cmp q (e ∷ es)
  at q = finmap.get-entries m q ∙ ap (find key_cmp q) is

  at_other : (q : Key) → q ≢ e.0 → finmap.get m q ≡ find key_cmp q es
  at_other q n = at q ∙ ap (λ b. cond b (Some e.1) (find key_cmp q es)) (apart q e.0 n)

  -- it is the least
  pub front_least : IsLeast m e.0 e.1
  front_least = record {
    there = at e.0 ∙ ap (λ b. cond b (Some e.1) (find key_cmp e.0 es)) (tied e.0 e.0 refl);
    none_before = λ q y h before. elim (same_or_not q e.0) [
      | inl s ↦ not_before_itself e.0 (subst (λ z. key_cmp z e.0 ≡ Less) s before)
      | inr n ↦ not_both q e.0 before (found_above e.0 es (first_part _ _ sorted) q y (sym (at_other q n) ∙ h))
    ];
  }

  -- without it the rest is left
  pub front_removed : finmap.entries (finmap.remove m e.0) ≡ es
  front_removed = ap finmap.entries (same_events (finmap.remove m e.0) (finmap.from_sorted es) there back) ∙ finmap.entries-from_sorted key_cmp es rest
    where
      rest : T (is_sorted key_cmp es)
      rest = second_part (below_all key_cmp e.0 es) (is_sorted key_cmp es) sorted

      there : (q : Key) (y : StepInput) → Has (finmap.remove m e.0) q y → Has (finmap.from_sorted es) q y
      there q y h = let r = removed m e.0 q y h in finmap.get-from_sorted key_cmp es q rest ∙ (sym (at_other q r.0) ∙ r.1)

      back : (q : Key) (y : StepInput) → Has (finmap.from_sorted es) q y → Has (finmap.remove m e.0) q y
      back q y h =
          let f : find key_cmp q es ≡ Some y = sym (finmap.get-from_sorted key_cmp es q rest) ∙ h in
          let n : q ≢ e.0 = λ s. not_before_itself e.0 (subst (λ z. key_cmp e.0 z ≡ Less) s (found_above e.0 es (first_part _ _ sorted) q y f)) in
          removed_back m e.0 q y n (at_other q n ∙ f)

-- a set has no event below a tick, or a least one that is below it
pub least_below : (end : ℕ) (m : Events) → NoneBelow end m ⊎ ((k : Key) × (x : StepInput) × IsLeast m k x × (k.tick < end))
least_below end m = go (finmap.entries m) refl
  where
    go : (es : List Event) → finmap.entries m ≡ es → NoneBelow end m ⊎ ((k : Key) × (x : StepInput) × IsLeast m k x × (k.tick < end))
    go [] is = inl (λ q y h. absurd (nothing_there m is q y h))
    go (e ∷ es) is =
        let least = front_least m e es is in
        elim (cases_lt e.0.tick end) [
          | inl h ↦ inr (e.0, e.1, least, h)
          | inr h ↦ inl (λ q y there. omega (arith, h, least_first m e.0 q e.1 y least there))
        ]

-- ---- the next step of a run

module _ {Mind : Type 0} (S : Setting Mind) (end : ℕ) (w : World Mind) (k : Key) (x : StepInput) (least : IsLeast w.pending k x) (early : k.tick < end) where
  -- the step of the least event, said by its entry
  by_entry : (P : World Mind → Type 0) → P (taken S w k x) → let e = (made S w k x).entry in IsLeast w.pending e.key x × (e.key.tick < end) × (e ≡ (made S w e.key x).entry) × P (taken S w e.key x)
  by_entry P then =
      subst (λ (z : Key). IsLeast w.pending z x × (z.tick < end) × ((made S w k x).entry ≡ (made S w z x).entry) × P (taken S w z x))
      (sym (step_key S (w.process k.receiver) k x)) (least, early, refl, then)

  -- a run from the world after it is the rest of one from the world before
  pub again : (rest : List Pair) (last : World Mind) → Run S end (taken S w k x) rest last → Run S end w (((made S w k x).entry, x) ∷ rest) last
  again rest last r = by_entry (λ v. Run S end v rest last) r

  -- every run begins with it
  pub next : (run : List Pair) (last : World Mind) → Run S end w run last → (rest : List Pair) × (run ≡ ((made S w k x).entry, x) ∷ rest) × Run S end (taken S w k x) rest last
  next [] last r = absurd (omega (arith, early, r.0 k x least.there))
  next (s ∷ rest) last r =
      let same_key : s.0.key ≡ k = least_is_one w.pending s.0.key k s.1 x r.0 least in
      let same_input : s.1 ≡ x = one_input w.pending k s.1 x (subst (λ z. Has w.pending z s.1) same_key r.0.there) least.there in
      let is : s.0 ≡ (made S w k x).entry = r.2 ∙ (λ i. (made S w (same_key i) (same_input i)).entry) in
      (rest, (λ i. (is i, same_input i) ∷ rest), subst (λ v. Run S end v rest last) (λ i. taken S w (same_key i) (same_input i)) r.3)

-- ---- a run exists: ticks rise, and at one tick the events run out

abbrev without : {X : Type 0} (x : X) (xs : List X) → IsIn x xs → List X
without x [] i = absurd i
without x (y ∷ xs) (inl e) = xs
without x (y ∷ xs) (inr i) = y ∷ without x xs i

length_without : {X : Type 0} (x : X) (xs : List X) (i : IsIn x xs) → length xs ≡ suc (length (without x xs i))
length_without x [] i = absurd i
length_without x (y ∷ xs) (inl e) = refl
length_without x (y ∷ xs) (inr i) = ap suc (length_without x xs i)

in_without : {X : Type 0} (x : X) (xs : List X) (i : IsIn x xs) (z : X) → z ≢ x → IsIn z xs → IsIn z (without x xs i)
in_without x [] i z n h = absurd i
in_without x (y ∷ xs) (inl e) z n (inl f) = absurd (n (f ∙ sym e))
in_without x (y ∷ xs) (inl e) z n (inr j) = j
in_without x (y ∷ xs) (inr i) z n (inl f) = inl f
in_without x (y ∷ xs) (inr i) z n (inr j) = inr (in_without x xs i z n j)

module _ {Mind : Type 0} (S : Setting Mind) (sound : IsSound S) (end : ℕ) where
  abbrev pub Runs : World Mind → Type 0
  Runs w = (history : List Pair) × (last : World Mind) × Run S end w history last

  -- all events of tick t are among these keys
  abbrev AreAt : ℕ → World Mind → List Key → Type 0
  AreAt t w keys = (k : Key) (x : StepInput) → Has w.pending k x → k.tick ≡ t → IsIn k keys

  -- the events of one tick: there are fewer than m
  run_tick : (t : ℕ) → ((w : World Mind) → IsWorld S w → NoneBelow (t + 1) w.pending → Runs w) → t < end
      → (m : ℕ) (w : World Mind) → IsWorld S w → NoneBelow t w.pending → (keys : List Key) → length keys < m → AreAt t w keys → Runs w
  run_tick t later early zero w is_world none keys few at = absurd (omega (arith, few))
  run_tick t later early (suc m) w is_world none keys few at = elim (least_below (t + 1) w.pending) [
    | inl none_now ↦ later w is_world none_now
    | inr (k, x, least, below) ↦
        let now : k.tick ≡ t = omega (arith, none k x least.there, below) in
        let i = at k x least.there now in
        let sent = made_sent S w k x sound is_world least.there in
        let r : Runs (taken S w k x) = run_tick t later early m (taken S w k x) (taken_world S w k x sound is_world least.there)
        (λ q y h. elim (taken_cases S w k x q y h) [ inl j ↦ omega (arith, (sent (q, y) j).later, now) | inr p ↦ none q y p.1 ])
        (without k keys i) (omega (arith, few, length_without k keys i))
        (λ q y h time. elim (taken_cases S w k x q y h) [ inl j ↦ absurd (omega (arith, (sent (q, y) j).later, now, time)) | inr p ↦ in_without k keys i q p.0 (at q y p.1 time) ]) in
        (((made S w k x).entry, x) ∷ r.0, r.1, again S end w k x least (omega (arith, early, now)) r.0 r.1 r.2)
  ]

  run_from : (d t : ℕ) → t + d ≡ end → (w : World Mind) → IsWorld S w → NoneBelow t w.pending → Runs w
  run_from zero t sum w is_world none = ([], w, ((λ k x h. omega (arith, none k x h)), refl))
  run_from (suc d) t sum w is_world none =
      run_tick t (run_from d (t + 1) (omega arith)) (omega arith) (length keys + 1) w is_world none keys (omega arith)
      (λ k x h time. found_key (finmap.entries w.pending) k x (sym (finmap.get-entries w.pending k) ∙ h))
    where
      keys : List Key
      keys = map (λ e. e.0) (finmap.entries w.pending)

  -- from every world there is a run up to every tick
  pub run_exists : (w : World Mind) → IsWorld S w → Runs w
  run_exists w is_world = run_from end 0 (omega arith) w is_world (λ k x h. omega arith)

module _ {Mind : Type 0} (S : Setting Mind) (end : ℕ) where
  -- and one alone
  pub one_run : (w : World Mind) (h g : List Pair) (v u : World Mind) → Run S end w h v → Run S end w g u → (h ≡ g) × (v ≡ u)
  one_run w [] [] v u a b = (refl, a.1 ∙ sym b.1)
  one_run w [] (t ∷ g) v u a b = absurd (omega (arith, a.0 t.0.key t.1 b.0.there, b.1))
  one_run w (s ∷ h) g v u a b =
      let n = next S end w s.0.key s.1 a.0 a.1 g u b in
      let rest = one_run (taken S w s.0.key s.1) h n.0 v u a.3 n.2 in
      ((λ i. (a.2 i, s.1) ∷ rest.0 i) ∙ sym n.1, rest.1)

-- ---- runs that may not be over yet

module _ {Mind : Type 0} (S : Setting Mind) (end : ℕ) where
  abbrev pub RunSoFar : World Mind → List Pair → World Mind → Type 0
  RunSoFar old [] new = new ≡ old
  RunSoFar old (s ∷ rest) new =
      IsLeast old.pending s.0.key s.1 × (s.0.key.tick < end) × (s.0 ≡ (made S old s.0.key s.1).entry) × RunSoFar (taken S old s.0.key s.1) rest new

  pub so_far_more : (h : List Pair) (old mid : World Mind) → RunSoFar old h mid → (k : Key) (x : StepInput) → IsLeast mid.pending k x → k.tick < end
      → RunSoFar old (h ++ ((made S mid k x).entry, x) ∷ []) (taken S mid k x)
  so_far_more [] old mid run k x least early =
      subst (λ o. RunSoFar o (((made S mid k x).entry, x) ∷ []) (taken S mid k x)) run (by_entry S end mid k x least early (λ v. taken S mid k x ≡ v) refl)
  so_far_more (s ∷ h) old mid run k x least early = (run.0, run.1, run.2, so_far_more h (taken S old s.0.key s.1) mid run.3 k x least early)

  pub so_far_over : (h : List Pair) (old new : World Mind) → RunSoFar old h new → NoneBelow end new.pending → Run S end old h new
  so_far_over [] old new run none = (subst (λ (z : World Mind). NoneBelow end z.pending) run none, run)
  so_far_over (s ∷ h) old new run none = (run.0, run.1, run.2, so_far_over h (taken S old s.0.key s.1) new run.3 none)

  -- after some steps, the rest of the run
  pub so_far_then : (h g : List Pair) (old mid new : World Mind) → RunSoFar old h mid → Run S end mid g new → Run S end old (h ++ g) new
  so_far_then [] g old mid new run more = subst (λ (z : World Mind). Run S end z g new) run more
  so_far_then (s ∷ h) g old mid new run more = (run.0, run.1, run.2, so_far_then h g (taken S old s.0.key s.1) mid new run.3 more)
