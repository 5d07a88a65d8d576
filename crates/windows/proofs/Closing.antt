-- What the processes of a window make of a stage, and what the closing of the window leaves.
use Rattle.windows.proofs.Words.{◌≡◌, ◌⊎◌, ◌↔◌, ℕ, zero, suc, ◌+◌, ◌-◌, ◌*◌, ◌<◌, ◌≤◌, inl, inr, refl, sym, ap, ◌∙◌, subst, List, [], ◌∷◌, ◌++◌, Some, length, map, slice_get, arith, append_assoc, append-nil, length-append, true, false, cond, not, nat_eq, IsTrue, All, slice_get_within, get_or_from_slice_get, length-map, length-filter_both, All-append, All-weaker, length_permutation, IsPermutation-sym, most_step_actions, EntryRecord, Mind, is_rising, Key, Letter, StepInput, IsInRange, Record, IsIn, Pair, pairs_of, setting_of, process_of, own_of, IsSeated, Setting, IsSound, IsProcess, Event, Events, Process, World, IsWorld, Has, NoneBelow, Run, taken, joined, entries, opening_process, IsTrace, closed_of_run, reached_next, reached_end, reached_front, length-take, joined_cases, one_input, same_Some, setting_sound, posted_to, SlipView, Vec, kept_in, IsPermutation, AreParts, IsMerged, all_of, AreDisjoint, event_of, StageRecord, Act, StandsFor, IsRun, end_of, first_status, IsMerge, of_process, stage_of, AreHome, IsStageAfter, IsClosed, IsNextStart, IsWindowRun, IsCountOfWorkers, IsStage, IsNextWindow, BerthRun, IsPosted, AreBerths, IsSameStage, AreOne, Stay, IsReady, IsStay, HasLong, IsOutcome, RiseBy, Berth, Stage, in_map, map_in, slice_get-get_or, joined_back, one_merge, h_stands, berths_run, in_pairs, PlanRecord, IsPlanFor}
use Rattle.windows.proofs.Places.{there, there_map, from_map, place_in, at_map, list_at, by_place, each_process, no_event, at_nobody, at_delivered, length-delivered, all_at, all_place, disjoint_from, no_more, in_all, all_in, part_few, in_place}
use Rattle.windows.proofs.{Cut.{run_before}, Ranked.{contains_in, in_permutation}}
use Rattle.std.specs.FinMap as finmap
use Rattle.{trace_laws.specs.World.{IsReached}, trace_laws.proofs.Rising.{IsRising, rising_pairs, rising_entries}}
use Rattle.window_laws.proofs.Outcome.{IsWhole, whole, own_run, pairs_are, rest_in, letter_in}
use Rattle.steps.specs.declared.seat.Seat.{Seat}

pairs_rise : (p : ℕ) (l : List Pair) → IsRising l → IsRising (pairs_of p l)
pairs_rise p [] r = tt
pairs_rise p (t ∷ l) r = elim (nat_eq t.0.key.receiver p) as (λ b. IsRising (cond b (t ∷ pairs_of p l) (pairs_of p l))) [
  | true ↦ ((λ u i. r.0 u (in_pairs p l u i).0), pairs_rise p l r.1)
  | false ↦ pairs_rise p l r.1
]

no_more_one : (p : ℕ) (l : List Pair) → length (pairs_of p l) ≤ length l
no_more_one p l = omega (arith, length-filter_both (λ (t : Pair). nat_eq t.0.key.receiver p) (λ (t : Pair). not (nat_eq t.0.key.receiver p)) (λ _. refl) l)

received : (p : ℕ) (l : List Pair) (e : EntryRecord) → IsIn e (entries (pairs_of p l)) → e.key.receiver ≡ p
received p l e i = let r = in_map (λ (t : Pair). t.0) (pairs_of p l) e i in ap (λ (z : EntryRecord). z.key.receiver) r.2 ∙ (in_pairs p l r.0 r.1).1

-- ---- a run of the list, from a world by which it comes

left_none : {Mind : Type 0} (S : Setting Mind) (end : ℕ) (list : List Pair) (w after : World Mind) → Run S end w list after → NoneBelow end after.pending
left_none {Mind} S end [] w after run = subst (λ (v : World Mind). NoneBelow end v.pending) (sym run.1) run.0
left_none S end (t ∷ list) w after run = left_none S end list (taken S w t.0.key t.1) after run.3

module _ {Mind : Type 0} (S : Setting Mind) where
  reached_run : (end : ℕ) → end ≤ S.horizon → (list : List Pair) (w after : World Mind) (trace : List EntryRecord) → IsReached S w trace → Run S end w list after → IsReached S after (trace ++ entries list)
  reached_run end le [] w after trace was run = subst (λ v. IsReached S v (trace ++ [])) (sym run.1) (subst (IsReached S w) (sym (append-nil trace)) was)
  reached_run end le (s ∷ list) w after trace was run =
      let next : IsReached S (taken S w s.0.key s.1) (trace ++ s.0 ∷ []) = subst (λ e. IsReached S (taken S w s.0.key s.1) (trace ++ e ∷ [])) (sym run.2) (reached_next S w trace s.0.key s.1 run.0 (omega (arith, run.1)) was) in
      subst (IsReached S after) (append_assoc trace (s.0 ∷ []) (entries list)) (reached_run end le list (taken S w s.0.key s.1) after (trace ++ s.0 ∷ []) next run.3)

-- what put at most so much on each link put at most more
more_put : {M : Type 0} (mind : M → Mind) (s : Record) (less more : ℕ) (seat : Seat M) → less ≤ more → IsSeated mind s less seat → IsSeated mind s more seat
more_put mind s less more seat le is = record {
  low = is.low;
  high = is.high;
  is_mind = is.is_mind;
  horizon = is.horizon;
  crash = is.crash;
  places = is.places;
  counts = λ q. omega (arith, is.counts q, le);
}

module _ {M : Type 0} (mind : M → Mind) (old : Stage M) (ranges : IsInRange old.scenario.now) (trace_so_far : List EntryRecord) (is : IsStageAfter mind trace_so_far old) where
  abbrev s : Record
  s = old.scenario.now

  abbrev S : Setting Mind
  S = setting_of s

  abbrev olds : List (Berth M)
  olds = old.berths.items

  many : length olds ≡ s.processes
  many = omega (arith, is.count, old.berths.ok.0)

  own_at : (i : ℕ) → i < s.processes → IsProcess S (suc i)
  own_at i l = (omega arith, omega arith)

  part_at : (i : ℕ) (b : Berth M) → slice_get olds i ≡ Some b → b.part.items ≡ []
  part_at i b at = sym (at_map (λ z. z.part.items) olds [] i b at) ∙ (is.stands 0).part (suc i)

  pub stage_ready : All (IsReady mind s) olds
  stage_ready = all_at (IsReady mind s) olds (λ i b at.
      let home = is.home i b at in
      ((suc i, record { seated = more_put mind s _ _ b.seat (omega (arith, is.within, ranges.limit_high)) home.seated; is = home.is; own = home.own }), part_at i b at))

  pub stage_rises : RiseBy (λ (b : Berth M). own_of mind b.seat) olds
  stage_rises i j d lt inside =
      omega (arith, lt, (is.home i _ (slice_get-get_or olds i d (omega (arith, lt, inside)))).is, (is.home j _ (slice_get-get_or olds j d inside)).is)

  module _ (window : ℕ) (short : window ≤ s.lookahead) where
    abbrev g : StageRecord Mind
    g = stage_of mind window old

    abbrev end : ℕ
    end = end_of S window old.start

    sound : IsSound S
    sound = setting_sound s ranges

    to_end : end ≤ S.horizon
    to_end = omega arith

    abbrev all : (list : List Pair) × (after : World Mind) × IsWhole S sound window short is.world is.is_world g (is.stands window) list after
    all = whole S sound window short is.world is.is_world g (is.stands window)

    abbrev list : List Pair
    list = all.0

    abbrev after : World Mind
    after = all.1

    -- every trace has the entries so far, and those of the window
    far : (trace : List EntryRecord) → IsTrace S trace → length trace_so_far + length list ≤ length trace
    far trace is_trace =
        let all_far = trace_so_far ++ entries list in
        let front = reached_front S after all_far (reached_run S end to_end list is.world after trace_so_far is.reached all.2.run) trace is_trace in
        omega (arith, ap length front, length-take (length all_far) trace, length-append trace_so_far (entries list), length-map list (λ t. t.0))

    -- the process of a berth, and its events, in the stage
    in_stage : (i : ℕ) (b : Berth M) → slice_get olds i ≡ Some b → (process_of mind b.seat ≡ g.process (suc i)) × (b.pending ≡ g.own (suc i))
    in_stage i b at = (sym (at_map (λ z. process_of mind z.seat) olds (opening_process S (suc i)) i b at), sym (at_map (λ z. z.pending) olds finmap.empty i b at))

    abbrev IsRunAt : ℕ → List Pair → Process Mind → Events → List Event → Process Mind × Events → Type 0
    IsRunAt p history now rest letters begins = BerthRun S p end begins.0 begins.1 history now rest letters

    -- where a process has more events than are left, every trace is longer than the limit
    pub long_limit : (left : ℕ) → left + old.so_far ≡ s.limit → HasLong mind s end left olds → (trace : List EntryRecord) → IsTrace S trace → s.limit < length trace
    long_limit left sum (b, c, long) trace is_trace =
        let at = in_place olds b (contains_in olds b c) in
        let p : ℕ = suc at.0 in
        let r = own_run S sound window short is.world is.is_world g (is.stands window) p in
        let here = in_stage at.0 b at.1 in
        let run = subst (IsRunAt p r.0 r.1 r.2 r.3) (λ i. (sym here.0 i, sym here.1 i)) r.4 in
        let more : left < length b.part.items + length r.0 = long r.0 r.1 r.2 r.3 (subst (λ q. BerthRun S q end (process_of mind b.seat) b.pending r.0 r.1 r.2 r.3) (sym (is.home at.0 b at.1).is) run) in
        let same : r.0 ≡ pairs_of p list = pairs_are S sound window short is.world is.is_world g (is.stands window) list after all.2 p r.0 r.1 r.2 r.3 r.4 in
        omega (arith, more, ap length (part_at at.0 b at.1), ap length same, no_more_one p list, far trace is_trace, sum, is.so_far)

    module _ (news : List (Berth M)) (slips : List SlipView) (o : IsOutcome mind s end olds news slips) where
      stays_many : length o.stays ≡ s.processes
      stays_many = sym (length-map o.stays (λ t. t.before)) ∙ (ap length o.olds_are ∙ many)

      pub outcome_many : length news ≡ s.processes
      outcome_many = ap length (sym o.news_are) ∙ (length-map o.stays (λ t. t.after) ∙ stays_many)

      stay_at : (i : ℕ) → i < s.processes → (t : Stay M) × (slice_get o.stays i ≡ Some t)
      stay_at i l = there o.stays i (omega (arith, l, stays_many))

      old_at : (i : ℕ) (t : Stay M) → slice_get o.stays i ≡ Some t → slice_get olds i ≡ Some t.before
      old_at i t at = ap (λ bs. slice_get bs i) (sym o.olds_are) ∙ there_map (λ (z : Stay M). z.before) o.stays i t at

      new_at : (i : ℕ) (t : Stay M) → slice_get o.stays i ≡ Some t → slice_get news i ≡ Some t.after
      new_at i t at = ap (λ bs. slice_get bs i) (sym o.news_are) ∙ there_map (λ (z : Stay M). z.after) o.stays i t at

      -- the letters of each process
      abbrev letters : ℕ → List Letter
      letters p = of_process p (map (λ (t : Stay M). t.letters) o.stays) []

      letters_at : (i : ℕ) (t : Stay M) → slice_get o.stays i ≡ Some t → letters (suc i) ≡ t.letters
      letters_at = at_map (λ (z : Stay M). z.letters) o.stays []

      -- each process ran what the list made of it
      ran : (i : ℕ) (t : Stay M) → slice_get o.stays i ≡ Some t
          → BerthRun S (suc i) end (g.process (suc i)) (g.own (suc i)) (pairs_of (suc i) list) (process_of mind t.after.seat) t.after.pending (map event_of (letters (suc i)))
          × (t.after.part.items ≡ entries (pairs_of (suc i) list))
      ran i t at =
          let here = old_at i t at in
          let same = in_stage i t.before here in
          let r = (all_place (IsStay mind s end) o.stays o.each i t at).0 in
          let now = process_of mind t.after.seat in
          let run = subst (IsRunAt (suc i) r.history now t.after.pending (map event_of t.letters)) (λ j. (same.0 j, same.1 j))
          (subst (λ p. BerthRun S p end (process_of mind t.before.seat) t.before.pending r.history now t.after.pending (map event_of t.letters)) (is.home i t.before here).is r.run) in
          let pairs : r.history ≡ pairs_of (suc i) list = pairs_are S sound window short is.world is.is_world g (is.stands window) list after all.2 (suc i) r.history now t.after.pending (map event_of t.letters) run in (
            subst (λ (z : List Pair × List Letter). BerthRun S (suc i) end (g.process (suc i)) (g.own (suc i)) z.0 now t.after.pending (map event_of z.1)) (λ j. (pairs j, sym (letters_at i t at) j)) run,
            r.part ∙ ap (λ es. es ++ entries r.history) (part_at i t.before here) ∙ ap entries pairs,
          )

      abbrev parts : List (List EntryRecord)
      parts = map (λ b. b.part.items) news

      part_is : (i : ℕ) (part : List EntryRecord) → slice_get parts i ≡ Some part → part ≡ entries (pairs_of (suc i) list)
      part_is i part at =
          let t = stay_at i (omega (arith, slice_get_within parts i part at, length-map news (λ b. b.part.items), outcome_many)) in
          same_Some _ _ (sym at ∙ there_map (λ b. b.part.items) news i t.0.after (new_at i t.0 t.1)) ∙ (ran i t.0 t.1).1

      parts_at : (i : ℕ) (part : List EntryRecord) → slice_get parts i ≡ Some part → part ≡ entries (pairs_of (1 + i) list)
      parts_at i part at = let one : suc i ≡ 1 + i = omega arith in part_is i part at ∙ ap (λ p. entries (pairs_of p list)) one

      list_rises : IsRising list
      list_rises = rising_pairs list (closed_of_run S sound end list is.world after is.is_world all.2.run).rising

      -- where the parts have more entries than are left, every trace is longer than the limit
      pub outcome_limit : (left : ℕ) → left + old.so_far ≡ s.limit → left < length (all_of parts) → (trace : List EntryRecord) → IsTrace S trace → s.limit < length trace
      outcome_limit left sum long trace is_trace = omega (arith, long, no_more 1 parts list parts_at, far trace is_trace, sum, is.so_far)

      abbrev events_of : ℕ → List Event
      events_of p = map event_of (letters p)

      posted_in : (p : ℕ) → IsProcess S p → (k : Key) (y : StepInput) → IsIn (k, y) (events_of p) → Has after.pending k y
      posted_in = by_place s.processes (λ p. (k : Key) (y : StepInput) → IsIn (k, y) (events_of p) → Has after.pending k y) (λ i inside.
          let t = stay_at i inside in
          letter_in S sound window short is.world is.is_world g (is.stands window) list after all.2 (suc i) (pairs_of (suc i) list) (process_of mind t.0.after.seat) t.0.after.pending (events_of (suc i)) (ran i t.0 t.1).0)

      -- the letters that a process takes are those that were posted to it
      module _ (i : ℕ) (inside : i < s.processes) where
        own : IsProcess S (suc i)
        own = own_at i inside

        abbrev mail : List Event
        mail = map event_of (posted_to slips (suc i))

        taken_posted : (e : Event) → IsIn e mail → IsPosted S events_of (suc i) e.0 e.1
        taken_posted e j =
            let x = in_map event_of (posted_to slips (suc i)) e j in
            let sent = (o.letters (suc i) own.0 own.1 x.0).0 x.1 in
            let at = in_place o.stays sent.0 sent.1 in
            let theirs = own_at at.0 (omega (arith, slice_get_within o.stays at.0 sent.0 at.1, stays_many)) in
            let in_theirs : IsIn e (events_of (suc at.0)) = subst (λ z. IsIn z (events_of (suc at.0))) (sym x.2) (map_in event_of (letters (suc at.0)) x.0 (subst (IsIn x.0) (sym (letters_at at.0 sent.0 at.1)) sent.2)) in
            let to : e.0.receiver ≡ x.0.key.receiver = ap (λ (z : Event). z.0.receiver) x.2 in
            let low = (all.2.family.whole.received e.0 e.1 (posted_in (suc at.0) theirs e.0 e.1 in_theirs)).0 in
            (suc at.0, theirs, in_theirs, omega (arith, to, low, sent.3))

        posted_taken : (k : Key) (y : StepInput) → IsPosted S events_of (suc i) k y → IsIn (k, y) mail
        posted_taken k y (zero, theirs, j, to) = let low = theirs.0 in absurd (omega arith)
        posted_taken k y (suc q, theirs, j, to) =
            let t = stay_at q (omega (arith, theirs.1)) in
            let x = in_map event_of (letters (suc q)) (k, y) j in
            let to_i : x.0.key.receiver - 1 ≡ suc i - 1 = ap (λ n. n - 1) (sym (ap (λ (z : Event). z.0.receiver) x.2) ∙ to) in
            let sent = (o.letters (suc i) own.0 own.1 x.0).1 (t.0, place_in o.stays q t.0 t.1, subst (IsIn x.0) (letters_at q t.0 t.1) x.1, to_i) in
            subst (λ z. IsIn z mail) (sym x.2) (map_in event_of (posted_to slips (suc i)) x.0 sent)

      -- letters to one receiver with one key become one event, as both are pending in the list's world
      pub outcome_one : (r : ℕ) → IsProcess S r → AreOne (posted_to slips r)
      outcome_one = by_place s.processes (λ r. AreOne (posted_to slips r)) (λ i inside x y in_x in_y same.
          let a = taken_posted i inside (event_of x) (map_in event_of (posted_to slips (suc i)) x in_x) in
          let b = taken_posted i inside (event_of y) (map_in event_of (posted_to slips (suc i)) y in_y) in
          let there = subst (λ q. Has after.pending q (event_of x).1) same (posted_in a.0 a.1 x.key (event_of x).1 a.2) in
          let input = one_input after.pending y.key (event_of x).1 (event_of y).1 there (posted_in b.0 b.1 y.key (event_of y).1 b.2) in
          λ t. (same t, input t))

      -- ---- the window is closed

      module _ (new : Stage M) (same_scenario : new.scenario.now ≡ old.scenario.now) (left : ℕ) (sum : left + old.so_far ≡ s.limit)
          (waiting : List (Vec EntryRecord)) {workers : ℕ} (closed : IsClosed left old.so_far workers news slips waiting new) where
        abbrev berths : List (Berth M)
        berths = new.berths.items

        -- what was at a place, and what is there now
        row : (i : ℕ) → i < s.processes → (t : Stay M) × (b : Berth M) × (slice_get o.stays i ≡ Some t) × (slice_get berths i ≡ Some b)
            × (kept_in b ≡ (t.after.seat, joined t.after.pending (map event_of (posted_to slips (suc i))), []))
        row i inside =
            let t = stay_at i inside in
            let l = there closed.lists i (omega (arith, inside, closed.count, outcome_many)) in
            let b = from_map kept_in berths i _ (ap (λ ks. slice_get ks i) closed.berths_are ∙ at_delivered news closed.lists i t.0.after l.0 (new_at i t.0 t.1) l.1) in
            (t.0, b.0, t.1, b.1, b.2 ∙ ap (λ letters. (t.0.after.seat, joined t.0.after.pending (map event_of letters), [])) (sym (list_at closed.lists i l.0 l.1) ∙ closed.letters (suc i)))

        count_new : length berths ≡ s.processes
        count_new = sym (length-map berths kept_in) ∙ (ap length closed.berths_are ∙ (length-delivered news closed.lists closed.count ∙ outcome_many))

        no_part : (i : ℕ) (b : Berth M) → slice_get berths i ≡ Some b → b.part.items ≡ []
        no_part i b at =
            let r = row i (omega (arith, slice_get_within berths i b at, count_new)) in
            ap (λ (z : Berth M). z.part.items) (same_Some b r.1 (sym at ∙ r.3)) ∙ ap (λ k. k.2) r.4

        pub parts_wait : AreParts waiting
        parts_wait = record {
          rising = all_at (λ v. IsTrue (is_rising v.items)) waiting (λ i v at.
              let part = parts_at i v.items (ap (λ ps. slice_get ps i) (sym closed.parts_are) ∙ there_map (λ z. z.items) waiting i v at) in
              subst (λ es. IsTrue (is_rising es)) (sym part) (rising_entries (pairs_of (1 + i) list) (pairs_rise (1 + i) list list_rises)));
          apart = subst AreDisjoint (sym closed.parts_are) (disjoint_from 1 parts (λ i part at e j. received (1 + i) list e (subst (IsIn e) (parts_at i part at) j)));
        }

        abbrev h : StageRecord Mind
        h = stage_of mind window new

        -- what is left to a process
        abbrev rest : ℕ → Events
        rest p = of_process p (map (λ (t : Stay M). t.after.pending) o.stays) finmap.empty

        run_at : (p : ℕ) → IsProcess S p → BerthRun S p end (g.process p) (g.own p) (pairs_of p list) (h.process p) (rest p) (events_of p)
        run_at = by_place s.processes (λ p. BerthRun S p end (g.process p) (g.own p) (pairs_of p list) (h.process p) (rest p) (events_of p)) (λ i inside.
            let r = row i inside in
            let process : process_of mind r.0.after.seat ≡ h.process (suc i) = sym (at_map (λ b. process_of mind b.seat) berths _ i r.1 r.3 ∙ ap (λ k. process_of mind k.0) r.4) in
            let pending : r.0.after.pending ≡ rest (suc i) = sym (at_map (λ t. t.after.pending) o.stays finmap.empty i r.0 r.2) in
            subst (λ (z : Process Mind × Events). BerthRun S (suc i) end (g.process (suc i)) (g.own (suc i)) (pairs_of (suc i) list) z.0 z.1 (events_of (suc i))) (λ j. (process j, pending j)) (ran i r.0 r.2).0)

        left_in : (p : ℕ) → IsProcess S p → (k : Key) (y : StepInput) → Has (rest p) k y → Has after.pending k y × (k.receiver ≡ p)
        left_in p own = rest_in S sound window short is.world is.is_world g (is.stands window) list after all.2 p (pairs_of p list) (h.process p) (rest p) (events_of p) (run_at p own)

        -- the events of a process, as the next window opens
        module _ (i : ℕ) (inside : i < s.processes) where
          own_here : h.own (suc i) ≡ joined (rest (suc i)) (mail i inside)
          own_here =
              let r = row i inside in
              at_map (λ b. b.pending) berths finmap.empty i r.1 r.3 ∙ (ap (λ k. k.1) r.4 ∙ ap (λ m. joined m (mail i inside)) (sym (at_map (λ t. t.after.pending) o.stays finmap.empty i r.0 r.2)))

          own_pending : (k : Key) (y : StepInput) → Has (rest (suc i)) k y ⊎ IsPosted S events_of (suc i) k y → Has after.pending k y
          own_pending k y c = elim c [ inl m ↦ (left_in (suc i) (own_at i inside) k y m).0 | inr u ↦ posted_in u.0 u.1 k y u.2 ]

          own_each : (k : Key) (y : StepInput) → Has (h.own (suc i)) k y ↔ (Has (rest (suc i)) k y ⊎ IsPosted S events_of (suc i) k y)
          own_each k y = (
            (λ j. elim (joined_cases (mail i inside) (rest (suc i)) k y (subst (λ m. Has m k y) own_here j)) [ inl i' ↦ inr (taken_posted i inside (k, y) i') | inr m ↦ inl m ]),
            (λ c. subst (λ m. Has m k y) (sym own_here) (joined_back (mail i inside) (rest (suc i)) k y (λ e j same.
                let u = taken_posted i inside e j in one_input after.pending k e.1 y (subst (λ z. Has after.pending z e.1) same (posted_in u.0 u.1 e.0 e.1 u.2)) (own_pending k y c))
                (elim c [ inl m ↦ inr m | inr u ↦ inl (posted_taken i inside k y u) ]))),
          )

        own_is : (p : ℕ) → IsProcess S p → (k : Key) (y : StepInput) → Has (h.own p) k y ↔ (Has (rest p) k y ⊎ IsPosted S events_of p k y)
        own_is = by_place s.processes (λ p. (k : Key) (y : StepInput) → Has (h.own p) k y ↔ (Has (rest p) k y ⊎ IsPosted S events_of p k y)) own_each

        own_in : (p : ℕ) → IsProcess S p → (k : Key) (y : StepInput) → Has (h.own p) k y → Has after.pending k y × (k.receiver ≡ p)
        own_in p own k y i = elim ((own_is p own k y).0 i) [ inl r ↦ left_in p own k y r | inr u ↦ (posted_in u.0 u.1 k y u.2, u.3) ]

        same_horizon : new.scenario.now.horizon ≡ S.horizon
        same_horizon = ap (λ (r : Record). r.horizon) same_scenario

        -- nothing is pending before the next window, which isn't before the end of this one
        none_late : (p : ℕ) → NoneBelow new.start (h.own p)
        none_late = each_process (λ b. b.pending) finmap.empty (NoneBelow new.start) berths
            (λ i b at. all_place (NoneBelow new.start) (map (λ z. z.pending) berths) closed.start.late i b.pending (there_map (λ z. z.pending) berths i b at)) (λ k y m. absurd (no_event k y m))

        from_end : end ≤ new.start
        from_end = elim closed.start.least [
          | inl at ↦ omega (arith, at, same_horizon, to_end)
          | inr (set, i, tick) ↦
              let at = in_place (map (λ b. b.pending) berths) set i in
              let inside = slice_get_within (map (λ b. b.pending) berths) at.0 set at.1 in
              let own = own_at at.0 (omega (arith, inside, length-map berths (λ b. b.pending), count_new)) in
              let mine : h.own (suc at.0) ≡ set = get_or_from_slice_get _ at.0 set finmap.empty at.1 in
              let there = (own_in (suc at.0) own tick.0 tick.1 (subst (λ m. Has m tick.0 tick.1) (sym mine) tick.2.there)).0 in
              omega (arith, left_none S end list is.world after all.2.run tick.0 tick.1 there, tick.3)
        ]

        new_part : (p : ℕ) → h.part p ≡ []
        new_part = each_process (λ b. b.part.items) [] (λ l. l ≡ []) berths no_part refl

        are_berths : AreBerths S window g (λ p. pairs_of p list) rest events_of h
        are_berths = record {
          berth = run_at;
          own = own_is;
          others = λ p not k y i. no_event k y (subst (λ m. Has m k y) (at_nobody p (map (λ b. b.pending) berths) finmap.empty (λ j. not (j.0, omega (arith, j.1, length-map berths (λ b. b.pending), count_new)))) i);
          from_end = from_end;
          to_horizon = omega (arith, closed.start.to_horizon, same_horizon);
          late = none_late;
          part = new_part;
          status = λ p. ap (λ r. first_status (end_of (setting_of r) window new.start) (h.own p)) same_scenario;
          tray = λ a. no_event;
          mailbox = λ r. no_event;
        }

        stands_new : (window2 : ℕ) → StandsFor (setting_of new.scenario.now) window2 (stage_of mind window2 new) after
        stands_new window2 =
            let now = h_stands S sound window short is.world is.is_world g (is.stands window) (λ p. pairs_of p list) rest events_of h are_berths in
            record {
              process = λ p own. now.process p (subst (λ r. IsProcess (setting_of r) p) same_scenario own);
              own = now.own;
              late = now.late;
              part = new_part;
              status = λ p. refl;
              tray = now.tray;
              mailbox = now.mailbox;
            }

        law : (acts : List Act) × (found : StageRecord Mind) × (last : StageRecord Mind) × IsRun S window end g acts found last × IsSameStage S last h
            × ((p : ℕ) → IsProcess S p → found.part p ≡ entries (pairs_of p list)) × IsMerge S.processes found.part (entries list)
        law = berths_run S sound window short is.world is.is_world g (is.stands window) (λ p. pairs_of p list) rest events_of h are_berths

        home_new : AreHome mind s new.so_far berths
        home_new i b at =
            let inside : i < s.processes = omega (arith, slice_get_within berths i b at, count_new) in
            let r = row i inside in
            let was = (all_place (IsStay mind s end) o.stays o.each i r.0 r.2).1 (suc i) (most_step_actions * old.so_far) (is.home i r.0.before (old_at i r.0 r.2)) in
            let few = part_few parts i r.0.after.part.items (there_map (λ b. b.part.items) news i r.0.after (new_at i r.0 r.2)) in
            let more : most_step_actions * old.so_far + most_step_actions * length r.0.after.part.items ≤ most_step_actions * new.so_far = omega (arith, few, ap (λ ps. length (all_of ps)) closed.parts_are, closed.longer) in
            let same : b.seat ≡ r.0.after.seat = ap (λ (z : Berth M). z.seat) (same_Some b r.1 (sym at ∙ r.3)) ∙ ap (λ k. k.0) r.4 in
            record {
              seated = subst (IsSeated mind s (most_step_actions * new.so_far + most_step_actions * length b.part.items)) (sym same) (more_put mind s _ _ r.0.after.seat (omega (arith, more)) was.seated);
              is = ap (own_of mind) same ∙ was.is;
              own = λ k y m. (own_in (suc i) (own_at i inside) k y (subst (λ e. Has e k y) (sym (at_map (λ b. b.pending) berths finmap.empty i b at)) m)).1;
            }

        module _ (merged : List EntryRecord) (is_merged : IsMerged waiting merged) where
          long : length merged ≡ length (all_of (map (λ v. v.items) waiting))
          long = length_permutation _ _ is_merged.same

          same_entries : IsPermutation (all_of parts) merged
          same_entries = subst (λ ps. IsPermutation (all_of ps) merged) closed.parts_are is_merged.same

          is_merge : IsMerge S.processes law.1.part merged
          is_merge = record { rising = is_merged.rising; same = λ e. (to e, λ i. from e i.0 (i.1, i.2) i.3) }
            where
              to : (e : EntryRecord) → IsIn e merged → (p : ℕ) × (1 ≤ p) × (p ≤ S.processes) × IsIn e (law.1.part p)
              to e i =
                  let r = in_all parts e (in_permutation _ _ (IsPermutation-sym _ _ same_entries) e i) in
                  let own = own_at r.0 (omega (arith, slice_get_within parts r.0 r.1 r.2, length-map news (λ b. b.part.items), outcome_many)) in
                  (suc r.0, own.0, own.1, subst (IsIn e) (part_is r.0 r.1 r.2 ∙ sym (law.5 (suc r.0) own)) r.3)

              from : (e : EntryRecord) (p : ℕ) → IsProcess S p → IsIn e (law.1.part p) → IsIn e merged
              from e p own i = by_place s.processes (λ p. IsIn e (entries (pairs_of p list)) → IsIn e merged) (λ j inside m.
                  let t = stay_at j inside in
                  let b = there_map (λ b. b.part.items) news j t.0.after (new_at j t.0 t.1) in
                  in_permutation _ _ same_entries e (all_in parts j t.0.after.part.items b e (subst (IsIn e) (sym (part_is j t.0.after.part.items b)) m))) p own (subst (IsIn e) (law.5 p own) i)

          merged_is : merged ≡ entries list
          merged_is = one_merge S.processes law.1.part merged (entries list) is_merge law.6

          before_new : All (λ (e : EntryRecord). e.key.tick < new.start) (trace_so_far ++ merged)
          before_new =
              let Before : EntryRecord → Type 0 = λ e. e.key.tick < new.start in
              All-append Before trace_so_far merged
              (All-weaker (λ (e : EntryRecord). e.key.tick < old.start) Before (λ e less. omega (arith, less, from_end, is.to_horizon)) trace_so_far is.before)
              (All-weaker (λ (e : EntryRecord). e.key.tick < end) Before (λ e less. omega (arith, less, from_end)) merged
              (subst (All (λ (e : EntryRecord). e.key.tick < end)) (sym merged_is) (run_before S end list is.world after all.2.run)))

          stage_new : IsStageAfter mind (trace_so_far ++ merged) new
          stage_new = record {
            so_far = omega (arith, closed.longer, long, is.so_far, length-append trace_so_far merged);
            before = before_new;
            count = omega (arith, new.berths.ok.0, count_new, ap (λ (r : Record). r.processes) same_scenario);
            home = subst (λ r. AreHome mind r new.so_far berths) (sym same_scenario) home_new;
            within = omega (arith, closed.longer, closed.few, sum, ap (λ (r : Record). r.limit) same_scenario);
            to_horizon = closed.start.to_horizon;
            world = after;
            is_world = subst (λ r. IsWorld (setting_of r) after) (sym same_scenario) all.2.family.whole;
            stands = stands_new;
            reached = subst (λ r. IsReached (setting_of r) after (trace_so_far ++ merged)) (sym same_scenario)
                (subst (IsReached S after) (sym (ap (λ es. trace_so_far ++ es) merged_is)) (reached_run S end to_end list is.world after trace_so_far is.reached all.2.run));
          }

          pub outcome_next : IsStageAfter mind (trace_so_far ++ merged) new × IsWindowRun mind window old new merged
          outcome_next = (stage_new, (law.0, law.1, law.2, law.3, law.4, is_merge, closed.longer ∙ ap (λ n. old.so_far + n) (sym long), from_end, subst (λ n. IsNextStart n (map (λ b. b.pending) berths) new.start) same_horizon closed.start))

-- at the horizon the entries so far are the trace
pub stage_trace : {M : Type 0} (mind : M → Mind) (stage : Stage M) (trace : List EntryRecord) → IsStageAfter mind trace stage → stage.start ≡ stage.scenario.now.horizon → IsTrace (setting_of stage.scenario.now) trace
stage_trace mind stage trace is at = reached_end (setting_of stage.scenario.now) is.world trace is.reached (λ k y i. omega (arith, at, (is.stands 0).late k y i))

-- the window that was closed is the next one, whatever the entries so far
pub next_window : {M : Type 0} (mind : M → Mind) (old : Stage M) (ranges : IsInRange old.scenario.now) (stage : IsStage mind old) (plan : PlanRecord) (short : IsPlanFor old.scenario.now plan) (news : List (Berth M)) (slips : List SlipView)
    → IsOutcome mind old.scenario.now (end_of (setting_of old.scenario.now) plan.window old.start) old.berths.items news slips → (new : Stage M) → new.scenario.now ≡ old.scenario.now → (left : ℕ) → left + old.so_far ≡ old.scenario.now.limit
    → (parts : List (Vec EntryRecord)) (workers : ℕ) → IsClosed left old.so_far workers news slips parts new → IsCountOfWorkers (end_of (setting_of old.scenario.now) plan.window old.start) plan.workers old.berths.items workers → IsNextWindow mind plan old parts new
next_window mind old ranges stage plan short news slips o new same left sum parts workers closed count = record {
  scenario = same;
  are_parts = parts_wait mind old ranges stage.0 stage.1 plan.window short news slips o new same left sum parts closed;
  stage = λ merged is trace so_far. (outcome_next mind old ranges trace so_far plan.window short news slips o new same left sum parts closed merged is).0;
  run = λ merged is. (outcome_next mind old ranges stage.0 stage.1 plan.window short news slips o new same left sum parts closed merged is).1;
  workers = subst (IsCountOfWorkers _ _ old.berths.items) (sym closed.workers_are) count;
}
