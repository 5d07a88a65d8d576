-- The stage at the opening of a run.
use Rattle.windows.proofs.Words.{◌≡◌, ◌≢◌, ℕ, zero, suc, ◌-◌, ◌<◌, ◌≤◌, inl, inr, refl, sym, ap, ◌∙◌, subst, [], Some, length, map, slice_get, slice_get_within, same_Some, arith, All, length-map, All-nil, Mind, numbers_to, Key, StepInput, same_or_not, IsInRange, Record, opening_mind, place_in, setting_of, process_of, own_of, IsSeated, Setting, IsSound, IsProcess, Process, Has, starts, start_of, opened, opening, opening_process, opening_world, number_at, length-numbers_to, opening_reached, inserted, insert_at, insert_other, setting_sound, opens_with_mind, StageRecord, StandsFor, stage_of, start_event, IsOpened, AreHome, IsStageAfter, Berth, Stage, is_or_not, starts_are}
use Rattle.windows.proofs.Places.{there, there_map, at_map, at_nobody, all_place, by_place, each_process, no_event}
use Rattle.std.specs.FinMap as finmap
use Rattle.{process_api.specs.declared.message.StepInput.TheVariants.{Start}, std.proofs.lemmas.Simd.{map-map}}
use Rattle.process_api.proofs.Minds.{mind_place, same_own}

starts_there : (n p : ℕ) → 1 ≤ p → p ≤ n → Has (starts n) (start_of p) Start
starts_there zero p low high = absurd (omega arith)
starts_there (suc n) p low high = elim (same_or_not (start_of p) (start_of (suc n))) [
  | inl e ↦ subst (λ z. Has (starts (suc n)) z Start) (sym e) (insert_at (starts n) (start_of (suc n)) Start)
  | inr apart ↦
      let other : p ≢ suc n = λ e. apart (ap start_of e) in
      insert_other (starts n) (start_of (suc n)) Start (start_of p) apart ∙ starts_there n p low (omega (arith, other, high))
]

start_is : (p : ℕ) (k : Key) (x : StepInput) → Has (start_event p) k x → (k ≡ start_of p) × (x ≡ Start)
start_is p k x h = elim (inserted finmap.empty (start_of p) Start k x h) [ inl e ↦ e | inr other ↦ absurd (no_event k x other.1) ]

module _ {M : Type 0} (mind : M → Mind) (stage : Stage M) (ranges : IsInRange stage.scenario.now) (at_start : stage.start ≡ 0) (no_entries : stage.so_far ≡ 0)
    (processes : map (λ b. process_of mind b.seat) stage.berths.items ≡ map opened (map (opening_mind stage.scenario.now) (numbers_to stage.scenario.now.processes)))
    (berths : All (IsOpened mind stage.scenario.now) stage.berths.items) where
  abbrev s : Record
  s = stage.scenario.now

  abbrev S : Setting Mind
  S = setting_of s

  sound : IsSound S
  sound = setting_sound s ranges

  count : length stage.berths.items ≡ s.processes
  count = sym (length-map stage.berths.items (λ b. process_of mind b.seat)) ∙ (ap length (processes ∙ map-map opened (opening_mind s) (numbers_to s.processes)) ∙ (length-map (numbers_to s.processes) (λ q. opened (opening_mind s q)) ∙ length-numbers_to s.processes))

  -- what is known of the berth at a place
  first : (i : ℕ) (b : Berth M) → slice_get stage.berths.items i ≡ Some b → (process_of mind b.seat ≡ opened (opening_mind s (suc i))) × (own_of mind b.seat ≡ suc i) × IsOpened mind s b
  first i b at =
      let mind_is = opening_mind s (suc i) in
      let place : i ≡ suc i - 1 = omega arith in
      let there = ap (λ ps. slice_get ps i) (processes ∙ map-map opened (opening_mind s) (numbers_to s.processes)) ∙ ap (slice_get (map (λ q. opened (opening_mind s q)) (numbers_to s.processes))) place
      ∙ number_at (λ q. opened (opening_mind s q)) s.processes (suc i) (omega arith) (omega (arith, slice_get_within stage.berths.items i b at, count)) in
      let same : process_of mind b.seat ≡ opened mind_is = same_Some _ _ (sym (there_map (λ z. process_of mind z.seat) stage.berths.items i b at) ∙ there) in
      let mine : mind_is.lower.place.own ≡ suc i = same_own mind_is.lower.place (place_in s (suc i)) (mind_place (place_in s (suc i)) mind_is (opens_with_mind s ranges (suc i))) in
      (same, ap (λ (q : Process Mind). q.mind.lower.place.own) same ∙ mine, all_place (IsOpened mind s) stage.berths.items berths i b at)

  module _ (window : ℕ) where
    abbrev g : StageRecord Mind
    g = stage_of mind window stage

    own_first : (p : ℕ) → IsProcess S p → g.own p ≡ start_event p
    own_first = by_place s.processes (λ p. g.own p ≡ start_event p) (λ i inside.
        let b = there stage.berths.items i (omega (arith, inside, count)) in
        let f = first i b.0 b.1 in
        at_map (λ z. z.pending) stage.berths.items finmap.empty i b.0 b.1 ∙ (f.2.1 ∙ ap start_event f.1))

    to_world : (p : ℕ) (k : Key) (x : StepInput) → Has (g.own p) k x → Has (opening S).pending k x × (k.receiver ≡ p)
    to_world p k x h = elim (is_or_not S p) [
      | inl own ↦
          let e = start_is p k x (subst (λ m. Has m k x) (own_first p own) h) in
          (subst (λ (t : Key × StepInput). Has (starts S.processes) t.0 t.1) (λ i. (sym e.0 i, sym e.1 i)) (starts_there S.processes p own.0 own.1), ap (λ (z : Key). z.receiver) e.0)
      | inr not ↦ absurd (no_event k x (subst (λ m. Has m k x) (at_nobody p (map (λ z. z.pending) stage.berths.items) finmap.empty (λ i. not (i.0, omega (arith, i.1, length-map stage.berths.items (λ z. z.pending), count)))) h))
    ]

    from_world : (p : ℕ) (k : Key) (x : StepInput) → Has (opening S).pending k x × (k.receiver ≡ p) → Has (g.own p) k x
    from_world p k x (h, to) =
        let e = starts_are S.processes k x h in
        let own : IsProcess S p = subst (IsProcess S) to ((opening_world S sound).received k x h) in
        subst (λ m. Has m k x) (sym (own_first p own)) (subst (λ (t : Key × StepInput). Has (start_event p) t.0 t.1) (λ i. (sym (e.2 ∙ ap start_of to) i, sym e.3 i)) (insert_at finmap.empty (start_of p) Start))

    no_part : (p : ℕ) → g.part p ≡ []
    no_part = each_process (λ z. z.part.items) [] (λ l. l ≡ []) stage.berths.items (λ i b at. (all_place (IsOpened mind s) stage.berths.items berths i b at).2) refl

    pub opening_stands : StandsFor S window g (opening S)
    opening_stands = record {
      process = by_place s.processes (λ p. g.process p ≡ opening_process S p) (λ i inside.
          let b = there stage.berths.items i (omega (arith, inside, count)) in
          at_map (λ z. process_of mind z.seat) stage.berths.items (opening_process S (suc i)) i b.0 b.1 ∙ (first i b.0 b.1).0);
      own = λ p k x. (to_world p k x, from_world p k x);
      late = λ k x h. omega (arith, at_start);
      part = no_part;
      status = λ p. refl;
      tray = λ a. no_event;
      mailbox = λ r. no_event;
    }

  home : AreHome mind s stage.so_far stage.berths.items
  home i b at =
      let f = first i b at in
      record {
        seated = subst (λ n. IsSeated mind s n b.seat) (omega (arith, no_entries, ap length f.2.2)) f.2.0;
        is = f.1;
        own = λ k x h. ap (λ (z : Key). z.receiver) (start_is (suc i) k x (subst (λ m. Has m k x) (f.2.1 ∙ ap start_event f.1) h)).0;
      }

  pub opening_stage : IsStageAfter mind [] stage
  opening_stage = record {
    count = omega (arith, stage.berths.ok.0, count);
    so_far = no_entries;
    before = All-nil (λ e. e.key.tick < stage.start);
    home = home;
    within = omega (arith, no_entries);
    to_horizon = omega (arith, at_start);
    world = opening S;
    is_world = opening_world S sound;
    stands = opening_stands;
    reached = opening_reached S;
  }
