-- A process's wakes with a tag: it asks for one at its start, and at each for the next. So one alone is pending, and its tick is
-- known.
use Rattle.detector_bounds.proofs.Words.{◌≡◌, ◌≢◌, ◌⊎◌, ℕ, ◌+◌, ◌≤◌, inl, inr, refl, sym, ap, ◌∙◌, subst, Bool, true, false, cond, if◌then◌else◌, List, [], ◌∷◌, Answer, EntryRecord, Processes, Key, StepInput, Tag, IsIn, Setting, IsSound, has_crashed, World, Has, IsLeast, IsWorld, made, taken, opening, start_of, one_input, taken_cases, taken_old, taken_new}
use Rattle.detector_bounds.proofs.{Above.{IsOwnTag}, Added.{same_tag, same_tag-true, same_tag-itself, wakes_of}, Machines.{RunsDetector, own, own_up, own_down, wake_new, wake_there, wake_alone}}
use Rattle.detector_bounds.proofs.Standing.{Stands, IsUnstarted, still_unstarted, starts_first, only_starts, starts_there}
use Rattle.process_api.specs.declared.message.StepInput.TheVariants as input

module _ (tag : Tag) (begin period : ℕ) where
  -- the pauses that are asked for at an input
  abbrev pub asked : StepInput → List ℕ
  asked input.Start = begin ∷ []
  asked (input.Wake for) = if same_tag for tag then period ∷ [] else []
  asked (input.Letter sender what) = []

  -- and the tick of the next wake after it, where it was due at another
  abbrev pub due_after : (now : ℕ) → StepInput → ℕ → ℕ
  due_after now input.Start due = now + begin
  due_after now (input.Wake for) due = if same_tag for tag then now + period else due
  due_after now (input.Letter sender what) due = due

module _ {Mind D : Type 0} {layer : ℕ} (S : Setting Mind) (sound : IsSound S) (first : D) (step : (p : ℕ) → D → (now : ℕ) → StepInput → Answer D) (suspects : ℕ → D → Processes) (R : RunsDetector layer S first step suspects)
    (tag : Tag) (is_own : IsOwnTag layer tag) (begin period p : ℕ) (asks : (d : D) (now : ℕ) (x : StepInput) → wakes_of tag (step p d now x).actions ≡ asked tag begin period x) where
  abbrev pub IsWake : World Mind → Key → Type 0
  IsWake w key = (key.receiver ≡ p) × Has w.pending key (input.Wake tag)

  -- the process is up to tick t
  abbrev pub IsUpTo : (t : ℕ) → Type 0
  IsUpTo t = (u : ℕ) → u ≤ t → has_crashed (S.crash p) u ≡ false

  -- of a run up to tick t: the next wake is due at a tick
  pub record Clock (t : ℕ) (w : World Mind) (due : ℕ) : Type 0 where
    pub silent : Has w.pending (start_of p) input.Start → (key : Key) → ¬ (IsWake w key)
    pub only : (key : Key) → IsWake w key → key.tick ≡ due
    pub one : (k l : Key) → IsWake w k → IsWake w l → k ≡ l
    -- and comes, unless the process has crashed or that is too late
    pub there : IsUpTo t → Has w.pending (start_of p) input.Start ⊎ ((S.horizon ≤ due) ⊎ ((key : Key) × IsWake w key))

  module _ (t : ℕ) (w : World Mind) (past : List EntryRecord) (key : Key) (x : StepInput) (is : IsWorld S w) (s : Stands S sound first step suspects R t w past) (least : IsLeast w.pending key x) (due : ℕ) (c : Clock t w due) where
    -- no wake joins, and it isn't the one that is taken
    quiet : ((k : Key) → k.receiver ≡ p → ¬ (IsIn (k, input.Wake tag) (made S w key x).added))
        → (IsUpTo t → (IsUnstarted S sound first step suspects R w p → start_of p ≢ key) × ((k : Key) → IsWake w k → k ≢ key)) → Clock t (taken S w key x) due
    quiet none stays = record {
      silent = λ h k wake. c.silent (still_unstarted S sound first step suspects R t w past key x is s least p h).0 k (old k wake);
      only = λ k wake. c.only k (old k wake);
      one = λ k l a b. c.one k l (old k a) (old l b);
      there = λ up. elim (c.there up) [
        | inl h ↦ inl (taken_old S w key x sound is least.there (start_of p) input.Start ((stays up).0 h) h)
        | inr (inl late) ↦ inr (inl late)
        | inr (inr r) ↦ inr (inr (r.0, (r.1.0, taken_old S w key x sound is least.there r.0 (input.Wake tag) ((stays up).1 r.0 r.1) r.1.1)))
      ];
    }
      where
        old : (k : Key) → IsWake (taken S w key x) k → IsWake w k
        old k wake = elim (taken_cases S w key x k (input.Wake tag) wake.1) [ inl i ↦ absurd (none k wake.0 i) | inr o ↦ (wake.0, o.1) ]

    -- one joins, and no other is left
    rings : (pause : ℕ) → key.receiver ≡ p → wakes_of tag (own S first step suspects R w key x s.has).actions ≡ pause ∷ [] → ((k : Key) → IsWake w k → k ≡ key)
        → ¬ (IsUnstarted S sound first step suspects R (taken S w key x) p) → Clock t (taken S w key x) (key.tick + pause)
    rings pause at alone taken_one started = record {
      silent = λ h k wake. started h;
      only = λ k wake. at_tick k (wake_new S first step suspects R w key x s.has tag is_own k (new k wake)).1;
      one = λ k l a b. wake_alone S first step suspects R w key x s.has tag is_own pause alone k l (new k a) (new l b);
      there = λ up. elim (wake_there S first step suspects R w key x s.has tag is_own pause (subst (IsIn pause) (sym alone) (inl refl))) [
        | inl late ↦ inr (inl late)
        | inr r ↦ inr (inr (r.0, (r.2 ∙ at, taken_new S w key x sound is least.there r.0 (input.Wake tag) r.1)))
      ];
    }
      where
        new : (k : Key) → IsWake (taken S w key x) k → IsIn (k, input.Wake tag) (made S w key x).added
        new k wake = elim (taken_cases S w key x k (input.Wake tag) wake.1) [ inl i ↦ i | inr o ↦ absurd (o.0 (taken_one k (wake.0, o.1))) ]

        at_tick : (k : Key) → (its : ℕ) × IsIn its (wakes_of tag (own S first step suspects R w key x s.has).actions) × (k.tick ≡ key.tick + its) → k.tick ≡ key.tick + pause
        at_tick k (its, i, e) = elim (subst (IsIn its) alone i) [ inl same ↦ e ∙ ap (λ z. key.tick + z) same | inr none ↦ absurd none ]

    none_joins : wakes_of tag (own S first step suspects R w key x s.has).actions ≡ [] → (k : Key) → ¬ (IsIn (k, input.Wake tag) (made S w key x).added)
    none_joins none k i = let r = wake_new S first step suspects R w key x s.has tag is_own k i in subst (IsIn r.1.0) none r.1.1

    -- the process takes an input
    module _ (at : key.receiver ≡ p) (up : has_crashed (S.crash key.receiver) key.tick ≡ false) where
      does : wakes_of tag (own S first step suspects R w key x s.has).actions ≡ asked tag begin period x
      does = ap (λ (a : Answer D). wakes_of tag a.actions) (own_up S first step suspects R w key x s.has up) ∙ subst (λ q. wakes_of tag (step q (R.part (w.process key.receiver).mind) key.tick x).actions ≡ asked tag begin period x) (sym at) (asks (R.part (w.process key.receiver).mind) key.tick x)

      started_now : ¬ (IsUnstarted S sound first step suspects R (taken S w key x) p)
      started_now h = (still_unstarted S sound first step suspects R t w past key x is s least p h).1 (sym at)

      same_key_start : IsUnstarted S sound first step suspects R w p → start_of p ≡ key
      same_key_start h = sym (starts_first S sound first step suspects R t w past key x is s least p h (sym at))

      takes : (y : StepInput) → x ≡ y → Clock t (taken S w key x) (due_after tag begin period key.tick y due)
      takes input.Start e =
          let there : Has w.pending key input.Start = subst (Has w.pending key) e least.there in
          let waits : IsUnstarted S sound first step suspects R w p = subst (λ k. Has w.pending k input.Start) (start_key there) there in
          rings begin at (does ∙ ap (asked tag begin period) e) (λ k wake. absurd (c.silent waits k wake)) started_now
        where
          start_key : Has w.pending key input.Start → key ≡ start_of p
          start_key there = elim (s.start_or_later key input.Start there) [ inl h ↦ h.1 ∙ ap start_of at | inr h ↦ absurd (h.1 refl) ]
      takes (input.Wake for) e = by (same_tag for tag) refl
        where
          by : (b : Bool) → same_tag for tag ≡ b → Clock t (taken S w key x) (cond (same_tag for tag) (key.tick + period) due)
          by true it =
              let wake : IsWake w key = (at, subst (λ f. Has w.pending key (input.Wake f)) (same_tag-true for tag it) (subst (Has w.pending key) e least.there)) in
              subst (Clock t (taken S w key x)) (ap (λ b. cond b (key.tick + period) due) (sym it))
              (rings period at (does ∙ (ap (asked tag begin period) e ∙ ap (λ b. cond b (period ∷ []) []) it)) (λ k other. c.one k key other wake) started_now)
          by false not_it =
              subst (Clock t (taken S w key x)) (ap (λ b. cond b (key.tick + period) due) (sym not_it))
              (quiet (λ k _. none_joins (does ∙ (ap (asked tag begin period) e ∙ ap (λ b. cond b (period ∷ []) []) not_it)) k)
              (λ _. (
                (λ h same. cc (one_input w.pending key input.Start (input.Wake for) (subst (λ k. Has w.pending k input.Start) same h) (subst (Has w.pending key) e least.there))),
                (λ k wake same.
                    let tags : input.Wake tag ≡ input.Wake for = one_input w.pending key (input.Wake tag) (input.Wake for) (subst (λ z. Has w.pending z (input.Wake tag)) same wake.1) (subst (Has w.pending key) e least.there) in
                    let tag_is : tag ≡ for = cc in
                    cc (subst (λ z. same_tag for z ≡ false) tag_is not_it, same_tag-itself for)),
              )))
      takes (input.Letter sender what) e =
          quiet (λ k _. none_joins (does ∙ ap (asked tag begin period) e) k)
          (λ _. (
            (λ h same. cc (one_input w.pending key input.Start (input.Letter sender what) (subst (λ k. Has w.pending k input.Start) same h) (subst (Has w.pending key) e least.there))),
            (λ k wake same. cc (one_input w.pending key (input.Wake tag) (input.Letter sender what) (subst (λ z. Has w.pending z (input.Wake tag)) same wake.1) (subst (Has w.pending key) e least.there))),
          ))

    -- the step is another process's, or the process has crashed
    pub clock_still : key.tick ≤ t → (p ≢ key.receiver) ⊎ (has_crashed (S.crash key.receiver) key.tick ≡ true) → Clock t (taken S w key x) due
    clock_still low (inl other) =
        quiet (λ k at i. other (sym at ∙ (wake_new S first step suspects R w key x s.has tag is_own k i).0))
        (λ _. ((λ h same. other (ap (λ (k : Key). k.receiver) same)), (λ k wake same. other (sym wake.0 ∙ ap (λ (k : Key). k.receiver) same))))
    clock_still low (inr down) =
        quiet (λ k _. none_joins (ap (λ (a : Answer D). wakes_of tag a.actions) (own_down S first step suspects R w key x s.has down)) k)
        (λ up. (
          (λ h same. crashed_not up (ap (λ (k : Key). k.receiver) (sym same))),
          (λ k wake same. crashed_not up (ap (λ (k : Key). k.receiver) (sym same) ∙ wake.0)),
        ))
      where
        crashed_not : IsUpTo t → key.receiver ≡ p → ⊥
        crashed_not up at = cc (down, subst (λ q. has_crashed (S.crash q) key.tick ≡ false) (sym at) (up key.tick low))

    -- the process takes the input
    pub clock_takes : (p ≡ key.receiver) × (has_crashed (S.crash key.receiver) key.tick ≡ false) → Clock t (taken S w key x) (due_after tag begin period key.tick x due)
    clock_takes (at, up) = takes (sym at) up x refl

  -- at first the process hasn't started
  pub clock_first : (t due : ℕ) → 1 ≤ p → p ≤ S.processes → Clock t (opening S) due
  clock_first t due low high = record {
    silent = λ h key wake. none key wake;
    only = λ key wake. absurd (none key wake);
    one = λ k l a b. absurd (none k a);
    there = λ up. inl (starts_there S.processes p low high);
  }
    where
      none : (key : Key) → ¬ (IsWake (opening S) key)
      none key wake = cc (only_starts S.processes key (input.Wake tag) wake.1).0
