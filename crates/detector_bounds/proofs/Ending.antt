-- The world at the end of a tick: the list comes by it, and the entries of later ticks follow.
use Rattle.detector_bounds.proofs.Words.{◌≡◌, ℕ, ◌<◌, ◌≤◌, inl, inr, sym, ap, ◌∙◌, subst, List, [], ◌∷◌, ◌++◌, append_assoc, append-nil, arith, AllByRecursion, EntryRecord, Key, StepInput, Setting, IsSound, World, Pair, Has, IsLeast, NoneBelow, IsWorld, Run, made, taken, opening, entries, IsTrace, opening_world, taken_cases, taken_world, made_sent}
use Rattle.{std.proofs.lemmas.List.{map-append}, trace_laws.proofs.Runs.{run_exists, one_run}}

module _ {Mind : Type 0} (S : Setting Mind) (sound : IsSound S) where
  -- a run up to an earlier end, and the rest
  runs_then : (end : ℕ) → end ≤ S.horizon → (h g : List Pair) (old mid new : World Mind) → Run S end old h mid → Run S S.horizon mid g new → Run S S.horizon old (h ++ g) new
  runs_then end within [] g old mid new run more = subst (λ (z : World Mind). Run S S.horizon z g new) run.1 more
  runs_then end within (s ∷ h) g old mid new run more = (run.0, omega (arith, within, run.1), run.2, runs_then end within h g (taken S old s.0.key s.1) mid new run.3 more)

  pub none_later : (end : ℕ) (w : World Mind) (key : Key) (x : StepInput) → IsWorld S w → Has w.pending key x → NoneBelow end w.pending → NoneBelow end (taken S w key x).pending
  none_later end w key x is there none k y h = elim (taken_cases S w key x k y h) [
    | inl i ↦ omega (arith, none key x there, (made_sent S w key x sound is there (k, y) i).later)
    | inr old ↦ none k y old.1
  ]

  abbrev pub AllFrom : ℕ → List EntryRecord → Type 0
  AllFrom end trace = AllByRecursion (λ e. end ≤ e.key.tick) trace

  later_from : (end : ℕ) (g : List Pair) (w new : World Mind) → IsWorld S w → NoneBelow end w.pending → Run S S.horizon w g new → AllFrom end (entries g)
  later_from end [] w new is none run = tt
  later_from end (s ∷ g) w new is none run = (
    none s.0.key s.1 run.0.there,
    later_from end g (taken S w s.0.key s.1) new (taken_world S w s.0.key s.1 sound is run.0.there) (none_later end w s.0.key s.1 is run.0.there none) run.3,
  )

  -- what each step of a run keeps, of the world and of the entries so far
  pub record IsKept (end : ℕ) (P : World Mind → List EntryRecord → Type 0) : Type 0 where
    pub opens : P (opening S) []
    pub keeps : (w : World Mind) (past : List EntryRecord) (key : Key) (x : StepInput) → IsWorld S w → P w past → IsLeast w.pending key x → key.tick < end
        → P (taken S w key x) (past ++ (made S w key x).entry ∷ [])

  run_keeps : (end : ℕ) (P : World Mind → List EntryRecord → Type 0) → IsKept end P
      → (h : List Pair) (w new : World Mind) (past : List EntryRecord) → IsWorld S w → P w past → Run S end w h new → IsWorld S new × P new (past ++ entries h)
  run_keeps end P kept [] w new past is holds run = (subst (IsWorld S) (sym run.1) is, subst (λ z. z) (λ i. P (sym run.1 i) (sym (append-nil past) i)) holds)
  run_keeps end P kept (s ∷ h) w new past is holds run =
      let next = kept.keeps w past s.0.key s.1 is holds run.0 run.1 in
      let r = run_keeps end P kept h (taken S w s.0.key s.1) new (past ++ (made S w s.0.key s.1).entry ∷ []) (taken_world S w s.0.key s.1 sound is run.0.there) next run.3 in
      (r.0, subst (P new) (append_assoc past ((made S w s.0.key s.1).entry ∷ []) (entries h) ∙ ap (λ e. past ++ (e ∷ entries h)) (sym run.2)) r.1)

  -- the world after all entries of ticks below an end, and before the others
  pub record IsEnd (trace : List EntryRecord) (end : ℕ) : Type 0 where
    pub world : World Mind
    pub history : List Pair
    pub later : List EntryRecord
    pub run : Run S end (opening S) history world
    pub whole : trace ≡ entries history ++ later
    pub is_world : IsWorld S world
    pub none_left : NoneBelow end world.pending
    pub after : AllFrom end later

  -- whatever each step keeps holds of it
  pub holds_at : (trace : List EntryRecord) (end : ℕ) (e : IsEnd trace end) (P : World Mind → List EntryRecord → Type 0) → IsKept end P → P e.world (entries e.history)
  holds_at trace end e P kept = (run_keeps end P kept e.history (opening S) e.world [] (opening_world S sound) kept.opens e.run).1

  pub none_at : (end : ℕ) (h : List Pair) (w new : World Mind) → Run S end w h new → NoneBelow end new.pending
  none_at end [] w new run = subst (λ (z : World Mind). NoneBelow end z.pending) (sym run.1) run.0
  none_at end (s ∷ h) w new run = none_at end h (taken S w s.0.key s.1) new run.3

  pub ending : (trace : List EntryRecord) → IsTrace S trace → (end : ℕ) → end ≤ S.horizon → IsEnd trace end
  ending trace (history, last, run, is) end within =
      let first = run_exists S sound end (opening S) (opening_world S sound) in
      let nothing : IsKept end (λ w past. Unit {0}) = record { opens = tt; keeps = λ w past key x is holds least early. tt } in
      let at = (run_keeps end (λ w past. Unit {0}) nothing first.0 (opening S) first.1 [] (opening_world S sound) tt first.2).0 in
      let rest = run_exists S sound S.horizon first.1 at in
      let same = (one_run S S.horizon (opening S) history (first.0 ++ rest.0) last rest.1 run (runs_then end within first.0 rest.0 (opening S) first.1 rest.1 first.2 rest.2)).0 in
      let none = none_at end first.0 (opening S) first.1 first.2 in
      record {
        world = first.1;
        history = first.0;
        later = entries rest.0;
        run = first.2;
        whole = is ∙ (ap entries same ∙ map-append (λ (s : Pair). s.0) first.0 rest.0);
        is_world = at;
        none_left = none;
        after = later_from end rest.0 first.1 rest.1 at none rest.2;
      }
