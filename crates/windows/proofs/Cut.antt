-- What the list does before a tick, and what it does from there on.
use Rattle.windows.proofs.Words.{◌≡◌, ◌⊎◌, ℕ, ◌<◌, ◌≤◌, inl, inr, List, [], ◌∷◌, ◌++◌, sym, ap, ◌∙◌, subst, arith, Result, IfErr, IfErr-at_err, IsErrOf, All, map-append, All-nil, All-cons, EntryRecord, Key, StepInput, RunError, Limit, Spawn, IsInRange, Record, Mind, Pair, setting_of, Setting, IsSound, World, IsWorld, Has, NoneBelow, Run, taken, entries, IsTrace, setting_sound, IsRefusalOfSink, IsStageAfter, Stage}
use Rattle.trace_laws.proofs.Worlds.{taken_cases, made_sent, taken_world}

module _ {Mind : Type 0} (S : Setting Mind) where
  -- what is taken below a tick is of a tick before it
  pub run_before : (end : ℕ) (h : List Pair) (w last : World Mind) → Run S end w h last → All (λ (e : EntryRecord). e.key.tick < end) (entries h)
  run_before end [] w last r = All-nil (λ (e : EntryRecord). e.key.tick < end)
  run_before end (s ∷ rest) w last r = All-cons (λ (e : EntryRecord). e.key.tick < end) s.0 (entries rest) r.1 (run_before end rest (taken S w s.0.key s.1) last r.3)

  module _ (sound : IsSound S) (tick : ℕ) where
    none_earlier : (w : World Mind) (k : Key) (x : StepInput) → IsWorld S w → NoneBelow tick w.pending → Has w.pending k x → NoneBelow tick (taken S w k x).pending
    none_earlier w k x is none there q y h = elim (taken_cases S w k x q y h) [
      | inl i ↦ omega (arith, none k x there, (made_sent S w k x sound is there (q, y) i).later)
      | inr old ↦ none q y old.1
    ]

    -- where nothing is pending below a tick, nothing is taken below it
    pub run_after : (end : ℕ) (h : List Pair) (w last : World Mind) → IsWorld S w → NoneBelow tick w.pending → Run S end w h last → All (λ (e : EntryRecord). tick ≤ e.key.tick) (entries h)
    run_after end [] w last is none r = All-nil (λ (e : EntryRecord). tick ≤ e.key.tick)
    run_after end (s ∷ rest) w last is none r =
        let there = r.0.there in
        All-cons (λ (e : EntryRecord). tick ≤ e.key.tick) s.0 (entries rest) (none s.0.key s.1 there)
        (run_after end rest (taken S w s.0.key s.1) last (taken_world S w s.0.key s.1 sound is there) (none_earlier w s.0.key s.1 is none there) r.3)

-- every trace has the entries so far at its front, and no other below the tick at which the next window starts
pub stage_cut : {M : Type 0} (mind : M → Mind) (stage : Stage M) (trace : List EntryRecord) → IsStageAfter mind trace stage → (s : Record) → stage.scenario.now ≡ s → IsInRange s → (whole : List EntryRecord) → IsTrace (setting_of s) whole
    → (rest : List EntryRecord) × (whole ≡ trace ++ rest) × All (λ (e : EntryRecord). stage.start ≤ e.key.tick) rest
stage_cut mind stage trace is s same ranges whole full =
    let S = setting_of stage.scenario.now in
    let t = subst (λ z. IsTrace (setting_of z) whole) (sym same) full in
    let before = is.reached.comes_by t.0 t.1 t.2 in (
      entries before.0,
      t.3 ∙ (ap entries before.1 ∙ (map-append (λ (x : Pair). x.0) is.reached.history before.0 ∙ ap (λ es. es ++ entries before.0) (sym is.reached.trace_is))),
      run_after S (setting_sound stage.scenario.now (subst IsInRange (sym same) ranges)) stage.start S.horizon before.0 is.world t.1 is.is_world (is.stands 0).late before.2,
    )

-- a sink refuses no thread, and no place in the trace
pub not_of_sink : {X : Type 0} (r : Result X RunError) → IfErr r IsRefusalOfSink → IsErrOf r Limit ⊎ IsErrOf r Spawn → ⊥
not_of_sink r h (inl e) = elim (IfErr-at_err IsRefusalOfSink e h) [ inl memory ↦ cc | inr write ↦ cc ]
not_of_sink r h (inr e) = elim (IfErr-at_err IsRefusalOfSink e h) [ inl memory ↦ cc | inr write ↦ cc ]
