-- Every run of a window comes to the world to which the list comes.
use Rattle.window_laws.proofs.Words.{◌≡◌, ◌⊎◌, ℕ, ◌+◌, ◌<◌, ◌≤◌, inl, inr, refl, sym, ap, ◌∙◌, subst, List, [], ◌∷◌, arith, cases_eq, key_cmp, Key, StepInput, EntryRecord, Setting, IsSound, IsProcess, Event, World, Has, NoneBelow, IsWorld, Run, entries, IsEmpty, one_input, joined_cases, same_events, not_None, run_exists, one_run, so_far_over, cause, in_pairs, pairs_in, closed_of_run, IsMerge, StageRecord, Done, Act, Take, Turn, Post, Return, Close, end_of, gathered, closed, Moves, IsRun, StandsFor, IsListRun, AreAlike}
use Rattle.window_laws.proofs.{Unions.{in_map, map_in, joined_back, has_entry, entry_has, done_at_first}, Family.{IsFamily, runs_apart}, Solo.{IsAlone}}
use Rattle.window_laws.proofs.Reached.{clash, IsSomewhere, Reached, take_reached, turn_reached, post_reached, return_reached}
use Rattle.std.specs.FinMap as finmap
use Rattle.trace_laws.specs.History.{IsIn, Pair, pairs_of, IsAddedBySome, IsClosedBetween}

module _ {Mind : Type 0} (S : Setting Mind) (sound : IsSound S) (window : ℕ) (short : window ≤ S.lookahead)
    (w : World Mind) (is_world : IsWorld S w) (g : StageRecord Mind) (stands : StandsFor S window g w) where
  abbrev pub end : ℕ
  end = end_of S window g.start

  pub reach : end ≤ g.start + S.lookahead
  reach = omega arith

  -- each process alone, with its own pending events
  abbrev pub alone : ℕ → World Mind
  alone p = record { process = w.process; pending = g.own p }

  pub first_family : IsFamily S g.start end w alone
  first_family = record {
    whole = is_world;
    each = λ q. record {
      world = record {
        minds = is_world.minds;
        below = λ k y h. is_world.below k y ((stands.own q k y).0 h).0;
        received = λ k y h. is_world.received k y ((stands.own q k y).0 h).0;
        counted = λ k y h. is_world.counted k y ((stands.own q k y).0 h).0;
      };
      far = λ k y h. inl ((stands.own q k y).0 h).1;
      late = λ k y h. stands.late k y ((stands.own q k y).0 h).0;
    };
    process = λ p is. refl;
    union = λ k y h. (k.receiver, (stands.own k.receiver k y).1 (h, refl));
    parts = λ q k y h. ((stands.own q k y).0 h).0;
  }

  pub first_alone : (p : ℕ) → IsAlone S g.start end p (alone p) (g.process p) (g.own p)
  first_alone p = record { is_own = first_family.each p; process = stands.process p; own_is = λ k y. ((λ h. (h, ((stands.own p k y).0 h).1)), (λ h. h.0)) }

  pub first : Reached S g.start end alone w g
  first = record {
    v = alone;
    history = λ p. [];
    family = first_family;
    view = record {
      alone = first_alone;
      tray = λ a k y h. absurd (stands.tray a k y h);
      mailbox = λ r k y h. absurd (stands.mailbox r k y h);
      letters = λ k y out. absurd (out.2 ((stands.own out.0 k y).0 out.1).1);
      done = λ p is. done_at_first end (g.own p) (sym (stands.status p) ∙ is);
    };
    runs = λ p. refl;
    parts = stands.part;
  }

  -- what a run finds is reached, and there it closes
  follow : (acts : List Act) (u : World Mind) (h found left : StageRecord Mind) → Reached S g.start end alone u h → IsRun S window end h acts found left
      → (next : ℕ) × (v : World Mind) × Reached S g.start end alone v found × Moves S window end found (Close next) left
  follow [] u h found left r run = absurd run
  follow (Close next ∷ acts) u h found left r run =
      (next, u, subst (Reached S g.start end alone u) (sym run.1) r, subst (λ z. Moves S window end z (Close next) left) (sym run.1) run.2)
  follow (Take a p ∷ acts) u h found left r (mid, moves, run) =
      follow acts u mid found left (subst (Reached S g.start end alone u) (sym moves.3) (take_reached S g.start end alone u h r a p moves.0)) run
  follow (Turn a ∷ acts) u h found left r (mid, moves, run) =
      follow acts _ mid found left (subst (Reached S g.start end alone _) (sym moves.6) (turn_reached S g.start end sound reach alone u h r a moves.0 moves.1 moves.2 moves.3 moves.4 moves.5)) run
  follow (Post a k x ∷ acts) u h found left r (mid, moves, run) =
      follow acts u mid found left (subst (Reached S g.start end alone u) (sym moves.1) (post_reached S g.start end alone u h r a k x moves.0)) run
  follow (Return a p ∷ acts) u h found left r (mid, moves, run) =
      follow acts u mid found left (subst (Reached S g.start end alone u) (sym moves.3) (return_reached S g.start end alone u h r a p moves.0 moves.1 moves.2)) run

  -- the list's own run, and its parts
  module _ (found : StageRecord Mind) (u : World Mind) (r : Reached S g.start end alone u found) (all_done : (p : ℕ) → IsProcess S p → found.status p ≡ Done)
      (history : List Pair) (after : World Mind) (run : Run S end w history after)
      (last : ℕ → World Mind) (last_family : IsFamily S g.start end after last) (runs : (p : ℕ) → Run S end (alone p) (pairs_of p history) (last p)) where
    none : (p : ℕ) → NoneBelow end (r.v p).pending
    none p k y h = go ((r.family.each p).far k y h)
      where
        go : (k.receiver ≡ p) ⊎ (end ≤ k.tick) → end ≤ k.tick
        go (inl e) = r.view.done p (all_done p (subst (IsProcess S) e ((r.family.each p).world.received k y h))) k y (((r.view.alone p).own_is k y).1 (h, e))
        go (inr l) = l

    same : (p : ℕ) → (r.history p ≡ pairs_of p history) × (r.v p ≡ last p)
    same p = one_run S end (alone p) (r.history p) (pairs_of p history) (r.v p) (last p) (so_far_over S end (r.history p) (alone p) (r.v p) (r.runs p) (none p)) (runs p)

    pending : (q : ℕ) (k : Key) (y : StepInput) → Has (r.v q).pending k y → Has after.pending k y
    pending q k y h = last_family.parts q k y (subst (λ (z : World Mind). Has z.pending k y) (same q).1 h)

    no_tray : (a : ℕ) → IsEmpty (found.tray a)
    no_tray a k y h = let held = (r.view.tray a k y h).1 in clash a (sym held.2 ∙ all_done held.0 held.1)

    -- what is pending is in its receiver's set or mailbox
    place : (k : Key) (y : StepInput) → Has after.pending k y → Has (found.own k.receiver) k y ⊎ Has (found.mailbox k.receiver) k y
    place k y h = at one.0 (subst (λ (z : World Mind). Has z.pending k y) (sym (same one.0).1) one.1) (cases_eq k.receiver one.0)
      where
        one : (q : ℕ) × Has (last q).pending k y
        one = last_family.union k y h

        posted_all : IsSomewhere S g.start end found k y → Has (found.own k.receiver) k y ⊎ Has (found.mailbox k.receiver) k y
        posted_all (inl (a, t)) = absurd (no_tray a k y t)
        posted_all (inr m) = inr m

        at : (q : ℕ) → Has (r.v q).pending k y → (k.receiver ≡ q) ⊎ (k.receiver ≡ q → ⊥) → Has (found.own k.receiver) k y ⊎ Has (found.mailbox k.receiver) k y
        at q hv (inl e) = inl (subst (λ p. Has (found.own p) k y) (sym e) (((r.view.alone q).own_is k y).1 (hv, e)))
        at q hv (inr n) = posted_all (r.view.letters k y (q, hv, n))

    pub from_own : (p : ℕ) (k : Key) (y : StepInput) → Has (found.own p) k y → Has after.pending k y × (k.receiver ≡ p)
    from_own p k y h = let f = ((r.view.alone p).own_is k y).0 h in (pending p k y f.0, f.1)

    pub from_mailbox : (p : ℕ) (k : Key) (y : StepInput) → Has (found.mailbox p) k y → Has after.pending k y × (k.receiver ≡ p)
    from_mailbox p k y h = let f = r.view.mailbox p k y h in (pending f.1.0 k y f.1.1, f.0)

    left_stands : (left : StageRecord Mind) (next : ℕ) → Moves S window end found (Close next) left → StandsFor S window (closed S window next found) after
    left_stands left next moves = record {
      process = λ p is. (r.view.alone p).process is ∙ ap (λ (z : World Mind). z.process p) (same p).1 ∙ last_family.process p is;
      own = λ p k y. ((λ h. there p k y (joined_cases (finmap.entries (found.mailbox p)) (found.own p) k y h)), λ i. subst (λ q. Has (gathered found q) k y) i.1 (back k y i.0));
      late = λ k y h. late k y (place k y h);
      part = λ p. refl;
      status = λ p. refl;
      tray = no_tray;
      mailbox = λ q k y h. absurd (not_None y (sym (finmap.get-empty key_cmp k) ∙ h));
    }
      where
        there : (p : ℕ) (k : Key) (y : StepInput) → IsIn (k, y) (finmap.entries (found.mailbox p)) ⊎ Has (found.own p) k y → Has after.pending k y × (k.receiver ≡ p)
        there p k y (inl i) = from_mailbox p k y (entry_has (found.mailbox p) k y i)
        there p k y (inr o) = from_own p k y o

        back : (k : Key) (y : StepInput) → Has after.pending k y → Has (gathered found k.receiver) k y
        back k y h = joined_back (finmap.entries (found.mailbox k.receiver)) (found.own k.receiver) k y agree (go (place k y h))
          where
            agree : (f : Event) → IsIn f (finmap.entries (found.mailbox k.receiver)) → f.0 ≡ k → f.1 ≡ y
            agree f i is = one_input after.pending k f.1 y
                (subst (λ z. Has after.pending z f.1) is (from_mailbox k.receiver f.0 f.1 (entry_has (found.mailbox k.receiver) f.0 f.1 i)).0) h

            go : Has (found.own k.receiver) k y ⊎ Has (found.mailbox k.receiver) k y → IsIn (k, y) (finmap.entries (found.mailbox k.receiver)) ⊎ Has (found.own k.receiver) k y
            go (inl o) = inr o
            go (inr m) = inl (has_entry (found.mailbox k.receiver) k y m)

        late : (k : Key) (y : StepInput) → Has (found.own k.receiver) k y ⊎ Has (found.mailbox k.receiver) k y → next ≤ k.tick
        late k y (inl o) = (moves.3 k.receiver).0 k y o
        late k y (inr m) = (moves.3 k.receiver).1 k y m

    parts : (p : ℕ) → found.part p ≡ entries (pairs_of p history)
    parts p = r.parts p ∙ ap (entries) (same p).0

    history_closed : IsClosedBetween S w end history
    history_closed = closed_of_run S sound end history w after is_world run

    taken_by : (t : Pair) → IsIn t history → IsProcess S t.0.key.receiver
    taken_by t i = go ((history_closed.exact t.0.key t.1).0 (t.0, refl, i))
      where
        go : (t.0.key.tick < end) × (Has w.pending t.0.key t.1 ⊎ IsAddedBySome S w.process t.0.key t.1 history) → IsProcess S t.0.key.receiver
        go (below, inl h) = is_world.received t.0.key t.1 h
        go (below, inr (p, is, a)) = (cause S sound p is (w.process p) (is_world.minds p is) (pairs_of p history) (λ c j. (in_pairs p history c j).1) t.0.key t.1 a).2.receiver

    merged : IsMerge S.processes found.part (entries history)
    merged = record { rising = history_closed.rising; same = λ e. (there e, back e) }
      where
        there : (e : EntryRecord) → IsIn e (entries history) → (p : ℕ) × (1 ≤ p) × (p ≤ S.processes) × IsIn e (found.part p)
        there e i =
            let t = in_map (λ (s : Pair). s.0) history e i in
            let is = taken_by t.0 t.1 in (
              t.0.0.key.receiver,
              is.0,
              is.1,
              subst (IsIn e) (sym (parts t.0.0.key.receiver))
                  (subst (λ z. IsIn z (entries (pairs_of t.0.0.key.receiver history))) (sym t.2) (map_in (λ (s : Pair). s.0) _ t.0 (pairs_in t.0.0.key.receiver history t.0 t.1 refl))),
            )

        back : (e : EntryRecord) → (p : ℕ) × (1 ≤ p) × (p ≤ S.processes) × IsIn e (found.part p) → IsIn e (entries history)
        back e (p, low, high, i) =
            let t = in_map (λ (s : Pair). s.0) (pairs_of p history) e (subst (IsIn e) (parts p) i) in
            subst (λ z. IsIn z (entries history)) (sym t.2) (map_in (λ (s : Pair). s.0) history t.0 (in_pairs p history t.0 t.1).0)

    pub is_list_run : (left : StageRecord Mind) (next : ℕ) → Moves S window end found (Close next) left → IsListRun S window g found left w after history
    is_list_run left next moves = record {
      run = run;
      world = last_family.whole;
      stands = subst (λ z. StandsFor S window z after) (sym moves.4) (left_stands left next moves);
      parts = λ p is. parts p;
      merged = merged;
    }

  pub any_order : (acts : List Act) (found left : StageRecord Mind) → IsRun S window end g acts found left → (history : List Pair) × (after : World Mind) × IsListRun S window g found left w after history
  any_order acts found left run =
      let f = follow acts w g found left first run in
      let l = run_exists S sound end w is_world in
      let apart = runs_apart S g.start end sound reach l.0 w l.1 alone first_family l.2 in
      (l.0, l.1, is_list_run found f.1 f.2 f.3.0 l.0 l.1 l.2 apart.0 apart.1 apart.2 left f.0 f.3)

  pub close_alike : (acts acts2 : List Act) (found left found2 left2 : StageRecord Mind) → IsRun S window end g acts found left → IsRun S window end g acts2 found2 left2 → AreAlike S window found left found2 left2
  close_alike acts acts2 found left found2 left2 run run2 =
      let a = any_order acts found left run in
      let b = any_order acts2 found2 left2 run2 in
      let same = one_run S end w a.0 b.0 a.1 b.1 a.2.run b.2.run in
      alike a.0 b.0 a.1 b.1 a.2 b.2 same.0 same.1
    where
      alike : (h h2 : List Pair) (u u2 : World Mind) → IsListRun S window g found left w u h → IsListRun S window g found2 left2 w u2 h2 → h ≡ h2 → u ≡ u2 → AreAlike S window found left found2 left2
      alike h h2 u u2 a b e f = record {
        process = λ p is. a.stands.process p is ∙ ap (λ (z : World Mind). z.process p) f ∙ sym (b.stands.process p is);
        own = λ p. same_events (left.own p) (left2.own p)
            (λ k y i. (b.stands.own p k y).1 (subst (λ (z : World Mind). Has z.pending k y × (k.receiver ≡ p)) f ((a.stands.own p k y).0 i)))
            (λ k y i. (a.stands.own p k y).1 (subst (λ (z : World Mind). Has z.pending k y × (k.receiver ≡ p)) (sym f) ((b.stands.own p k y).0 i)));
        parts = λ p is. a.parts p is ∙ ap (λ l. entries (pairs_of p l)) e ∙ sym (b.parts p is);
      }
