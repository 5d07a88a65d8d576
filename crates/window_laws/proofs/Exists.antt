-- A window can be run in the order of the list: each process has a worker of its own, and the turns come as the list's steps do.
use Rattle.window_laws.proofs.Words.{◌≡◌, ◌≢◌, ◌⊎◌, ℕ, zero, suc, ◌+◌, ◌<◌, ◌≤◌, inl, inr, refl, sym, ap, ◌∙◌, subst, List, [], ◌∷◌, ◌++◌, arith, Bool, true, false, cond, map, append_assoc, append-nil, cases_eq, cases_lt, Key, StepInput, change, Setting, IsSound, IsProcess, Event, Events, World, Has, IsLeast, NoneBelow, IsWorld, taken, Run, IsEmpty, AreApart, removed, removed_back, change_at, change_other, StageRecord, Status, Waiting, Held, Done, Act, Take, Turn, Post, Return, Close, HoldsNoWork, with_status, posted, turned, has_below, closed, Moves, IsRun, StandsFor, turns_of}
use Rattle.window_laws.proofs.{Unions.{entries_apart, has_entry, entry_has, not_held_at_first}, Family.{IsFamily, at_receiver, by_place, runs_apart}, Reached.{held_is, Reached, take_reached, turn_reached, post_reached, return_reached}}
use Rattle.window_laws.proofs.Order.{end, reach, alone, first, first_family, from_own, from_mailbox}
use Rattle.std.specs.FinMap as finmap
use Rattle.trace_laws.specs.History.{IsIn, Pair, pairs_of}

-- ---- statuses that change one after the other, from process 0 on

abbrev swept : (m : ℕ) → (new old : ℕ → Status) → ℕ → Status
swept zero new old = old
swept (suc m) new old = change (swept m new old) m (new m)

swept_new : (m : ℕ) (new old : ℕ → Status) (p : ℕ) → p < m → swept m new old p ≡ new p
swept_new zero new old p l = absurd (omega arith)
swept_new (suc m) new old p l = by_place m p (λ b. cond b (new m) (swept m new old p) ≡ new p) (λ e. ap new (sym e)) (λ n. swept_new m new old p (omega arith))

swept_old : (m : ℕ) (new old : ℕ → Status) (p : ℕ) → m ≤ p → swept m new old p ≡ old p
swept_old zero new old p l = refl
swept_old (suc m) new old p l = let n : p ≢ m = omega arith in change_other (swept m new old) m (new m) p n ∙ swept_old m new old p (omega arith)

unchanged : (f : ℕ → Status) (p : ℕ) (s : Status) → f p ≡ s → change f p s ≡ f
unchanged f p s same = λ i q. at q i
  where
    at : (q : ℕ) → change f p s q ≡ f q
    at q = by_place p q (λ b. cond b s (f q) ≡ f q) (λ e. sym same ∙ ap f (sym e)) (λ n. refl)

module _ {Mind : Type 0} (g : StageRecord Mind) (new : ℕ → Status) where
  abbrev swept_stage : ℕ → StageRecord Mind
  swept_stage m = record g { status = swept m new g.status }

  -- where each process in its turn has its new status already, or comes to it, all come to theirs
  sweep : (P : StageRecord Mind → Type 0) (m : ℕ) → ((p : ℕ) → p < m → P (swept_stage p) → (g.status p ≡ new p) ⊎ P (swept_stage (suc p))) → P g → P (swept_stage m)
  sweep P zero each start = start
  sweep P (suc m) each start = by (sweep P m (λ p l. each p (omega arith)) start) (each m (omega arith) (sweep P m (λ p l. each p (omega arith)) start))
    where
      by : P (swept_stage m) → (g.status m ≡ new m) ⊎ P (swept_stage (suc m)) → P (swept_stage (suc m))
      by so_far (inl same) = subst (λ s. P (record g { status = s })) (sym (unchanged (swept m new g.status) m (new m) (swept_old m new g.status m (omega arith) ∙ same))) so_far
      by so_far (inr next) = next

module _ {Mind : Type 0} (S : Setting Mind) (window last_tick : ℕ) where
  -- to whatever run there is from one stage, there is one from another stage that makes these turns before
  abbrev pub Goes : (g h : StageRecord Mind) → List ℕ → Type 0
  Goes g h turns = (acts : List Act) (found left : StageRecord Mind) → IsRun S window last_tick h acts found left
      → (all : List Act) × IsRun S window last_tick g all found left × (turns_of all ≡ turns ++ turns_of acts)

  then : (g h i : StageRecord Mind) (these more : List ℕ) → Goes g h these → Goes h i more → Goes g i (these ++ more)
  then g h i these more a b acts found left run =
      let later = b acts found left run in
      let all = a later.0 found left later.1 in
      (all.0, all.1, all.2 ∙ ap (λ l. these ++ l) later.2 ∙ sym (append_assoc these more (turns_of acts)))

  module _ (start : ℕ) (v0 : ℕ → World Mind) where
    -- where posting leads
    record Posted (h : StageRecord Mind) (u : World Mind) : Type 0 where
      stage : StageRecord Mind
      reached : Reached S start last_tick v0 u stage
      goes : Goes h stage []
      trays : (a : ℕ) → IsEmpty (stage.tray a)
      status : (p : ℕ) → stage.status p ≡ h.status p

    -- worker a posts what is in its tray
    post_all : (a : ℕ) (es : List Event) (h : StageRecord Mind) (u : World Mind) → Reached S start last_tick v0 u h → AreApart es
        → ((e : Event) → IsIn e es → Has (h.tray a) e.0 e.1) → ((k : Key) (y : StepInput) → Has (h.tray a) k y → IsIn (k, y) es) → ((b : ℕ) → b ≢ a → IsEmpty (h.tray b)) → Posted h u
    post_all a [] h u r apart there back empty = record { stage = h; reached = r; goes = λ acts found left run. (acts, run, refl); trays = λ b. trays b (cases_eq b a); status = λ p. refl }
      where
        trays : (b : ℕ) → (b ≡ a) ⊎ (b ≡ a → ⊥) → IsEmpty (h.tray b)
        trays b (inl e) k y t = back k y (subst (λ c. Has (h.tray c) k y) e t)
        trays b (inr n) k y t = empty b n k y t
    post_all a (e ∷ es) h u r apart there back empty =
        let now = there e (inl refl) in
        let rest = post_all a es (posted h a e.0 e.1) u (post_reached S start last_tick v0 u h r a e.0 e.1 now) apart.1 there_next back_next empty_next in
        record {
          stage = rest.stage;
          reached = rest.reached;
          trays = rest.trays;
          status = rest.status;
          goes = λ acts found left run. let all = rest.goes acts found left run in (Post a e.0 e.1 ∷ all.0, (posted h a e.0 e.1, (now, refl), all.1), all.2);
        }
      where
        tray : ℕ → Events
        tray = change h.tray a (finmap.remove (h.tray a) e.0)

        tray_is : tray a ≡ finmap.remove (h.tray a) e.0
        tray_is = change_at h.tray a (finmap.remove (h.tray a) e.0)

        there_next : (f : Event) → IsIn f es → Has (tray a) f.0 f.1
        there_next f i = subst (λ set. Has set f.0 f.1) (sym tray_is) (removed_back (h.tray a) e.0 f.0 f.1 (apart.0 f i) (there f (inr i)))

        back_next : (k : Key) (y : StepInput) → Has (tray a) k y → IsIn (k, y) es
        back_next k y t = let o = removed (h.tray a) e.0 k y (subst (λ set. Has set k y) tray_is t) in split o.0 (back k y o.1)
          where
            split : k ≢ e.0 → IsIn (k, y) (e ∷ es) → IsIn (k, y) es
            split n (inl s) = absurd (n (ap (λ (z : Event). z.0) s))
            split n (inr i) = i

        empty_next : (b : ℕ) → b ≢ a → IsEmpty (tray b)
        empty_next b n = subst IsEmpty (sym (change_other h.tray a (finmap.remove (h.tray a) e.0) b n)) (empty b n)

    -- what is true between two steps of the list: all letters are posted, and each process is in the hands of the worker of its number, or done
    record Between (u : World Mind) (h : StageRecord Mind) : Type 0 where
      reached : Reached S start last_tick v0 u h
      trays : (a : ℕ) → IsEmpty (h.tray a)
      own_worker : (p : ℕ) → p ≤ S.processes → (h.status p ≡ Held p) ⊎ (h.status p ≡ Done)

    record Followed (h : StageRecord Mind) (history : List Pair) (after : World Mind) : Type 0 where
      stage : StageRecord Mind
      between : Between after stage
      none : NoneBelow last_tick after.pending
      goes : Goes h stage (map (λ s. s.0.key.receiver) history)

    module _ (sound : IsSound S) (near : last_tick ≤ start + S.lookahead) where
      -- the workers make the list's steps, each after the other, and post the letters of each at once
      follow_list : (history : List Pair) (h : StageRecord Mind) (u after : World Mind) → Between u h → Run S last_tick u history after → Followed h history after
      follow_list [] h u after b run = record {
        stage = h;
        between = subst (λ (c : World Mind). Between c h) (sym run.1) b;
        none = subst (λ (c : World Mind). NoneBelow last_tick c.pending) (sym run.1) run.0;
        goes = λ acts found left run. (acts, run, refl);
      }
      follow_list (s ∷ history) h u after b run =
          let turn = turn_reached S start last_tick sound near v0 u h r p p k x held least run.1 in
          let post = post_all p (finmap.entries (turned_stage.tray p)) turned_stage (taken S u k x) turn (entries_apart (turned_stage.tray p)) (λ e i. entry_has (turned_stage.tray p) e.0 e.1 i) (λ z y i. has_entry (turned_stage.tray p) z y i) others in
          let next : Between (taken S u k x) post.stage = record {
            reached = post.reached;
            trays = post.trays;
            own_worker = λ q is. subst (λ z. (z ≡ Held q) ⊎ (z ≡ Done)) (sym (post.status q)) (b.own_worker q is);
          } in
          let rest = follow_list history post.stage (taken S u k x) after next run.3 in
          record {
            stage = rest.stage;
            between = rest.between;
            none = rest.none;
            goes = then h turned_stage rest.stage (p ∷ []) (map (λ t. t.0.key.receiver) history)
                (λ acts found left more. (Turn p ∷ acts, (turned_stage, (p, k, x, held, least, run.1, refl), more), refl))
                (then turned_stage post.stage rest.stage [] (map (λ t. t.0.key.receiver) history) post.goes rest.goes);
          }
        where
          k : Key
          k = s.0.key

          x : StepInput
          x = s.1

          p : ℕ
          p = k.receiver

          r : Reached S start last_tick v0 u h
          r = b.reached

          least : IsLeast (h.own p) k x
          least = record {
            there = ((r.view.alone p).own_is k x).1 (at_receiver S start last_tick u r.v r.family k x run.0.there run.1, refl);
            none_before = λ z y i. run.0.none_before z y (r.family.parts p z y (((r.view.alone p).own_is z y).0 i).0);
          }

          held : h.status p ≡ Held p
          held = go (b.own_worker p (r.family.whole.received k x run.0.there).1)
            where
              go : (h.status p ≡ Held p) ⊎ (h.status p ≡ Done) → h.status p ≡ Held p
              go (inl e) = e
              go (inr e) = absurd (omega (arith, r.view.done p e k x least.there, run.1))

          turned_stage : StageRecord Mind
          turned_stage = turned S h p p k x

          others : (a : ℕ) → a ≢ p → IsEmpty (turned_stage.tray a)
          others a n = subst IsEmpty (sym (change_other h.tray p _ a n)) (b.trays a)

held_or_done : (b : Bool) (p : ℕ) → (cond b (Held p) Done ≡ Held p) ⊎ (cond b (Held p) Done ≡ Done)
held_or_done true p = inl refl
held_or_done false p = inr refl

held_own : (b : Bool) (p a : ℕ) → cond b (Held p) Done ≡ Held a → p ≡ a
held_own true p a e = held_is p a e
held_own false p a e = cc

module _ {Mind : Type 0} (S : Setting Mind) (sound : IsSound S) (window : ℕ) (short : window ≤ S.lookahead)
    (w : World Mind) (is_world : IsWorld S w) (g : StageRecord Mind) (stands : StandsFor S window g w) where
  abbrev till : ℕ
  till = end S sound window short w is_world g stands

  abbrev worlds : ℕ → World Mind
  worlds = alone S sound window short w is_world g stands

  -- a stage to which acts without a turn lead from another one
  abbrev Comes : (from : StageRecord Mind) → World Mind → StageRecord Mind → Type 0
  Comes from u h = Goes S window till from h [] × Reached S g.start till worlds u h

  -- ---- each worker takes the process of its number

  abbrev mine : ℕ → Status
  mine p = cond (has_below till (g.own p)) (Held p) Done

  abbrev begun : StageRecord Mind
  begun = swept_stage g mine (suc S.processes)

  begin : Comes g w begun
  begin = sweep g mine (Comes g w) (suc S.processes) each ((λ acts found left run. (acts, run, refl)), first S sound window short w is_world g stands)
    where
      each : (p : ℕ) → p < suc S.processes → Comes g w (swept_stage g mine p) → (g.status p ≡ mine p) ⊎ Comes g w (swept_stage g mine (suc p))
      each p l (goes, r) = go (has_below till (g.own p)) (stands.status p)
        where
          h : StageRecord Mind
          h = swept_stage g mine p

          no_work : HoldsNoWork till h p
          no_work q is = absurd (by (cases_lt q p))
            where
              by : (q < p) ⊎ (p ≤ q) → ⊥
              by (inl below) = omega (arith, held_own (has_below till (g.own q)) q p (sym (swept_new p mine g.status q below) ∙ is))
              by (inr above) = not_held_at_first till (g.own q) p (sym (stands.status q) ∙ sym (swept_old p mine g.status q above) ∙ is)

          go : (b : Bool) → g.status p ≡ cond b Waiting Done → (g.status p ≡ cond b (Held p) Done) ⊎ Comes g w (with_status h p (cond b (Held p) Done))
          go false done = inl done
          go true is =
              let waits : h.status p ≡ Waiting = swept_old p mine g.status p (omega arith) ∙ is in
              inr (
                then S window till g h (with_status h p (Held p)) [] [] goes (λ acts found left run. (Take p p ∷ acts, (with_status h p (Held p), (waits, stands.tray p, no_work, refl), run), refl)),
                take_reached S g.start till worlds w h r p p waits,
              )

  -- ---- the list's steps, and each worker gives its process back

  module _ (history : List Pair) (after : World Mind) (run : Run S till w history after) where
    followed : Followed S window till g.start worlds begun history after
    followed = follow_list S window till g.start worlds sound (reach S sound window short w is_world g stands) history begun w after (record {
      reached = begin.1;
      trays = stands.tray;
      own_worker = λ p is. subst (λ s. (s ≡ Held p) ⊎ (s ≡ Done)) (sym (swept_new (suc S.processes) mine g.status p (omega arith))) (held_or_done (has_below till (g.own p)) p);
    }) run

    abbrev last : StageRecord Mind
    last = followed.stage

    abbrev over : ℕ → Status
    over p = Done

    abbrev ended : StageRecord Mind
    ended = swept_stage last over (suc S.processes)

    none : (p : ℕ) → NoneBelow till (last.own p)
    none p k y i = followed.none k y (followed.between.reached.family.parts p k y (((followed.between.reached.view.alone p).own_is k y).0 i).0)

    finish : Comes last after ended
    finish = sweep last over (Comes last after) (suc S.processes) each ((λ acts found left run. (acts, run, refl)), followed.between.reached)
      where
        each : (p : ℕ) → p < suc S.processes → Comes last after (swept_stage last over p) → (last.status p ≡ Done) ⊎ Comes last after (swept_stage last over (suc p))
        each p l (goes, r) = go (followed.between.own_worker p (omega arith))
          where
            h : StageRecord Mind
            h = swept_stage last over p

            go : (last.status p ≡ Held p) ⊎ (last.status p ≡ Done) → (last.status p ≡ Done) ⊎ Comes last after (with_status h p Done)
            go (inr done) = inl done
            go (inl is) =
                let held : h.status p ≡ Held p = swept_old p over last.status p (omega arith) ∙ is in
                inr (
                  then S window till last h (with_status h p Done) [] [] goes (λ acts found left run. (Return p p ∷ acts, (with_status h p Done, (held, none p, followed.between.trays p, refl), run), refl)),
                  return_reached S g.start till worlds after h r p p held (none p) (followed.between.trays p),
                )

    -- a window can be run in the list's order, and the next one opened at any tick that the list allows
    pub any_run : (next : ℕ) → till ≤ next → next ≤ S.horizon → NoneBelow next after.pending
        → (acts : List Act) × (found : StageRecord Mind) × (left : StageRecord Mind) × IsRun S window till g acts found left × (left.start ≡ next) × (turns_of acts ≡ map (λ s. s.0.key.receiver) history)
    any_run next from to late =
        let back = finish.0 (Close next ∷ []) ended (closed S window next ended) (refl, refl, closes) in
        let steps = followed.goes back.0 ended (closed S window next ended) back.1 in
        let all = begin.0 steps.0 ended (closed S window next ended) steps.1 in
        (all.0, ended, closed S window next ended, all.1, refl, all.2 ∙ steps.2 ∙ ap (λ l. map (λ (s : Pair). s.0.key.receiver) history ++ l) back.2 ∙ append-nil _)
      where
        done : (p : ℕ) → IsProcess S p → ended.status p ≡ Done
        done p is = swept_new (suc S.processes) over last.status p (omega (arith, is.1))

        apart : (v : ℕ → World Mind) × IsFamily S g.start till after v × ((p : ℕ) → Run S till (worlds p) (pairs_of p history) (v p))
        apart = runs_apart S g.start till sound (reach S sound window short w is_world g stands) history w after worlds (first_family S sound window short w is_world g stands) run

        closes : Moves S window till ended (Close next) (closed S window next ended)
        closes = (
          done,
          from,
          to,
          (λ p. (
            (λ k y i. late k y (from_own S sound window short w is_world g stands ended after finish.1 done history after run apart.0 apart.1 apart.2 p k y i).0),
            (λ k y i. late k y (from_mailbox S sound window short w is_world g stands ended after finish.1 done history after run apart.0 apart.1 apart.2 p k y i).0),
          )),
          refl,
        )
