-- What is true of every stage inside a window: it is a view of one world for each process, each on its own way through its own run.
use Rattle.window_laws.proofs.Words.{◌≡◌, ◌≢◌, ◌⊎◌, ℕ, ◌+◌, ◌<◌, ◌≤◌, inl, inr, sym, ap, ◌∙◌, subst, List, [], ◌∷◌, ◌++◌, cond, map-append, Key, StepInput, change, same_or_not, Setting, IsSound, IsProcess, Event, Events, Made, step, World, Has, IsLeast, NoneBelow, made, taken, joined, entries, IsEmpty, one_input, removed, removed_back, inserted, insert_at, insert_other, joined_cases, change_at, change_other, RunSoFar, so_far_more, StageRecord, Status, Waiting, Held, Done, with_status, posted, turned, for_self, for_others}
use Rattle.window_laws.proofs.{Unions.{joined_back}, Family.{by_place, change_all, change_both, IsFamily, stepped, stepped_family, at_own, kept}, Solo.{IsAlone, least_alone, same_step, new_there, other_in, next_alone, next_letters}}
use Rattle.std.specs.FinMap as finmap
use Rattle.trace_laws.specs.History.{IsIn, Pair}

pub held_is : (a b : ℕ) → Held a ≡ Held b → a ≡ b
held_is a b e = cc

pub clash : (a : ℕ) → Held a ≡ Done → ⊥
clash a e = cc

module _ {Mind : Type 0} (S : Setting Mind) (start end : ℕ) where
  -- a letter that is pending where another process is
  abbrev pub IsOut : (ℕ → World Mind) → Key → StepInput → Type 0
  IsOut v k y = (q : ℕ) × Has (v q).pending k y × (k.receiver ≢ q)

  -- worker a holds a process
  abbrev pub IsHeld : StageRecord Mind → (a : ℕ) → Type 0
  IsHeld g a = (p : ℕ) × IsProcess S p × (g.status p ≡ Held a)

  -- a letter is in a tray, or in its receiver's mailbox
  abbrev pub IsSomewhere : StageRecord Mind → Key → StepInput → Type 0
  IsSomewhere g k y = ((a : ℕ) × Has (g.tray a) k y) ⊎ Has (g.mailbox k.receiver) k y

  pub record IsView (g : StageRecord Mind) (v : ℕ → World Mind) : Type 0 where
    pub alone : (p : ℕ) → IsAlone S start end p (v p) (g.process p) (g.own p)
    pub tray : (a : ℕ) (k : Key) (y : StepInput) → Has (g.tray a) k y → IsOut v k y × IsHeld g a
    pub mailbox : (r : ℕ) (k : Key) (y : StepInput) → Has (g.mailbox r) k y → (k.receiver ≡ r) × IsOut v k y
    pub letters : (k : Key) (y : StepInput) → IsOut v k y → IsSomewhere g k y
    pub done : (p : ℕ) → g.status p ≡ Done → NoneBelow end (g.own p)

  -- the list has come to world u
  pub record Reached (v0 : ℕ → World Mind) (u : World Mind) (g : StageRecord Mind) : Type 0 where
    pub v : ℕ → World Mind
    pub history : ℕ → List Pair
    pub family : IsFamily S start end u v
    pub view : IsView g v
    pub runs : (p : ℕ) → RunSoFar S end (v0 p) (history p) (v p)
    pub parts : (p : ℕ) → g.part p ≡ entries (history p)

  -- ---- a process changes hands
  module _ (v0 : ℕ → World Mind) (u : World Mind) (g : StageRecord Mind) (r : Reached v0 u g) (a p : ℕ) where
    with_status_reached : (status : Status) → ((b : ℕ) → g.status p ≡ Held b → IsEmpty (g.tray b)) → (status ≡ Done → NoneBelow end (g.own p)) → Reached v0 u (with_status g p status)
    with_status_reached status empty over = record { v = r.v; history = r.history; family = r.family; view = view; runs = r.runs; parts = r.parts }
      where
        held : (b : ℕ) (k : Key) (y : StepInput) → Has (g.tray b) k y → IsHeld g b → IsHeld (with_status g p status) b
        held b k y h (q, is, at) = (q, is, change_other g.status p status q (λ e. empty b (ap g.status (sym e) ∙ at) k y h) ∙ at)

        view : IsView (with_status g p status) r.v
        view = record {
          alone = r.view.alone;
          tray = λ b k y h. let t = r.view.tray b k y h in (t.0, held b k y h t.1);
          mailbox = r.view.mailbox;
          letters = r.view.letters;
          done = change_all g.status p status (λ q s. s ≡ Done → NoneBelow end (g.own q)) over (λ q n. r.view.done q);
        }

    pub take_reached : g.status p ≡ Waiting → Reached v0 u (with_status g p (Held a))
    take_reached waits = with_status_reached (Held a) (λ b e. absurd (cc)) (λ e. absurd (clash a e))

    pub return_reached : g.status p ≡ Held a → NoneBelow end (g.own p) → IsEmpty (g.tray a) → Reached v0 u (with_status g p Done)
    return_reached held none empty = with_status_reached Done (λ b e. subst (λ c. IsEmpty (g.tray c)) (held_is a b (sym held ∙ e)) empty) (λ _. none)

  -- ---- a letter goes to its mailbox
  module _ (v0 : ℕ → World Mind) (u : World Mind) (g : StageRecord Mind) (r : Reached v0 u g) (a : ℕ) (k : Key) (x : StepInput) (there : Has (g.tray a) k x) where
    abbrev box : Events
    box = finmap.insert (g.mailbox k.receiver) k x

    -- one key has one input in the whole
    same : (z : Key) (y : StepInput) → IsOut r.v z y → z ≡ k → y ≡ x
    same z y out e =
        let t = (r.view.tray a k x there).0 in
        one_input u.pending k y x (subst (λ s. Has u.pending s y) e (r.family.parts out.0 z y out.1)) (r.family.parts t.0 k x t.1)

    boxed : (z : Key) (y : StepInput) → (z ≡ k → y ≡ x) → (z ≡ k) ⊎ ((z ≢ k) × Has (g.mailbox z.receiver) z y) → Has (change g.mailbox k.receiver box z.receiver) z y
    boxed z y one (inl e) = subst (λ (t : Event). Has (change g.mailbox k.receiver box t.0.receiver) t.0 t.1) (λ i. (sym e i, sym (one e) i))
        (subst (λ set. Has set k x) (sym (change_at g.mailbox k.receiver box)) (insert_at (g.mailbox k.receiver) k x))
    boxed z y one (inr o) = change_all g.mailbox k.receiver box (λ q set. Has (g.mailbox q) z y → Has set z y) (λ h. insert_other (g.mailbox k.receiver) k x z o.0 ∙ h) (λ q n h. h) z.receiver o.1

    post_view : IsView (posted g a k x) r.v
    post_view = record { alone = r.view.alone; tray = tray; mailbox = mailbox; letters = λ z y out. letters z y out (r.view.letters z y out) (same_or_not z k); done = r.view.done }
      where
        tray : (b : ℕ) (z : Key) (y : StepInput) → Has (change g.tray a (finmap.remove (g.tray a) k) b) z y → IsOut r.v z y × IsHeld g b
        tray = change_all g.tray a (finmap.remove (g.tray a) k) (λ b set. (z : Key) (y : StepInput) → Has set z y → IsOut r.v z y × IsHeld g b)
            (λ z y h. r.view.tray a z y (removed (g.tray a) k z y h).1) (λ b n. r.view.tray b)

        mailbox : (q : ℕ) (z : Key) (y : StepInput) → Has (change g.mailbox k.receiver box q) z y → (z.receiver ≡ q) × IsOut r.v z y
        mailbox = change_all g.mailbox k.receiver box (λ q set. (z : Key) (y : StepInput) → Has set z y → (z.receiver ≡ q) × IsOut r.v z y)
            (λ z y h. here z y (inserted (g.mailbox k.receiver) k x z y h)) (λ q n. r.view.mailbox q)
          where
            here : (z : Key) (y : StepInput) → ((z ≡ k) × (y ≡ x)) ⊎ ((z ≢ k) × Has (g.mailbox k.receiver) z y) → (z.receiver ≡ k.receiver) × IsOut r.v z y
            here z y (inl e) = (ap (λ (s : Key). s.receiver) e.0, subst (λ (t : Event). IsOut r.v t.0 t.1) (λ i. (sym e.0 i, sym e.1 i)) (r.view.tray a k x there).0)
            here z y (inr h) = r.view.mailbox k.receiver z y h.1

        letters : (z : Key) (y : StepInput) → IsOut r.v z y → IsSomewhere g z y → (z ≡ k) ⊎ (z ≢ k) → IsSomewhere (posted g a k x) z y
        letters z y out where_it_is (inl e) = inr (boxed z y (same z y out) (inl e))
        letters z y out (inl (b, h)) (inr n) = inl (b, change_all g.tray a (finmap.remove (g.tray a) k) (λ c set. Has (g.tray c) z y → Has set z y) (λ hc. removed_back (g.tray a) k z y n hc) (λ c l hc. hc) b h)
        letters z y out (inr h) (inr n) = inr (boxed z y (same z y out) (inr (n, h)))

    pub post_reached : Reached v0 u (posted g a k x)
    post_reached = record { v = r.v; history = r.history; family = r.family; view = post_view; runs = r.runs; parts = r.parts }

  -- ---- a process takes an event
  module _ (sound : IsSound S) (reach : end ≤ start + S.lookahead) (v0 : ℕ → World Mind) (u : World Mind) (g : StageRecord Mind) (r : Reached v0 u g)
      (a : ℕ) (k : Key) (x : StepInput) (held_by : g.status k.receiver ≡ Held a) (least : IsLeast (g.own k.receiver) k x) (early : k.tick < end) where
    abbrev p : ℕ
    p = k.receiver

    abbrev c : IsAlone S start end p (r.v p) (g.process p) (g.own p)
    c = r.view.alone p

    there : Has (r.v p).pending k x
    there = ((c.own_is k x).0 least.there).0

    abbrev m : Made S
    m = step S (g.process p) k x

    abbrev w : ℕ → World Mind
    w = stepped S start end sound reach u r.v r.family k x there early

    abbrev theirs : List Event
    theirs = for_others p m.added

    family : IsFamily S start end (taken S u k x) w
    family = stepped_family S start end sound reach u r.v r.family k x there early

    -- letters stay where they are
    out_kept : (z : Key) (y : StepInput) → IsOut r.v z y → IsOut w z y
    out_kept z y (q, h, n) = (q, kept S start end sound reach u r.v r.family k x there early q z y (λ is e. n (ap (λ (s : Key). s.receiver) e ∙ sym is)) h, n)

    -- those of the step are out
    out_new : (z : Key) (y : StepInput) → IsIn (z, y) theirs → IsOut w z y
    out_new z y i =
        let f = other_in S start end p sound reach (r.v p) (g.process p) (g.own p) c k x least early z y i in
        (p, at_own S start end sound reach u r.v r.family k x there early z y (new_there S start end p sound reach (r.v p) (g.process p) (g.own p) c k x least early z y f.0), f.1)

    tray_back : (z : Key) (y : StepInput) → IsOut w z y → IsIn (z, y) theirs ⊎ Has (g.tray a) z y → Has (joined (g.tray a) theirs) z y
    tray_back z y out = joined_back theirs (g.tray a) z y same
      where
        same : (e : Event) → IsIn e theirs → e.0 ≡ z → e.1 ≡ y
        same e i is =
            let n = out_new e.0 e.1 i in
            one_input (taken S u k x).pending z e.1 y (subst (λ s. Has (taken S u k x).pending s e.1) is (family.parts n.0 e.0 e.1 n.1)) (family.parts out.0 z y out.1)

    turn_view : IsView (turned S g a p k x) w
    turn_view = record { alone = alone; tray = tray; mailbox = λ b z y h. let f = r.view.mailbox b z y h in (f.0, out_kept z y f.1); letters = letters; done = done }
      where
        alone : (q : ℕ) → IsAlone S start end q (w q) (change g.process p m.process q) (change g.own p (joined (finmap.remove (g.own p) k) (for_self p m.added)) q)
        alone q = by_place p q (λ b. IsAlone S start end q (cond b (taken S (r.v p) k x) (r.v q)) (cond b m.process (g.process q)) (cond b (joined (finmap.remove (g.own p) k) (for_self p m.added)) (g.own q)))
            (λ e. subst (λ s. IsAlone S start end s (taken S (r.v p) k x) m.process (joined (finmap.remove (g.own p) k) (for_self p m.added))) (sym e)
            (next_alone S start end p sound reach (r.v p) (g.process p) (g.own p) c k x least early))
            (λ n. r.view.alone q)

        tray : (b : ℕ) (z : Key) (y : StepInput) → Has (change g.tray a (joined (g.tray a) theirs) b) z y → IsOut w z y × IsHeld g b
        tray = change_all g.tray a (joined (g.tray a) theirs) (λ b set. (z : Key) (y : StepInput) → Has set z y → IsOut w z y × IsHeld g b)
            (λ z y h. here z y (joined_cases theirs (g.tray a) z y h)) (λ b n z y h. let t = r.view.tray b z y h in (out_kept z y t.0, t.1))
          where
            here : (z : Key) (y : StepInput) → IsIn (z, y) theirs ⊎ Has (g.tray a) z y → IsOut w z y × IsHeld g a
            here z y (inl i) = (out_new z y i, (p, (c.is_own).world.received k x there, held_by))
            here z y (inr h) = let t = r.view.tray a z y h in (out_kept z y t.0, t.1)

        somewhere : (z : Key) (y : StepInput) → IsOut w z y → IsSomewhere g z y → IsSomewhere (turned S g a p k x) z y
        somewhere z y out (inl (b, h)) = inl (b, change_all g.tray a (joined (g.tray a) theirs) (λ b set. Has (g.tray b) z y → Has set z y) (λ h. tray_back z y out (inr h)) (λ b n h. h) b h)
        somewhere z y out (inr h) = inr h

        letters : (z : Key) (y : StepInput) → IsOut w z y → IsSomewhere (turned S g a p k x) z y
        letters z y (q, h, n) =
            change_all r.v p (taken S (r.v p) k x) (λ q (d : World Mind). Has d.pending z y → z.receiver ≢ q → IsOut w z y → IsSomewhere (turned S g a p k x) z y)
            (λ h n out. by out ((next_letters S start end p sound reach (r.v p) (g.process p) (g.own p) c k x least early z y).0 (h, n)))
            (λ q l h n out. somewhere z y out (r.view.letters z y (q, h, n))) q h n (q, h, n)
          where
            by : IsOut w z y → (Has (r.v p).pending z y × (z.receiver ≢ p)) ⊎ IsIn (z, y) theirs → IsSomewhere (turned S g a p k x) z y
            by out (inl l) = somewhere z y out (r.view.letters z y (p, l.0, l.1))
            by out (inr i) = inl (a, subst (λ set. Has set z y) (sym (change_at g.tray a (joined (g.tray a) theirs))) (tray_back z y out (inl i)))

        done : (q : ℕ) → g.status q ≡ Done → NoneBelow end (change g.own p (joined (finmap.remove (g.own p) k) (for_self p m.added)) q)
        done = change_all g.own p (joined (finmap.remove (g.own p) k) (for_self p m.added)) (λ q set. g.status q ≡ Done → NoneBelow end set)
            (λ is. absurd (clash a (sym held_by ∙ is))) (λ q n. r.view.done q)

    turn_own : Reached v0 (taken S u k x) (turned S g a p k x)
    turn_own = record { v = w; history = change r.history p (r.history p ++ (m.entry, x) ∷ []); family = family; view = turn_view; runs = runs; parts = parts }
      where
        same_made : m ≡ made S (r.v p) k x
        same_made = same_step S start end p sound reach (r.v p) (g.process p) (g.own p) c k x least early

        runs : (q : ℕ) → RunSoFar S end (v0 q) (change r.history p (r.history p ++ (m.entry, x) ∷ []) q) (w q)
        runs = change_both r.history r.v p (r.history p ++ (m.entry, x) ∷ []) (taken S (r.v p) k x) (λ q h d. RunSoFar S end (v0 q) h d)
            (subst (λ (n : Made S). RunSoFar S end (v0 p) (r.history p ++ (n.entry, x) ∷ []) (taken S (r.v p) k x)) (sym same_made)
            (so_far_more S end (r.history p) (v0 p) (r.v p) (r.runs p) k x (least_alone S start end p sound reach (r.v p) (g.process p) (g.own p) c k x least early) early)) (λ q n. r.runs q)

        parts : (q : ℕ) → change g.part p (g.part p ++ m.entry ∷ []) q ≡ entries (change r.history p (r.history p ++ (m.entry, x) ∷ []) q)
        parts = change_both g.part r.history p (g.part p ++ m.entry ∷ []) (r.history p ++ (m.entry, x) ∷ []) (λ q l h. l ≡ entries h)
            (ap (λ l. l ++ m.entry ∷ []) (r.parts p) ∙ sym (map-append (λ (t : Pair). t.0) (r.history p) ((m.entry, x) ∷ []))) (λ q n. r.parts q)

  pub turn_reached : IsSound S → end ≤ start + S.lookahead → (v0 : ℕ → World Mind) (u : World Mind) (g : StageRecord Mind) → Reached v0 u g
      → (a p : ℕ) (k : Key) (x : StepInput) → g.status p ≡ Held a → IsLeast (g.own p) k x → k.tick < end → Reached v0 (taken S u k x) (turned S g a p k x)
  turn_reached sound reach v0 u g r a p k x held least early =
      subst (λ q. g.status q ≡ Held a → IsLeast (g.own q) k x → Reached v0 (taken S u k x) (turned S g a q k x)) (((r.view.alone p).own_is k x).0 least.there).1
      (λ held2 least2. turn_own sound reach v0 u g r a k x held2 least2 early) held least
