-- What berths make of a window, some run of the window machine makes.
use Rattle.window_laws.proofs.Words.{◌≡◌, ◌⊎◌, ℕ, ◌≤◌, inl, inr, sym, ap, ◌∙◌, subst, List, Key, StepInput, Setting, IsSound, IsProcess, Event, Events, World, Has, IsWorld, entries, same_events, one_run, StageRecord, Act, end_of, first_status, IsRun, StandsFor, IsMerge, IsPosted, AreBerths, IsSameStage}
use Rattle.window_laws.proofs.{Family.{is_or_not}, Order.{any_order}, Exists.{any_run}, Outcome.{IsWhole, whole, pairs_are, now_is, rest_in, letter_in, whole_place}}
use Rattle.trace_laws.specs.History.{Pair, pairs_of}

-- two stages that stand for one world from one tick on are the same
same_stage : {Mind : Type 0} (S : Setting Mind) (window : ℕ) (g h : StageRecord Mind) (w : World Mind) → StandsFor S window g w → StandsFor S window h w → g.start ≡ h.start → IsSameStage S g h
same_stage S window g h w a b start = record {
  start = start;
  process = λ p is. a.process p is ∙ sym (b.process p is);
  own = own;
  part = λ p. a.part p ∙ sym (b.part p);
  status = λ p. a.status p ∙ (λ i. first_status (end_of S window (start i)) (own p i)) ∙ sym (b.status p);
  tray = λ q. same_events (g.tray q) (h.tray q) (λ k y i. absurd (a.tray q k y i)) (λ k y i. absurd (b.tray q k y i));
  mailbox = λ q. same_events (g.mailbox q) (h.mailbox q) (λ k y i. absurd (a.mailbox q k y i)) (λ k y i. absurd (b.mailbox q k y i));
}
  where
    own : (p : ℕ) → g.own p ≡ h.own p
    own p = same_events (g.own p) (h.own p) (λ k y i. (b.own p k y).1 ((a.own p k y).0 i)) (λ k y i. (a.own p k y).1 ((b.own p k y).0 i))

module _ {Mind : Type 0} (S : Setting Mind) (sound : IsSound S) (window : ℕ) (short : window ≤ S.lookahead)
    (w : World Mind) (is_world : IsWorld S w) (g : StageRecord Mind) (stands : StandsFor S window g w)
    (history : ℕ → List Pair) (rest : ℕ → Events) (letters : ℕ → List Event) (h : StageRecord Mind) (berths : AreBerths S window g history rest letters h) where
  abbrev till : ℕ
  till = end_of S window g.start

  -- what the list makes of the window
  abbrev all : (list : List Pair) × (after : World Mind) × IsWhole S sound window short w is_world g stands list after
  all = whole S sound window short w is_world g stands

  abbrev after : World Mind
  after = all.1

  from_own : (p : ℕ) (k : Key) (y : StepInput) → Has (h.own p) k y → Has after.pending k y × (k.receiver ≡ p)
  from_own p k y i = go (is_or_not S p)
    where
      by : IsProcess S p → Has (rest p) k y ⊎ IsPosted S letters p k y → Has after.pending k y × (k.receiver ≡ p)
      by is (inl r) = rest_in S sound window short w is_world g stands all.0 after all.2 p (history p) (h.process p) (rest p) (letters p) (berths.berth p is) k y r
      by is (inr (q, is_q, j, e)) = (letter_in S sound window short w is_world g stands all.0 after all.2 q (history q) (h.process q) (rest q) (letters q) (berths.berth q is_q) k y j, e)

      go : IsProcess S p ⊎ ¬ (IsProcess S p) → Has after.pending k y × (k.receiver ≡ p)
      go (inl is) = by is ((berths.own p is k y).0 i)
      go (inr not) = absurd (berths.others p not k y i)

  place : (k : Key) (y : StepInput) → Has after.pending k y → Has (h.own k.receiver) k y
  place k y i = (berths.own k.receiver (all.2.family.whole.received k y i) k y).1 (whole_place S sound window short w is_world g stands all.0 after all.2 history h.process rest letters berths.berth k y i)

  pub h_stands : StandsFor S window h after
  h_stands = record {
    process = λ p is. now_is S sound window short w is_world g stands all.0 after all.2 p (history p) (h.process p) (rest p) (letters p) (berths.berth p is) is;
    own = λ p k y. (from_own p k y, λ i. subst (λ q. Has (h.own q) k y) i.1 (place k y i.0));
    late = λ k y i. berths.late k.receiver k y (place k y i);
    part = berths.part;
    status = berths.status;
    tray = berths.tray;
    mailbox = berths.mailbox;
  }

  pub berths_run : (acts : List Act) × (found : StageRecord Mind) × (left : StageRecord Mind) × IsRun S window till g acts found left × IsSameStage S left h
      × ((p : ℕ) → IsProcess S p → found.part p ≡ entries (history p)) × IsMerge S.processes found.part (entries all.0)
  berths_run =
      let r = any_run S sound window short w is_world g stands all.0 after all.2.run h.start berths.from_end berths.to_horizon (λ k y i. berths.late k.receiver k y (place k y i)) in
      let o = any_order S sound window short w is_world g stands r.0 r.1 r.2 r.3 in
      let one = one_run S till w o.0 all.0 o.1 after o.2.run all.2.run in (
        r.0,
        r.1,
        r.2,
        r.3,
        same_stage S window r.2 h after (subst (λ z. StandsFor S window r.2 z) one.1 o.2.stands) h_stands r.4,
        (λ p is. o.2.parts p is ∙ ap (λ l. entries (pairs_of p l)) one.0
            ∙ ap entries (sym (pairs_are S sound window short w is_world g stands all.0 after all.2 p (history p) (h.process p) (rest p) (letters p) (berths.berth p is)))),
        subst (λ l. IsMerge S.processes r.1.part (entries l)) one.0 o.2.merged,
      )
