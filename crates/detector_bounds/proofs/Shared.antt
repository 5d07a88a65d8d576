-- Through a run with a reduction: what a watcher's base detector suspects for good, its next share tells, and who is told suspects
-- it for good once no set of the crashed process comes anymore.
use Rattle.detector_bounds.proofs.Words.{◌≡◌, ◌≢◌, ◌⊎◌, ℕ, zero, suc, ◌+◌, ◌-◌, ◌*◌, ◌/◌, ◌<◌, ◌≤◌, inl, inr, refl, sym, ap, ◌∙◌, subst, true, false, cond, List, [], ◌∷◌, ◌++◌, arith, max, Some, cases_lt, cases_eq, eq-eqb, ne_eqb, leb-false, le-leb, Answer, suspected_by, step_detector, EntryRecord, Mind, ReductionState, Processes, Key, StepInput, same_or_not, and_true, out, IsInRange, Record, crash, link, place_in, Link, IsIn, setting_of, Setting, IsSound, has_crashed, World, Has, IsLeast, NoneBelow, IsWorld, made, taken, opening, start_of, entries, IsTrace, one_input, least_first, setting_sound, taken_cases, taken_old, taken_new, trusts, last_before, multiple_from, silent_from, least_delay, most_delay, LosesNothing}
use Rattle.detector_bounds.proofs.{Added.{Delivers}, Clock.{Clock, due_after, clock_first, clock_still, clock_takes}, Ending.{IsKept, IsEnd, ending, holds_at, none_later}, Fates.{fate_within, delivers}}
use Rattle.detector_bounds.proofs.{Machines.{RunsDetector, state_of, moved, own, own_up, own_down, letter_new, letter_there, own_letter_there}, Multiples.{mul-next, less_multiple, after_last, from_tick}, Others.{in_numbers}}
use Rattle.detector_bounds.proofs.Shares.{Sharer, share_step, opening_sharer, output_after, over_is, asks_shares, shares_at, shares_all, output_stays, output_gains, runs_shares, part_is, place_is}
use Rattle.detector_bounds.proofs.{Standing.{Stands, stands_first, stands_next, at_start, only_starts, out_is}, Timeouts.Trusted.{trusts-append}}
use Rattle.std.specs.FinSet as set
use Rattle.std.proofs.Math.Nat.{mul-le-mul_right}
use Rattle.process_api.specs.declared.action.Action.TheVariants as action
use Rattle.process_api.specs.declared.message.Payload.TheVariants as payload
use Rattle.process_api.specs.declared.message.StepInput.TheVariants as input
use Rattle.process_api.specs.declared.message.Tag.TheVariants as tag

silent_is : (period : ℕ) (l : Link) (n : ℕ) → 1 ≤ n → silent_from period l n ≡ n * period + l.max + 1
silent_is period l zero h = absurd (omega (arith, h))
silent_is period l (suc before) h = refl

module _ (s : Record) (is : IsInRange s) (period : ℕ) (shares : s.share ≡ Some period) (t : ℕ) (below : t < s.horizon) (q p r c : ℕ)
    (q_low : 1 ≤ q) (q_high : q ≤ s.processes) (p_low : 1 ≤ p) (p_high : p ≤ s.processes) (r_low : 1 ≤ r) (r_high : r ≤ s.processes)
    (not_q : p ≢ q) (not_r : p ≢ r) (crashes : crash s p ≡ Some c) (q_up : (u : ℕ) → u ≤ t → has_crashed (crash s q) u ≡ false) (r_up : (u : ℕ) → u ≤ t → has_crashed (crash s r) u ≡ false)
    (sure : LosesNothing s q r) (from total : ℕ) (P : World Mind → List EntryRecord → Type 0) (kept : IsKept (setting_of s) (setting_sound s is) (t + 1) P)
    (firm : (w : World Mind) (past : List EntryRecord) → P w past → trusts past q p ≤ total → NoneBelow (from + 1) w.pending → set.contains (suspected_by (w.process q).mind.lower.place (w.process q).mind.lower.detector) p ≡ true) where
  abbrev S : Setting Mind
  S = setting_of s

  abbrev sound : IsSound (setting_of s)
  sound = setting_sound s is

  abbrev stepped : ℕ → Sharer → ℕ → StepInput → Answer Sharer
  stepped a d now x = share_step (place_in s a) period d now x

  abbrev outputs : ℕ → Sharer → Processes
  outputs a d = d.output

  abbrev R : RunsDetector 2 (setting_of s) (opening_sharer s) stepped outputs
  R = runs_shares s period shares

  abbrev state : World Mind → ℕ → Sharer
  state w a = state_of (setting_of s) (opening_sharer s) stepped outputs R w a

  -- the first tick at which no set of p comes to r anymore, and the tick of the share that tells
  abbrev silent : ℕ
  silent = silent_from period (link s p r) (last_before period c)

  abbrev pub first : ℕ
  first = multiple_from period (max (from + 1) (silent - least_delay s q r))

  abbrev most : ℕ
  most = most_delay s q r

  period_low : 1 ≤ period
  period_low = (is.share period shares).0

  first_late : max (from + 1) (silent - least_delay s q r) ≤ first
  first_late = from_tick period (max (from + 1) (silent - least_delay s q r)) period_low

  abbrev Shares : (a t : ℕ) → World Mind → (count : ℕ) → Type 0
  Shares a t w count = Clock S sound (opening_sharer s) stepped outputs R tag.Share refl period period a (λ d now x. asks_shares (place_in s a) period d now x) t w (count * period + period)

  -- its set with p is on its way to r, and comes behind all of p's
  abbrev OnWay : World Mind → Type 0
  OnWay w = (key : Key) × (shared : Processes) × (key.receiver ≡ r) × Has w.pending key (input.Letter q (payload.Suspects shared)) × (set.contains shared p ≡ true) × (silent ≤ key.tick) × (key.tick ≤ first + most)

  -- r has p, and no set of p comes anymore
  abbrev IsTold : World Mind → Type 0
  IsTold w = (set.contains (state w r).output p ≡ true) × NoneBelow silent w.pending

  -- the share is still to come, or comes too late; or else
  abbrev Tells : World Mind → (count : ℕ) → Type 0
  Tells w count = (count * period + period ≤ first) ⊎ ((s.horizon ≤ first + most) ⊎ (OnWay w ⊎ IsTold w))

  pub record Knows (w : World Mind) (past : List EntryRecord) : Type 0 where
    pub layer_1 : P w past
    pub stands : Stands S sound (opening_sharer s) stepped outputs R t w past
    pub by_q : ℕ
    pub q_shares : Shares q t w by_q
    pub by_p : ℕ
    pub p_shares : Shares p t w by_p
    pub sets : (key : Key) (shared : Processes) → Has w.pending key (input.Letter p (payload.Suspects shared)) → key.receiver ≡ r → key.tick < silent
    pub tells : trusts past q p ≤ total → Tells w by_q

  module _ (w : World Mind) (past : List EntryRecord) (key : Key) (x : StepInput) (is_world : IsWorld S w) (k : Knows w past) (least : IsLeast w.pending key x) (low : key.tick ≤ t) where
    abbrev new : World Mind
    new = taken S w key x

    abbrev Moved : ℕ → Type 0
    Moved a = (((a ≢ key.receiver) ⊎ (has_crashed (crash s key.receiver) key.tick ≡ true)) × (state new a ≡ state w a))
        ⊎ (((a ≡ key.receiver) × (has_crashed (crash s key.receiver) key.tick ≡ false)) × (state new a ≡ (stepped a (state w a) key.tick x).state))

    has_moved : (a : ℕ) → Moved a
    has_moved a = moved S (opening_sharer s) stepped outputs R w key x k.stands.has a

    start_tick : x ≡ input.Start → key.tick ≡ 0
    start_tick e = (at_start S sound (opening_sharer s) stepped outputs R t w past key x is_world k.stands least e).0

    -- ---- how often a process shared

    abbrev count_by : StepInput → ℕ → ℕ
    count_by input.Start count = 0
    count_by (input.Wake tag.Share) count = count + 1
    count_by y count = count

    abbrev count_after : (a : ℕ) → Moved a → ℕ → ℕ
    count_after a (inl still) count = count
    count_after a (inr takes) count = count_by x count

    module _ (a count : ℕ) (clock : Shares a t w count) where
      share_tick : a ≡ key.receiver → x ≡ input.Wake tag.Share → key.tick ≡ count * period + period
      share_tick at e = clock.only key (sym at, subst (Has w.pending key) e least.there)

      share_due : a ≡ key.receiver → (y : StepInput) → x ≡ y → due_after tag.Share period period key.tick y (count * period + period) ≡ count_by y count * period + period
      share_due at input.Start e = omega (arith, start_tick e)
      share_due at (input.Wake tag.Share) e = omega (arith, share_tick at e, mul-next count period)
      share_due at (input.Wake tag.Beat) e = refl
      share_due at (input.Wake tag.Check) e = refl
      share_due at (input.Letter sender y) e = refl

      next_shares : (m : Moved a) → Shares a t new (count_after a m count)
      next_shares (inl h) = clock_still S sound (opening_sharer s) stepped outputs R tag.Share refl period period a (λ d now x. asks_shares (place_in s a) period d now x) t w past key x is_world k.stands least _ clock low h.0
      next_shares (inr h) = subst (Clock S sound (opening_sharer s) stepped outputs R tag.Share refl period period a (λ d now x. asks_shares (place_in s a) period d now x) t new) (share_due h.0.0 x refl)
          (clock_takes S sound (opening_sharer s) stepped outputs R tag.Share refl period period a (λ d now x. asks_shares (place_in s a) period d now x) t w past key x is_world k.stands least _ clock h.0)

    -- ---- the sets of p

    -- what is sent is sent by a share of an up process
    sent_by : (a to : ℕ) (shared : Processes) → a ≡ key.receiver → IsIn (action.Send to (payload.Suspects shared)) (own S (opening_sharer s) stepped outputs R w key x k.stands.has).actions → (x ≡ input.Wake tag.Share) × (has_crashed (crash s key.receiver) key.tick ≡ false)
    sent_by a to shared at i = elim (has_moved a) [
      | inl (inl other, same) ↦ absurd (other at)
      | inl (inr down, same) ↦ absurd (subst (λ (z : Answer Sharer). IsIn (action.Send to (payload.Suspects shared)) z.actions) (own_down S (opening_sharer s) stepped outputs R w key x k.stands.has down) i)
      | inr h ↦ (
        shares_at (place_in s key.receiver) period (state w key.receiver) key.tick x to shared
            (subst (λ (z : Answer Sharer). IsIn (action.Send to (payload.Suspects shared)) z.actions) (own_up S (opening_sharer s) stepped outputs R w key x k.stands.has h.0.1) i),
        h.0.1,
      )
    ]

    -- the last share of p
    p_last : p ≡ key.receiver → x ≡ input.Wake tag.Share → has_crashed (crash s key.receiver) key.tick ≡ false → (k.by_p + 1 ≤ last_before period c) × (key.tick ≡ (k.by_p + 1) * period)
    p_last at e up =
        let tick : key.tick ≡ (k.by_p + 1) * period = share_tick p k.by_p k.p_shares at e ∙ sym (mul-next k.by_p period) in
        let alive : key.tick < c = leb-false c key.tick ((λ i. has_crashed (sym crashes i) key.tick) ∙ (ap (λ a. has_crashed (crash s a) key.tick) at ∙ up)) in
        let l = less_multiple (k.by_p + 1) (last_before period c + 1) period (omega (arith, alive, tick, after_last period c period_low)) in
        (omega (arith, l), tick)

    next_sets : (l : Key) (shared : Processes) → Has new.pending l (input.Letter p (payload.Suspects shared)) → l.receiver ≡ r → l.tick < silent
    next_sets l shared h to = elim (taken_cases S w key x l (input.Letter p (payload.Suspects shared)) h) [
      | inr old ↦ k.sets l shared old.1 to
      | inl i ↦
          let n = letter_new S (opening_sharer s) stepped outputs R w key x k.stands.has (payload.Suspects shared) refl l p i in
          let sent = sent_by p l.receiver shared n.0 n.1 in
          let last = p_last n.0 sent.0 sent.1 in
          let came = n.2 (λ same. not_r (n.0 ∙ (sym same ∙ to))) in
          let linked = is.links p r p_low p_high r_low r_high in
          let delay = fate_within s p r linked.min_high came.0 key.tick came.1 ((λ j. (setting_of s).fate (n.0 j) (sym to j) came.0 key.tick) ∙ came.2) in
          let before : (k.by_p + 1) * period ≤ last_before period c * period = mul-le-mul_right period last.0 in
          omega (arith, last, came.3, delay, before, silent_is period (link s p r) (last_before period c) (omega (arith, last.0)))
    ]

    -- ---- the sets of q

    later_first : NoneBelow key.tick w.pending
    later_first l y h = least_first w.pending key l x y least h

    -- the share that tells
    share_tells : trusts past q p ≤ total → q ≡ key.receiver → x ≡ input.Wake tag.Share → has_crashed (crash s key.receiver) key.tick ≡ false → key.tick ≡ first → (s.horizon ≤ first + most) ⊎ OnWay new
    share_tells few at e up when = by (cases_eq r q)
      where
        shared : Processes
        shared = suspected_by (place_in s q) (state w q).base

        has_p : set.contains shared p ≡ true
        has_p =
            ap (λ (d : Sharer). set.contains (suspected_by (place_in s q) d.base) p) (part_is s period shares (w.process q).mind)
            ∙ (ap (λ place. set.contains (suspected_by place (w.process q).mind.lower.detector) p) (sym (place_is s period shares q (w.process q).mind (k.stands.has q)))
            ∙ firm w past k.layer_1 few (λ l y h. omega (arith, later_first l y h, when, first_late)))

        does : own S (opening_sharer s) stepped outputs R w key x k.stands.has ≡ stepped q (state w q) key.tick (input.Wake tag.Share)
        does = own_up S (opening_sharer s) stepped outputs R w key x k.stands.has up ∙ (λ i. stepped (sym at i) (state w (sym at i)) key.tick (e i))

        sent : IsIn (action.Send r (payload.Suspects shared)) (own S (opening_sharer s) stepped outputs R w key x k.stands.has).actions
        sent = subst (λ (a : Answer Sharer). IsIn (action.Send r (payload.Suspects shared)) a.actions) (sym does) (shares_all (place_in s q) period (state w q) key.tick r (in_numbers s.processes r r_low r_high))

        joins : (l : Key) → IsIn (l, input.Letter key.receiver (payload.Suspects shared)) (made S w key x).added → Has new.pending l (input.Letter q (payload.Suspects shared))
        joins l i = taken_new S w key x sound is_world least.there l (input.Letter q (payload.Suspects shared)) (subst (λ a. IsIn (l, input.Letter a (payload.Suspects shared)) (made S w key x).added) (sym at) i)

        by : (r ≡ q) ⊎ (r ≢ q) → (s.horizon ≤ first + most) ⊎ OnWay new
        by (inl same) =
            let one_most : most ≡ 1 = ap (λ b. cond b 1 (link s q r).max) (eq-eqb q r (sym same)) in
            let one_least : least_delay s q r ≡ 1 = ap (λ b. cond b 1 (link s q r).min) (eq-eqb q r (sym same)) in
            elim (own_letter_there S (opening_sharer s) stepped outputs R w key x k.stands.has (payload.Suspects shared) (subst (λ a. IsIn (action.Send a (payload.Suspects shared)) (own S (opening_sharer s) stepped outputs R w key x k.stands.has).actions) (same ∙ at) sent)) [
              | inl late ↦ inl (omega (arith, late, when, one_most))
              | inr o ↦ inr (o.0, shared, (o.2 ∙ (sym at ∙ sym same)), joins o.0 o.1, has_p, omega (arith, o.3, when, first_late, one_least), omega (arith, o.3, when, one_most))
            ]
        by (inr apart) =
            let other : q ≢ r = λ e. apart (sym e) in
            let its_most : most ≡ (link s q r).max = ap (λ b. cond b 1 (link s q r).max) (ne_eqb q r other) in
            let its_least : least_delay s q r ≡ (link s q r).min = ap (λ b. cond b 1 (link s q r).min) (ne_eqb q r other) in
            let linked = is.links q r q_low q_high r_low r_high in
            elim (letter_there S (opening_sharer s) stepped outputs R w key x k.stands.has (payload.Suspects shared) r (link s q r).max (λ z. apart (z ∙ sym at))
            (subst (λ a. Delivers S a key.tick r (link s q r).max) at (delivers s q r linked.min_high (sure.no_loss other) (sure.no_outage other) key.tick)) sent) [
              | inl late ↦ inl (omega (arith, late, when, its_most))
              | inr o ↦
                  let n = letter_new S (opening_sharer s) stepped outputs R w key x k.stands.has (payload.Suspects shared) refl o.0 key.receiver o.1 in
                  let came = n.2 (λ z. apart (sym o.2 ∙ (z ∙ sym at))) in
                  let delay = fate_within s q r linked.min_high came.0 key.tick came.1 ((λ j. (setting_of s).fate (at j) (sym o.2 j) came.0 key.tick) ∙ came.2) in
                  inr (o.0, shared, o.2, joins o.0 o.1, has_p, omega (arith, came.3, delay, when, first_late, its_least), omega (arith, o.3, when, its_most))
            ]

    output_moves : r ≡ key.receiver → state new r ≡ (stepped r (state w r) key.tick x).state → (state new r).output ≡ output_after (place_in s r) period (state w r).output x
    output_moves at e = ap (λ (d : Sharer). d.output) e ∙ ap (λ (z : ReductionState). z.output) (over_is (place_in s r) period (step_detector (place_in s r) (state w r).base key.tick x).state (state w r).output x)

    abbrev multiple : ℕ
    multiple = (max (from + 1) (silent - least_delay s q r) + (period - 1)) / period

    another : (n : ℕ) → n * period < multiple * period → (n + 1) * period ≤ multiple * period
    another n h = let l = less_multiple n multiple period h in mul-le-mul_right period (omega (arith, l))

    waits_on : trusts past q p ≤ total → q ≡ key.receiver → has_crashed (crash s key.receiver) key.tick ≡ false → k.by_q * period + period ≤ first → (y : StepInput) → x ≡ y → Tells new (count_by y k.by_q)
    waits_on few at up waits input.Start e = inl (omega (arith, another 0 (omega (arith, first_late)), mul-next 0 period))
    waits_on few at up waits (input.Wake tag.Share) e =
        let tick : key.tick ≡ k.by_q * period + period = share_tick q k.by_q k.q_shares at e in
        elim (cases_lt key.tick first) [
          | inl before ↦ inl (omega (arith, another (k.by_q + 1) (omega (arith, before, tick, mul-next k.by_q period)), mul-next (k.by_q + 1) period))
          | inr reached ↦ elim (share_tells few at e up (omega (arith, reached, tick, waits))) [ inl late ↦ inr (inl late) | inr way ↦ inr (inr (inl way)) ]
        ]
    waits_on few at up waits (input.Wake tag.Beat) e = inl waits
    waits_on few at up waits (input.Wake tag.Check) e = inl waits
    waits_on few at up waits (input.Letter sender y) e = inl waits

    told_now : (shared : Processes) → key.receiver ≡ r → x ≡ input.Letter q (payload.Suspects shared) → set.contains shared p ≡ true → set.contains (state new r).output p ≡ true
    told_now shared to e has_p = elim (has_moved r) [
      | inl (inl other, same) ↦ absurd (other (sym to))
      | inl (inr down, same) ↦ absurd (cc (down, subst (λ a. has_crashed (crash s a) key.tick ≡ false) (sym to) (r_up key.tick low)))
      | inr h ↦
          ap (λ o. set.contains o p) (output_moves h.0.0 h.1 ∙ ap (output_after (place_in s r) period (state w r).output) e)
          ∙ output_gains (place_in s r) period (state w r).output q shared p not_q not_r p_high has_p
    ]

    none_again : NoneBelow silent w.pending → NoneBelow silent new.pending
    none_again none = none_later S sound silent w key x is_world least.there none

    on_way_still : OnWay w → OnWay new ⊎ IsTold new
    on_way_still (l, shared, to, there, has_p, late, soon) = elim (same_or_not l key) [
      | inl same ↦
          let here : Has w.pending key (input.Letter q (payload.Suspects shared)) = subst (λ z. Has w.pending z (input.Letter q (payload.Suspects shared))) same there in
          let tick : l.tick ≡ key.tick = ap (λ (z : Key). z.tick) same in
          inr (
            told_now shared (ap (λ (z : Key). z.receiver) (sym same) ∙ to) (one_input w.pending key x (input.Letter q (payload.Suspects shared)) least.there here) has_p,
            none_again (λ z y h. omega (arith, later_first z y h, late, tick)),
          )
      | inr other ↦ inl (l, shared, to, taken_old S w key x sound is_world least.there l (input.Letter q (payload.Suspects shared)) other there, has_p, late, soon)
    ]

    told_still : IsTold w → IsTold new
    told_still (has_p, none) = (
      elim (has_moved r) [
        | inl m ↦ ap (λ (d : Sharer). set.contains d.output p) m.1 ∙ has_p
        | inr m ↦ ap (λ o. set.contains o p) (output_moves m.0.0 m.1)
            ∙ output_stays (place_in s r) period (state w r).output x p not_r
            (λ shared e. omega (arith, none key x least.there, k.sets key shared (subst (Has w.pending key) e least.there) (sym m.0.0))) has_p
      ],
      none_again none,
    )

    next_tells : trusts past q p ≤ total → (m : Moved q) → Tells w k.by_q → Tells new (count_after q m k.by_q)
    next_tells few (inl still) (inl waits) = inl waits
    next_tells few (inr h) (inl waits) = waits_on few h.0.0 h.0.1 waits x refl
    next_tells few m (inr (inl late)) = inr (inl late)
    next_tells few m (inr (inr (inl way))) = elim (on_way_still way) [ inl still ↦ inr (inr (inl still)) | inr told ↦ inr (inr (inr told)) ]
    next_tells few m (inr (inr (inr told))) = inr (inr (inr (told_still told)))

    few_before : trusts (past ++ (made S w key x).entry ∷ []) q p ≤ total → trusts past q p ≤ total
    few_before few = omega (arith, few, trusts-append past ((made S w key x).entry ∷ []) q p)

    knows_next : Knows new (past ++ (made S w key x).entry ∷ [])
    knows_next = record {
      layer_1 = kept.keeps w past key x is_world k.layer_1 least (omega (arith, low));
      stands = stands_next S sound (opening_sharer s) stepped outputs R t w past key x is_world k.stands least low;
      by_q = count_after q (has_moved q) k.by_q;
      q_shares = next_shares q k.by_q k.q_shares (has_moved q);
      by_p = count_after p (has_moved p) k.by_p;
      p_shares = next_shares p k.by_p k.p_shares (has_moved p);
      sets = next_sets;
      tells = λ few. next_tells (few_before few) (has_moved q) (k.tells (few_before few));
    }

  first_multiple : 0 * period + period ≤ first
  first_multiple = let l = less_multiple 0 ((max (from + 1) (silent - least_delay s q r) + (period - 1)) / period) period (omega (arith, first_late)) in
      omega (arith, mul-le-mul_right period l)

  pub knows_first : Knows (opening S) []
  knows_first = record {
    layer_1 = kept.opens;
    stands = stands_first S sound (opening_sharer s) stepped outputs R t;
    by_q = 0;
    q_shares = clock_first S sound (opening_sharer s) stepped outputs R tag.Share refl period period q (λ d now x. asks_shares (place_in s q) period d now x) t _ q_low q_high;
    by_p = 0;
    p_shares = clock_first S sound (opening_sharer s) stepped outputs R tag.Share refl period period p (λ d now x. asks_shares (place_in s p) period d now x) t _ p_low p_high;
    sets = λ key shared h to. absurd (cc (only_starts s.processes key (input.Letter p (payload.Suspects shared)) h).0);
    tells = λ few. inl first_multiple;
  }

  pub shared_kept : IsKept S sound (t + 1) Knows
  shared_kept = record { opens = knows_first; keeps = λ w past key x is_world k least early. knows_next w past key x is_world k least (omega (arith, early)) }

  -- so at the end of a tick from then on r suspects p on layer 2
  pub shared_then : (trace : List EntryRecord) → IsTrace S trace → trusts trace q p ≤ total → first + most ≤ t → out 2 trace r t p ≡ true
  shared_then trace is_trace few late =
      out_is S sound (opening_sharer s) stepped outputs R trace t e k.stands r p (and_true _ _ (le-leb 1 p p_low) (le-leb p s.processes p_high))
      ∙ told (k.tells (omega (arith, few, ap (λ xs. trusts xs q p) e.whole, trusts-append (entries e.history) e.later q p)))
    where
      e : IsEnd S sound trace (t + 1)
      e = ending S sound trace is_trace (t + 1) (omega (arith, below))

      k : Knows e.world (entries e.history)
      k = holds_at S sound trace (t + 1) e Knows shared_kept

      told : Tells e.world k.by_q → set.contains (state e.world r).output p ≡ true
      told (inl waits) = elim (k.q_shares.there q_up) [
        | inl start ↦ absurd (omega (arith, e.none_left (start_of q) input.Start start))
        | inr (inl over) ↦ absurd (omega (arith, over, waits, late, below))
        | inr (inr (key, wake)) ↦ absurd (omega (arith, e.none_left key _ wake.1, k.q_shares.only key wake, waits, late))
      ]
      told (inr (inl over)) = absurd (omega (arith, over, late, below))
      told (inr (inr (inl (key, shared, to, there, has_p, behind, soon)))) = absurd (omega (arith, e.none_left key _ there, soon, late))
      told (inr (inr (inr (has_p, none)))) = has_p
