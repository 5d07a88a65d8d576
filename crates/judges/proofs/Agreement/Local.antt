-- What is true of one process, of its state and of all that it did so far. Sent says what is sent in the whole run.
use Rattle.judges.proofs.Words.{◌≡◌, ℕ, ◌+◌, ◌<◌, ◌≤◌, refl, sym, ap, ◌∙◌, subst, Bool, true, false, cond, arith, nat_lt, Option, None, Some, List, [], ◌∷◌, ◌++◌, map, append_assoc, append-nil, zero, suc, inl, inr, ◌&&◌, not, nat_le, nat_eq, eqb, is_some, unwrap_or, AllByRecursion, cond_both, leb-true, eqb-true, and_parts, Answer, still, after, to_all, Estimate, Phase, Opening, Collect, Await, Tally, Ended, Kept, Coordinator, is_decided, from_round, enter, leave, best_to, is_opening, keep, propose, collect, reply, adopt, await, tally, end_wait, waits_left, end_waits, settle, is_timely, is_early, deliver, receive, begin, step_coordinator, opening_coordinator, Payload, Action, both, weaker, and-true, numbers_to, change, relay, StepInput, change_at, change_other}
use Rattle.judges.proofs.{Agreement.{Answering.{answers_in}, Locking.{IsChosen, IsLocked, Origin, IsBest, best_is, there_is, is_true_there}, Joined.{IsOfLower}}, Algorithms.{all_sent}}
use Rattle.process_api.specs.{Coordinator.{coordinator, is_own, greatest_round, count_to, majority}, Rows.{keep_one}}
use Rattle.process_api.specs.declared.message.Payload.TheVariants as payload
use Rattle.process_api.specs.declared.action.Note.TheVariants as note
use Rattle.process_api.specs.declared.action.Action.TheVariants as action
use Rattle.trace_laws.specs.Step.{noted}
use Rattle.process_api.specs.declared.message.StepInput.TheVariants as input

-- the answers among actions
abbrev pub verdicts : List Action → List (Option ℕ)
verdicts actions = answers_in (noted actions)

pub verdicts-append : (xs ys : List Action) → verdicts (xs ++ ys) ≡ verdicts xs ++ verdicts ys
verdicts-append [] ys = refl
verdicts-append (action.Note (note.Decided v) ∷ xs) ys = ap (λ z. Some v ∷ z) (verdicts-append xs ys)
verdicts-append (action.Note note.NoValue ∷ xs) ys = ap (λ z. None ∷ z) (verdicts-append xs ys)
verdicts-append (a ∷ xs) ys = verdicts-append xs ys

pub quiet_all : (what : Payload) (qs : List ℕ) → verdicts (map (λ q. action.Send q what) qs) ≡ []
quiet_all what [] = refl
quiet_all what (q ∷ qs) = quiet_all what qs

-- at most one outcome, and that only once decided
abbrev pub Once : (ℕ → Type 0) → Bool → List (Option ℕ) → Type 0
Once IsGood false vs = vs ≡ []
Once IsGood true vs = (v : ℕ) × (vs ≡ Some v ∷ []) × IsGood v

module _ (n : ℕ) (Sent : ℕ → Payload → Type 0) (own mine : ℕ) where
  abbrev pub From : ℕ → ℕ → Type 0
  From value stamp = Origin n Sent (λ v. v ≡ mine) value stamp

  -- what is true of an action of this process: proposed are the values of its proposals by round, acked the rounds that it acknowledged; it is in round, and its proposals are of rounds below next
  abbrev pub IsFine : (ℕ → ℕ) → (ℕ → Bool) → ℕ → ℕ → Action → Type 0
  IsFine proposed acked round next (action.Send to (payload.Estimate r v t)) = From v t × (t < r) × (r ≤ round) × ((k : ℕ) → acked k ≡ true → k < r → k ≤ t)
  IsFine proposed acked round next (action.Send to (payload.Proposal r v)) = IsChosen n Sent r v × (r < next) × (v ≡ proposed r)
  IsFine proposed acked round next (action.Send to (payload.Reply r ack)) = ack ≡ true → acked r ≡ true
  IsFine proposed acked round next (action.Send to (payload.Decide r v)) = IsLocked n Sent r v
  IsFine proposed acked round next a = Unit {0}

  -- kept letters were sent
  pub record CameIn (kept : Kept) : Type 0 where
    pub estimates : (r q : ℕ) (e : Estimate) → kept.estimates r q ≡ Some e → Sent q (payload.Estimate r e.value e.stamp)
    pub proposals : (r v : ℕ) → kept.proposals r ≡ Some v → Sent (coordinator n r) (payload.Proposal r v)
    pub replies : (r q : ℕ) → kept.replies r q ≡ Some true → Sent q (payload.Reply r true)

  abbrev pub IsGood : ℕ → Type 0
  IsGood v = (r : ℕ) × IsLocked n Sent r v

  pub record Past (acts : List Action) (round next stamp : ℕ) (decided : Bool) : Type 0 where
    pub proposed : ℕ → ℕ
    pub acked : ℕ → Bool
    pub ack_stamp : (r : ℕ) → acked r ≡ true → r ≤ stamp
    pub fine : AllByRecursion (IsFine proposed acked round next) acts
    pub once : Once IsGood decided (verdicts acts)

  -- what the phase says of the estimate
  abbrev pub Now : Phase → ℕ → ℕ → ℕ → Type 0
  Now Opening round value stamp = (round ≡ 0) × (stamp ≡ 0) × (value ≡ mine)
  Now Collect round value stamp = (stamp < round) × From value stamp × (is_own n own round ≡ true)
  Now Await round value stamp = (stamp < round) × (is_own n own round ≡ false → From value stamp)
  Now Tally round value stamp = (1 ≤ round) × (stamp ≡ round) × Sent (coordinator n round) (payload.Proposal round value)
  Now phase round value stamp = Unit {0}

  -- as a coordinator collects, it has not proposed in its round
  abbrev pub next_of : Phase → ℕ → ℕ
  next_of Collect round = round
  next_of phase round = round + 1

  pub record Local (acts : List Action) (s : Coordinator) : Type 0 where
    pub came : CameIn s.kept
    pub past : Past acts s.round (next_of s.phase s.round) s.estimate.stamp (is_decided s.phase)
    pub now : Now s.phase s.round s.estimate.value s.estimate.stamp

  -- ---- what the moves do to the past

  -- as the round rises, and a proposal or an acknowledgement of the round joins, what was done stays fine
  pub past_on : (acts more : List Action) (a b c d stamp later : ℕ) (decided : Bool) (p : Past acts a b stamp decided) (proposed : ℕ → ℕ) (acked : ℕ → Bool) → a ≤ c → b ≤ d
      → ((r : ℕ) → r < b → p.proposed r ≡ proposed r) → ((r : ℕ) → p.acked r ≡ true → acked r ≡ true) → ((r : ℕ) → acked r ≡ true → r < a → p.acked r ≡ true) → ((r : ℕ) → acked r ≡ true → r ≤ later)
      → AllByRecursion (IsFine proposed acked c d) more → verdicts more ≡ [] → Past (acts ++ more) c d later decided
  past_on acts more a b c d stamp later decided p proposed acked round next same kept old low fine quiet = record {
    proposed = proposed;
    acked = acked;
    ack_stamp = low;
    fine = both (IsFine proposed acked c d) acts more (weaker (IsFine p.proposed p.acked a b) (IsFine proposed acked c d) still_fine acts p.fine) fine;
    once = subst (Once IsGood decided) (sym (verdicts-append acts more ∙ ap (λ z. verdicts acts ++ z) quiet ∙ append-nil (verdicts acts))) p.once;
  }
    where
      still_fine : (x : Action) → IsFine p.proposed p.acked a b x → IsFine proposed acked c d x
      still_fine (action.Send to (payload.Estimate r v t)) f = (f.0, f.1, omega (arith, f.2), λ k h l. f.3 k (old k h (omega (arith, f.2))) l)
      still_fine (action.Send to (payload.Proposal r v)) f = (f.0, omega (arith, f.1), f.2 ∙ same r f.1)
      still_fine (action.Send to (payload.Reply r ack)) f = λ h. kept r (f h)
      still_fine x f = f

  -- where neither joins
  pub past_more : (acts more : List Action) (a b c d stamp : ℕ) (decided : Bool) (p : Past acts a b stamp decided) → a ≤ c → b ≤ d
      → AllByRecursion (IsFine p.proposed p.acked c d) more → verdicts more ≡ [] → Past (acts ++ more) c d stamp decided
  past_more acts more a b c d stamp decided p round next = past_on acts more a b c d stamp stamp decided p p.proposed p.acked round next (λ r l. refl) (λ r h. h) (λ r h l. h) p.ack_stamp

  -- ---- answers

  abbrev pub Fits : List Action → Answer Coordinator → Type 0
  Fits acts a = Local (acts ++ a.actions) a.state

  -- nothing is done
  pub fits_still : (acts : List Action) (s : Coordinator) → Local acts s → Fits acts (still s)
  fits_still acts s l = subst (λ z. Local z s) (sym (append-nil acts)) l

  -- first some actions, then an answer
  pub fits_after : (acts more : List Action) (a : Answer Coordinator) → Fits (acts ++ more) a → Fits acts (after more a)
  fits_after acts more a l = subst (λ z. Local z a.state) (append_assoc acts more a.actions) l

  -- ---- a round is entered

  from_came : (round : ℕ) (kept : Kept) → CameIn kept → CameIn (from_round round kept)
  from_came round kept c = record {
    estimates = λ r q e h. c.estimates r q e (was (nat_lt r round) (kept.estimates r q) e h);
    proposals = λ r v h. c.proposals r v (was (nat_lt r round) (kept.proposals r) v h);
    replies = λ r q h. c.replies r q (was (nat_lt r round) (kept.replies r q) true h);
  }
    where
      was : {X : Type 0} (b : Bool) (o : Option X) (x : X) → cond b None o ≡ Some x → o ≡ Some x
      was true o x h = absurd (cc)
      was false o x h = h

  module _ (acts : List Action) (s : Coordinator) (came : CameIn s.kept) where
    pub enter_local : (r next : ℕ) → s.round < r → next ≤ r → s.estimate.stamp < r → Past acts s.round next s.estimate.stamp false → From s.estimate.value s.estimate.stamp → Fits acts (enter n own r s)
    enter_local r next later room fresh past from =
        elim (is_own n own r) as (λ b. is_own n own r ≡ b → Fits acts (record (enter n own r s) { state = record (enter n own r s).state { phase = cond b Collect Await } })) [
          | true ↦ λ is. record { came = from_came r s.kept came; past = entered r (omega arith); now = (fresh, from, is) }
          | false ↦ λ is. record { came = from_came r s.kept came; past = entered (r + 1) (omega arith); now = (fresh, λ _. from) }
        ] refl
      where
        entered : (nx : ℕ) → r ≤ nx → Past (acts ++ (enter n own r s).actions) r nx s.estimate.stamp false
        entered nx above = past_more acts (enter n own r s).actions s.round next r nx s.estimate.stamp false past (omega arith) (omega arith) (tt, ((from, fresh, omega arith, λ k h l. past.ack_stamp k h), tt)) refl

    pub leave_local : s.estimate.stamp ≤ s.round → Past acts s.round (s.round + 1) s.estimate.stamp false → From s.estimate.value s.estimate.stamp → Fits acts (leave n own s)
    leave_local low past from = cond_both (nat_lt s.round greatest_round) (enter n own (s.round + 1) s) (still (record s { phase = Ended })) (Fits acts)
        (λ _. enter_local (s.round + 1) (s.round + 1) (omega arith) (omega arith) (omega arith) past from)
        (λ _. fits_still acts _ (record { came = came; past = past; now = tt }))

-- ---- it stays true as its waits end and as it takes an input

module _ (n : ℕ) (Sent : ℕ → Payload → Type 0) (own mine : ℕ) where
  abbrev Good : List Action → Option (Answer Coordinator) → Type 0
  Good acts None = Unit {0}
  Good acts (Some a) = Fits n Sent own mine acts a

  module _ (acts : List Action) (round : ℕ) (e : Estimate) (kept : Kept) (seen : ℕ → Bool) where
    abbrev in_phase : Phase → Coordinator
    in_phase phase = record { round = round; phase = phase; estimate = e; kept = kept; seen = seen }

    collect_good : Local n Sent own mine acts (in_phase Collect) → Good acts (collect n own (in_phase Collect))
    collect_good l = cond_both (nat_le (majority n) (count_to n (λ q. is_some (kept.estimates round q)))) _ _ (Good acts)
        (λ enough. chose (leb-true _ _ enough) (best_to n (kept.estimates round)) (best_is n (kept.estimates round))) (λ _. tt)
      where
        chosen : majority n ≤ count_to n (λ q. is_some (kept.estimates round q)) → (best : Estimate) → IsBest n (kept.estimates round) (Some best) → IsChosen n Sent round best.value
        chosen enough best is = record {
          voters = λ q. is_some (kept.estimates round q);
          enough = enough;
          stamp = best.stamp;
          from = is.0.0;
          best = l.came.estimates round is.0.0 best is.0.3;
          others = λ q low high h. let d = there_is (kept.estimates round q) h in (d.0.value, d.0.stamp, l.came.estimates round q d.0 d.1, is.1 q low high d.0 d.1);
        }

        chose : majority n ≤ count_to n (λ q. is_some (kept.estimates round q)) → (o : Option Estimate) → IsBest n (kept.estimates round) o
            → Good acts (elim o [ None ↦ None | Some best ↦ Some (propose n own (in_phase Collect) best) ])
        chose enough None is = tt
        chose enough (Some best) is =
            let p = l.past in
            let proposed : ℕ → ℕ = change p.proposed round best.value in
            record {
              came = l.came;
              past = past_on n Sent own mine acts (to_all n (payload.Proposal round best.value)) round round round (round + 1) e.stamp e.stamp false p proposed p.acked (omega arith) (omega arith)
                  (λ r l. sym (change_other p.proposed round best.value r (λ s. omega (arith, s, l)))) (λ r h. h) (λ r h l. h) p.ack_stamp
                  (all_sent (IsFine n Sent own mine proposed p.acked round (round + 1)) n (payload.Proposal round best.value) (λ q. (chosen enough best is, omega arith, sym (change_at p.proposed round best.value))))
                  (quiet_all (payload.Proposal round best.value) (numbers_to n));
              now = (l.now.0, λ other. absurd (cc (l.now.2, other)));
            }

    await_good : (is_suspected : ℕ → Bool) → is_suspected own ≡ false → Local n Sent own mine acts (in_phase Await) → Good acts (await n own is_suspected (in_phase Await))
    await_good is_suspected not_itself l =
        elim (kept.proposals round) as (λ o. kept.proposals round ≡ o → Good acts (elim o [
          | Some value ↦ Some (reply n own true (adopt n own (in_phase Await) value))
          | None ↦ cond (is_suspected (coordinator n round)) (Some (reply n own false (in_phase Await))) None
        ])) [
          | Some v ↦ acked v
          | None ↦ λ _. cond_both (is_suspected (coordinator n round)) _ _ (Good acts) nacked (λ _. tt)
        ] refl
      where
        fresh : e.stamp < round
        fresh = l.now.0

        block : Bool → List Action
        block ack = action.Send (coordinator n round) (payload.Reply round ack) ∷ []

        -- with the proposal
        acked : (v : ℕ) → kept.proposals round ≡ Some v → Fits n Sent own mine acts (reply n own true (adopt n own (in_phase Await) v))
        acked v at = fits_after n Sent own mine acts (block true) _ (cond_both (is_own n own round) _ (leave n own s) (Fits n Sent own mine (acts ++ block true))
            (λ _. fits_still n Sent own mine (acts ++ block true) _ (record { came = l.came; past = past; now = (omega arith, refl, sent) }))
            (λ _. leave_local n Sent own mine (acts ++ block true) s l.came (omega arith) past (inr (omega arith, sent))))
          where
            s : Coordinator
            s = adopt n own (in_phase Await) v

            sent : Sent (coordinator n round) (payload.Proposal round v)
            sent = l.came.proposals round v at

            past : Past n Sent own mine (acts ++ block true) round (round + 1) round false
            past =
                let p = l.past in
                past_on n Sent own mine acts (block true) round (round + 1) round (round + 1) e.stamp round false p p.proposed (change p.acked round true) (omega arith) (omega arith) (λ r l. refl)
                (λ r h. cond_both (eqb r round) true (p.acked r) (λ b. b ≡ true) (λ _. refl) (λ _. h)) (λ r h l. sym (change_other p.acked round true r (λ same. omega (arith, same, l))) ∙ h)
                (λ r h. cond_both (eqb r round) true (p.acked r) (λ b. b ≡ true → r ≤ round) (λ same _. omega (arith, eqb-true r round same)) (λ _ old. omega (arith, fresh, p.ack_stamp r old)) h)
                (λ _. change_at p.acked round true, tt) refl

        -- without it
        nacked : is_suspected (coordinator n round) ≡ true → Fits n Sent own mine acts (reply n own false (in_phase Await))
        nacked at = fits_after n Sent own mine acts (block false) _ (cond_both (is_own n own round) _ (leave n own (in_phase Await)) (Fits n Sent own mine (acts ++ block false))
            (λ is. absurd (cc (at, ap is_suspected (eqb-true _ _ is), not_itself)))
            (λ is. leave_local n Sent own mine (acts ++ block false) (in_phase Await) l.came (omega (arith, fresh))
            (past_more n Sent own mine acts (block false) round (round + 1) round (round + 1) e.stamp false l.past (omega arith) (omega arith) (λ h. absurd (cc h), tt) refl) (l.now.1 is)))

    tally_good : Local n Sent own mine acts (in_phase Tally) → Good acts (tally n own (in_phase Tally))
    tally_good l = cond_both (nat_le (majority n) (count_to n (λ q. is_some (kept.replies round q)))) _ _ (Good acts) (λ _. spread) (λ _. tt)
      where
        acks : ℕ → Bool
        acks q = unwrap_or (kept.replies round q) false

        locked : majority n ≤ count_to n acks → IsLocked n Sent round e.value
        locked enough = record { proposed = l.now.2; acks = acks; enough = enough; each = λ q low high h. l.came.replies round q (is_true_there (kept.replies round q) h) }

        letters : List Action
        letters = to_all n (payload.Decide round e.value)

        left : (more : List Action) → AllByRecursion (IsFine n Sent own mine l.past.proposed l.past.acked round (round + 1)) more → verdicts more ≡ [] → Fits n Sent own mine acts (after more (leave n own (in_phase Tally)))
        left more fine quiet =
            let stamp : e.stamp ≡ round = l.now.1 in
            fits_after n Sent own mine acts more _ (leave_local n Sent own mine (acts ++ more) (in_phase Tally) l.came (omega arith)
            (past_more n Sent own mine acts more round (round + 1) round (round + 1) e.stamp false l.past (omega arith) (omega arith) fine quiet)
            (subst (λ z. From n Sent own mine e.value z) (sym stamp) (inr (l.now.0, l.now.2))))

        spread : Fits n Sent own mine acts (after (cond (nat_le (majority n) (count_to n acks)) letters []) (leave n own (in_phase Tally)))
        spread = cond_both (nat_le (majority n) (count_to n acks)) letters [] (λ more. Fits n Sent own mine acts (after more (leave n own (in_phase Tally))))
            (λ enough. left letters (all_sent (IsFine n Sent own mine l.past.proposed l.past.acked round (round + 1)) n _ (λ q. locked (leb-true _ _ enough))) (quiet_all _ (numbers_to n)))
            (λ _. left [] tt refl)

    wait_good : (is_suspected : ℕ → Bool) → is_suspected own ≡ false → (phase : Phase) → Local n Sent own mine acts (in_phase phase) → Good acts (end_wait n own is_suspected (in_phase phase))
    wait_good is_suspected not_itself Collect l = collect_good l
    wait_good is_suspected not_itself Await l = await_good is_suspected not_itself l
    wait_good is_suspected not_itself Tally l = tally_good l
    wait_good is_suspected not_itself phase l = tt

  module _ (is_suspected : ℕ → Bool) (not_itself : is_suspected own ≡ false) where
    end_waits_fit : (k : ℕ) (acts : List Action) (s : Coordinator) → Local n Sent own mine acts s → Fits n Sent own mine acts (end_waits n own k is_suspected s)
    end_waits_fit zero acts s l = fits_still n Sent own mine acts s l
    end_waits_fit (suc k) acts s l =
        elim (end_wait n own is_suspected s) as (λ o. Good acts o → Fits n Sent own mine acts (elim o [ None ↦ still s | Some a ↦ after a.actions (end_waits n own k is_suspected a.state) ])) [
          | None ↦ λ _. fits_still n Sent own mine acts s l
          | Some a ↦ λ good. fits_after n Sent own mine acts a.actions _ (end_waits_fit k (acts ++ a.actions) a.state good)
        ] (wait_good acts s.round s.estimate s.kept s.seen is_suspected not_itself s.phase l)

    settle_fit : (acts : List Action) (a : Answer Coordinator) → Fits n Sent own mine acts a → Fits n Sent own mine acts (settle n own is_suspected a)
    settle_fit acts a l = fits_after n Sent own mine acts a.actions _ (end_waits_fit (waits_left n own a.state) (acts ++ a.actions) a.state l)

  -- ---- an input

  -- what is known of an input that comes: a letter was sent, and what a Decide tells is locked
  abbrev pub CameFrom : StepInput → Type 0
  CameFrom (input.Letter sender (payload.Decide r v)) = IsLocked n Sent r v
  CameFrom (input.Letter sender what) = Sent sender what
  CameFrom x = Unit {0}

  -- what is true of all that was kept, and of what comes, is true of all that is kept
  kept_all : {X : Type 0} (P : ℕ → ℕ → X → Type 0) (kept : ℕ → ℕ → Option X) → ((r q : ℕ) (y : X) → kept r q ≡ Some y → P r q y) → (round sender : ℕ) (x : X) → P round sender x
      → (r q : ℕ) (y : X) → keep kept round sender x r q ≡ Some y → P r q y
  kept_all {X = X} P kept all round sender x here r q y h = go (nat_eq r round && nat_eq q sender) refl h
    where
      by : (o : Option X) → kept round sender ≡ o → (r ≡ round) × (q ≡ sender) → Some (unwrap_or o x) ≡ Some y → P r q y
      by None is same h = let new : x ≡ y = cc in subst (λ z. z) (λ i. P (sym same.0 i) (sym same.1 i) (new i)) here
      by (Some z) is same h = all r q y ((λ i. kept (same.0 i) (same.1 i)) ∙ is ∙ h)

      go : (b : Bool) → (nat_eq r round && nat_eq q sender) ≡ b → cond b (Some (unwrap_or (kept round sender) x)) (kept r q) ≡ Some y → P r q y
      go true is h = let both = and_parts _ _ is in by (kept round sender) refl (eqb-true _ _ both.0, eqb-true _ _ both.1) h
      go false is h = all r q y h

  kept_one_all : {X : Type 0} (P : ℕ → X → Type 0) (kept : ℕ → Option X) → ((r : ℕ) (y : X) → kept r ≡ Some y → P r y) → (round : ℕ) (x : X) → P round x
      → (r : ℕ) (y : X) → keep_one kept round x r ≡ Some y → P r y
  kept_one_all P kept all round x here r y h = kept_all (λ r q. P r) (λ r q. kept r) (λ r q. all r) round 0 x here r 0 y (ap (λ b. cond b (Some (unwrap_or (kept round) x)) (kept r)) (and-true (nat_eq r round)) ∙ h)

  module _ (acts : List Action) (s : Coordinator) (l : Local n Sent own mine acts s) where
    -- another set of letters
    with_kept : (kept : Kept) → CameIn n Sent own mine kept → Local n Sent own mine acts (record s { kept = kept })
    with_kept kept came = record { came = came; past = l.past; now = l.now }

    next_low : (phase : Phase) (round : ℕ) → next_of n Sent own mine phase round ≤ round + 1
    next_low Collect round = omega arith
    next_low phase round = omega arith

    deliver_fit : (r v : ℕ) → IsLocked n Sent r v → Fits n Sent own mine acts (deliver n own r v s)
    deliver_fit r v locked = cond_both (s.seen r) (still s) _ (Fits n Sent own mine acts) (λ _. fits_still n Sent own mine acts s l)
        (λ _. record {
          came = l.came;
          past = subst (λ z. Past n Sent own mine z s.round (s.round + 1) s.estimate.stamp true) (append_assoc acts (relay n own r v) (cond (is_decided s.phase) [] (action.Note (note.Decided v) ∷ [])))
              (noted (is_decided s.phase) (acts ++ relay n own r v) relayed);
          now = tt;
        })
      where
        relayed : Past n Sent own mine (acts ++ relay n own r v) s.round (s.round + 1) s.estimate.stamp (is_decided s.phase)
        relayed = past_more n Sent own mine acts (relay n own r v) s.round (next_of n Sent own mine s.phase s.round) s.round (s.round + 1) s.estimate.stamp (is_decided s.phase) l.past (omega arith) (next_low s.phase s.round)
            (cond_both (is_own n own r) [] (to_all n (payload.Decide r v)) (AllByRecursion (IsFine n Sent own mine l.past.proposed l.past.acked s.round (s.round + 1))) (λ _. tt) (λ _. all_sent _ n (payload.Decide r v) (λ q. locked)))
            (cond_both (is_own n own r) [] (to_all n (payload.Decide r v)) (λ z. verdicts z ≡ []) (λ _. refl) (λ _. quiet_all (payload.Decide r v) (numbers_to n)))

        noted : (d : Bool) (so_far : List Action) → Past n Sent own mine so_far s.round (s.round + 1) s.estimate.stamp d
            → Past n Sent own mine (so_far ++ cond d [] (action.Note (note.Decided v) ∷ [])) s.round (s.round + 1) s.estimate.stamp true
        noted true so_far p = past_more n Sent own mine so_far [] s.round (s.round + 1) s.round (s.round + 1) s.estimate.stamp true p (omega arith) (omega arith) tt refl
        noted false so_far p = record {
          proposed = p.proposed;
          acked = p.acked;
          ack_stamp = p.ack_stamp;
          fine = both (IsFine n Sent own mine p.proposed p.acked s.round (s.round + 1)) so_far (action.Note (note.Decided v) ∷ []) p.fine (tt, tt);
          once = (v, verdicts-append so_far (action.Note (note.Decided v) ∷ []) ∙ ap (λ z. z ++ Some v ∷ []) p.once, (r, locked));
        }

    receive_fit : (sender : ℕ) (what : Payload) → CameFrom (input.Letter sender what) → Fits n Sent own mine acts (receive n own sender what s)
    receive_fit sender (payload.Estimate r v t) sent = fits_still n Sent own mine acts _ (cond_both (is_timely n own s sender r && is_own n own r) _ s (Local n Sent own mine acts)
        (λ _. with_kept _ (record { proposals = l.came.proposals; replies = l.came.replies; estimates = kept_all (λ r q d. Sent q (payload.Estimate r d.value d.stamp)) s.kept.estimates l.came.estimates r sender (record { value = v; stamp = t }) sent })) (λ _. l))
    receive_fit sender (payload.Proposal r v) sent = fits_still n Sent own mine acts _ (cond_both (is_timely n own s sender r && (nat_eq sender (coordinator n r) && not (is_early n own s sender))) _ s (Local n Sent own mine acts)
        (λ is.
        let from : sender ≡ coordinator n r = eqb-true _ _ (and_parts _ _ (and_parts _ _ is).1).0 in
        with_kept _ (record { estimates = l.came.estimates; replies = l.came.replies; proposals = kept_one_all (λ r v. Sent (coordinator n r) (payload.Proposal r v)) s.kept.proposals l.came.proposals r v (subst (λ z. Sent z (payload.Proposal r v)) from sent) })) (λ _. l))
    receive_fit sender (payload.Reply r ack) sent = fits_still n Sent own mine acts _ (cond_both (is_timely n own s sender r && is_own n own r) _ s (Local n Sent own mine acts)
        (λ _. with_kept _ (record {
          estimates = l.came.estimates;
          proposals = l.came.proposals;
          replies = λ k q h. kept_all (λ r q a. a ≡ true → Sent q (payload.Reply r true)) s.kept.replies (λ r q a h is. l.came.replies r q (h ∙ ap Some is)) r sender ack
              (λ is. subst (λ a. Sent sender (payload.Reply r a)) is sent) k q true h refl;
        })) (λ _. l))
    receive_fit sender (payload.Decide r v) locked = cond_both (nat_le 1 r && nat_le r greatest_round) (deliver n own r v s) (still s) (Fits n Sent own mine acts) (λ _. deliver_fit r v locked) (λ _. fits_still n Sent own mine acts s l)
    receive_fit sender what sent = fits_still n Sent own mine acts s l

  started : (acts : List Action) (round : ℕ) (e : Estimate) (kept : Kept) (seen : ℕ → Bool) (phase : Phase)
      → Local n Sent own mine acts (in_phase acts round e kept seen phase) → Fits n Sent own mine acts (begin n own input.Start (in_phase acts round e kept seen phase))
  started acts round e kept seen Opening l =
      let zero_round : round ≡ 0 = l.now.0 in
      let zero_stamp : e.stamp ≡ 0 = l.now.1 in
      enter_local n Sent own mine acts (in_phase acts round e kept seen Opening) l.came 1 (round + 1) (omega arith) (omega arith) (omega arith) l.past (inl (l.now.1, l.now.2))
  started acts round e kept seen phase l = fits_still n Sent own mine acts _ l

  begin_fit : (acts : List Action) (s : Coordinator) → Local n Sent own mine acts s → (x : StepInput) → CameFrom x → Fits n Sent own mine acts (begin n own x s)
  begin_fit acts s l input.Start came = started acts s.round s.estimate s.kept s.seen s.phase l
  begin_fit acts s l (input.Wake tag) came = fits_still n Sent own mine acts s l
  begin_fit acts s l (input.Letter sender what) came =
      cond_both (is_opening s.phase) (still s) _ (Fits n Sent own mine acts) (λ _. fits_still n Sent own mine acts s l)
      (λ _. cond_both (nat_le sender n) (receive n own sender what s) (still s) (Fits n Sent own mine acts) (λ _. receive_fit acts s l sender what came) (λ _. fits_still n Sent own mine acts s l))

  -- one input
  pub step_fits : (acts : List Action) (s : Coordinator) → Local n Sent own mine acts s → (is_suspected : ℕ → Bool) → is_suspected own ≡ false → (x : StepInput) → CameFrom x
      → Fits n Sent own mine acts (step_coordinator n own is_suspected x s)
  step_fits acts s l is_suspected not_itself x came = settle_fit is_suspected not_itself acts (begin n own x s) (begin_fit acts s l x came)

  -- what the lower parts do
  quiet_lower : (lower : List Action) → AllByRecursion IsOfLower lower → verdicts lower ≡ []
  quiet_lower [] h = refl
  quiet_lower (action.Note (note.Decided v) ∷ lower) h = absurd h.0
  quiet_lower (action.Note note.NoValue ∷ lower) h = absurd h.0
  quiet_lower (a ∷ lower) h = quiet_lower lower h.1

  pub lower_fits : (acts : List Action) (s : Coordinator) → Local n Sent own mine acts s → (lower : List Action) → AllByRecursion IsOfLower lower → Local n Sent own mine (acts ++ lower) s
  lower_fits acts s l lower of_lower =
      let next = next_of n Sent own mine s.phase s.round in
      record {
        came = l.came;
        past = past_more n Sent own mine acts lower s.round next s.round next s.estimate.stamp (is_decided s.phase) l.past (omega arith) (omega arith) (weaker IsOfLower _ fine lower of_lower) (quiet_lower lower of_lower);
        now = l.now;
      }
    where
      fine : (a : Action) → IsOfLower a → IsFine n Sent own mine l.past.proposed l.past.acked s.round (next_of n Sent own mine s.phase s.round) a
      fine (action.Send to (payload.Estimate r v t)) h = absurd h
      fine (action.Send to (payload.Proposal r v)) h = absurd h
      fine (action.Send to (payload.Reply r ack)) h = absurd h
      fine (action.Send to (payload.Decide r v)) h = absurd h
      fine a h = tt

  -- at first
  pub opening_fits : Local n Sent own mine [] (opening_coordinator mine)
  opening_fits = record {
    came = record { estimates = λ r q e h. absurd (cc h); proposals = λ r v h. absurd (cc h); replies = λ r q h. absurd (cc h) };
    past = record { proposed = λ r. 0; acked = λ r. false; ack_stamp = λ r h. absurd (cc h); fine = tt; once = refl };
    now = (refl, refl, refl);
  }
