-- Through a run: what every process knows of itself, and that every letter on its way was sent.
use Rattle.judges.proofs.Words.{◌≡◌, ℕ, inl, inr, refl, sym, ap, ◌∙◌, subst, Bool, true, false, cond, ◌==◌, List, [], ◌∷◌, ◌++◌, append_assoc, append-nil, IsTrue, ◌⊎◌, arith, Some, cases_eq, cond_both, eqb-true, eq-eqb, ne_eqb, cases_lt, step_coordinator, is_decided, Key, Payload, StepInput, Action, Answer, EntryRecord, change, Made, dead, made_by, IsIn, in_left, in_right, change_at, change_other, taken_cases, taken_world, opening_world, same_Some}
use Rattle.judges.proofs.Agreement.{Joined.{RunsCoordinator}, Answering.{answers_in, answers_by}, Local.{Local, IsFine, verdicts, verdicts-append, CameFrom, step_fits, lower_fits, opening_fits, IsGood, Once, next_of}}
use Rattle.judges.proofs.{Agreement.Locking.{Facts, one_locked, locked_valid}, Letters.{added_letter, no_letter_first}, Members.{each_of}}
use Rattle.process_api.specs.declared.message.Payload.TheVariants as payload
use Rattle.process_api.specs.declared.message.StepInput.TheVariants as input
use Rattle.process_api.specs.declared.action.Action.TheVariants as action
use Rattle.trace_laws.specs.{Setting.{Setting, IsSound, IsProcess, has_crashed}, World.{World, Pair, Has, IsWorld, Run, made, taken, opening, entries, IsTrace}}

module _ {Mind : Type 0} (S : Setting Mind) where
  -- who sent what, by what each process did
  abbrev pub Sent : (ℕ → List Action) → ℕ → Payload → Type 0
  Sent acts q y = IsProcess S q × (to : ℕ) × IsIn (action.Send to y) (acts q)

  abbrev answer : World Mind → Key → StepInput → Answer Mind
  answer w key x = S.react (w.process key.receiver).mind key.tick x

  abbrev crashed : Key → Bool
  crashed key = has_crashed (S.crash key.receiver) key.tick

  abbrev done : World Mind → Key → StepInput → List Action
  done w key x = cond (crashed key) [] (answer w key x).actions

  -- what each process did after one more step, and after a run
  abbrev acts_next : World Mind → (ℕ → List Action) → Key → StepInput → ℕ → List Action
  acts_next w acts key x = change acts key.receiver (acts key.receiver ++ done w key x)

  abbrev pub acts_after : List Pair → World Mind → (ℕ → List Action) → ℕ → List Action
  acts_after [] w acts = acts
  acts_after (s ∷ rest) w acts = acts_after rest (taken S w s.0.key s.1) (acts_next w acts s.0.key s.1)

  next_has : (w : World Mind) (acts : ℕ → List Action) (key : Key) (x : StepInput) (q : ℕ) (a : Action) → IsIn a (acts q) → IsIn a (acts_next w acts key x q)
  next_has w acts key x q a i = cond_both (q == key.receiver) (acts key.receiver ++ done w key x) (acts q) (IsIn a)
      (λ e. in_left a (acts key.receiver) (done w key x) (subst (λ z. IsIn a (acts z)) (eqb-true q key.receiver e) i)) (λ _. i)

  after_has : (history : List Pair) (w : World Mind) (acts : ℕ → List Action) (q : ℕ) (a : Action) → IsIn a (acts q) → IsIn a (acts_after history w acts q)
  after_has [] w acts q a i = i
  after_has (s ∷ rest) w acts q a i = after_has rest (taken S w s.0.key s.1) (acts_next w acts s.0.key s.1) q a (next_has w acts s.0.key s.1 q a i)

-- whole is what each process does in the whole run
module _ {Mind : Type 0} (S : Setting Mind) (sound : IsSound S) (proposal : ℕ → ℕ) (R : RunsCoordinator S proposal) (whole : ℕ → List Action) where
  -- what process p knows, with what it did so far and its mind: it has a part that runs the coordinator
  abbrev pub Knows : ℕ → List Action → Mind → Type 0
  Knows p acts mind = Local S.processes (Sent S whole) p (proposal p) acts (R.part mind) × IsTrue (R.has_part mind)

  pub record Known (w : World Mind) (acts : ℕ → List Action) : Type 0 where
    pub is_world : IsWorld S w
    pub each : (p : ℕ) → IsProcess S p → Knows p (acts p) (w.process p).mind
    pub letters : (key : Key) (q : ℕ) (y : Payload) → Has w.pending key (input.Letter q y) → Sent S acts q y
    -- nobody else does anything
    pub nobody_else : (p : ℕ) → ¬ (IsProcess S p) → acts p ≡ []

  -- one step
  module _ (w : World Mind) (acts : ℕ → List Action) (k : Known w acts) (key : Key) (x : StepInput) (there : Has w.pending key x) where
    abbrev made_or : Bool → Made S
    made_or b = cond b (record { process = w.process key.receiver; entry = dead key; added = [] }) (made_by S (w.process key.receiver) key x (answer S w key x))

    abbrev next : ℕ → List Action
    next = acts_next S w acts key x

    is_process : IsProcess S key.receiver
    is_process = k.is_world.received key x there

    -- of the letters that come
    came : ((q : ℕ) (a : Action) → IsIn a (acts q) → IsIn a (whole q)) → CameFrom S.processes (Sent S whole) key.receiver (proposal key.receiver) x
    came within = go x there
      where
        go : (x : StepInput) → Has w.pending key x → CameFrom S.processes (Sent S whole) key.receiver (proposal key.receiver) x
        go (input.Letter q (payload.Decide r v)) h =
            let sent = k.letters key q (payload.Decide r v) h in
            let l = (k.each q sent.0).0 in
            each_of (IsFine S.processes (Sent S whole) q (proposal q) l.past.proposed l.past.acked _ _) (acts q) l.past.fine (action.Send sent.1 (payload.Decide r v)) sent.2
        go (input.Letter q y) h = let sent = k.letters key q y h in (sent.0, sent.1, within q _ sent.2)
        go x h = tt

    at_receiver : ((q : ℕ) (a : Action) → IsIn a (acts q) → IsIn a (whole q)) → Knows key.receiver (acts key.receiver ++ done S w key x) (made S w key x).process.mind
    at_receiver within =
        elim (crashed S key) as (λ b. Knows key.receiver (acts key.receiver ++ cond b [] (answer S w key x).actions) (made_or b).process.mind) [
          | true ↦ subst (λ z. Knows key.receiver z (w.process key.receiver).mind) (sym (append-nil (acts key.receiver))) old
          | false ↦
              let j = R.joins key.receiver (w.process key.receiver).mind key.tick x is_process (k.is_world.minds key.receiver is_process) old.1 in
              let low = lower_fits S.processes (Sent S whole) key.receiver (proposal key.receiver) (acts key.receiver) (R.part (w.process key.receiver).mind) old.0 j.lower j.of_lower in
              let new = step_fits S.processes (Sent S whole) key.receiver (proposal key.receiver) (acts key.receiver ++ j.lower) (R.part (w.process key.receiver).mind) low j.is_suspected j.not_itself x (came within) in
              let a = step_coordinator S.processes key.receiver j.is_suspected x (R.part (w.process key.receiver).mind) in
              let all = append_assoc (acts key.receiver) j.lower a.actions ∙ ap (λ z. acts key.receiver ++ z) (sym j.acts) in (
                subst (λ z. z) (λ i. Local S.processes (Sent S whole) key.receiver (proposal key.receiver) (all i) (sym j.state i)) new,
                R.keeps (w.process key.receiver).mind key.tick x old.1,
              )
        ]
      where
        old : Knows key.receiver (acts key.receiver) (w.process key.receiver).mind
        old = k.each key.receiver is_process

    letters_next : (l : Key) (q : ℕ) (y : Payload) → Has (taken S w key x).pending l (input.Letter q y) → Sent S next q y
    letters_next l q y h = elim (taken_cases S w key x l (input.Letter q y) h) [
      | inl i ↦
          let r = new (crashed S key) i in (
            subst (IsProcess S) (sym r.0) is_process,
            r.1,
            cond_both (q == key.receiver) (acts key.receiver ++ done S w key x) (acts q) (IsIn (action.Send r.1 y)) (λ _. in_right (action.Send r.1 y) (acts key.receiver) (done S w key x) r.2) (λ other. absurd (cc (other, eq-eqb q key.receiver r.0))),
          )
      | inr old ↦ let sent = k.letters l q y old.1 in (sent.0, sent.1, next_has S w acts key x q _ sent.2)
    ]
      where
        new : (b : Bool) → IsIn (l, input.Letter q y) (made_or b).added → (q ≡ key.receiver) × (to : ℕ) × IsIn (action.Send to y) (cond b [] (answer S w key x).actions)
        new true i = absurd i
        new false i = added_letter S key.receiver key.tick (w.process key.receiver).counts (answer S w key x).actions l q y i

    known_next : ((q : ℕ) (a : Action) → IsIn a (acts q) → IsIn a (whole q)) → Known (taken S w key x) next
    known_next within = record {
      is_world = taken_world S w key x sound k.is_world there;
      each = λ q is. elim (q == key.receiver) as (λ b. (q == key.receiver) ≡ b → Knows q (cond b (acts key.receiver ++ done S w key x) (acts q)) (cond b (made S w key x).process (w.process q)).mind) [
        | true ↦ λ e. subst (λ z. Knows z (acts key.receiver ++ done S w key x) (made S w key x).process.mind) (sym (eqb-true q key.receiver e)) (at_receiver within)
        | false ↦ λ _. k.each q is
      ] refl;
      letters = letters_next;
      nobody_else = λ q none. ap (λ b. cond b (acts key.receiver ++ done S w key x) (acts q)) (ne_eqb q key.receiver (λ e. none (subst (IsProcess S) (sym e) is_process))) ∙ k.nobody_else q none;
    }

    -- the answers of the entry are those of what was done
    next_verdicts : (q : ℕ) → verdicts (next q) ≡ verdicts (acts q) ++ cond (key.receiver == q) (answers_in (made S w key x).entry.notes) []
    next_verdicts q = elim (cases_eq q key.receiver) [
      | inl e ↦ subst (λ r. verdicts (next r) ≡ verdicts (acts r) ++ cond (key.receiver == r) (answers_in (made S w key x).entry.notes) []) (sym e)
          (ap verdicts (change_at acts key.receiver (acts key.receiver ++ done S w key x)) ∙ verdicts-append (acts key.receiver) (done S w key x)
          ∙ ap (λ z. verdicts (acts key.receiver) ++ z) (elim (crashed S key) as (λ b. verdicts (cond b [] (answer S w key x).actions) ≡ answers_in (made_or b).entry.notes) [ true ↦ refl | false ↦ refl ])
          ∙ ap (λ b. verdicts (acts key.receiver) ++ cond b (answers_in (made S w key x).entry.notes) []) (sym (eq-eqb key.receiver key.receiver refl)))
      | inr n ↦ ap verdicts (change_other acts key.receiver (acts key.receiver ++ done S w key x) q n) ∙ sym (append-nil (verdicts (acts q)))
          ∙ ap (λ b. verdicts (acts q) ++ cond b (answers_in (made S w key x).entry.notes) []) (sym (ne_eqb key.receiver q (λ e. n (sym e))))
    ]

  -- through a run
  run_known : (history : List Pair) (w last : World Mind) (acts : ℕ → List Action) → Known w acts → Run S S.horizon w history last → ((q : ℕ) (a : Action) → IsIn a (acts_after S history w acts q) → IsIn a (whole q))
      → Known last (acts_after S history w acts) × ((q : ℕ) → verdicts (acts_after S history w acts q) ≡ verdicts (acts q) ++ answers_by q (entries history))
  run_known [] w last acts k run within = (subst (λ z. Known z acts) (sym run.1) k, λ q. sym (append-nil (verdicts (acts q))))
  run_known (s ∷ rest) w last acts k run within =
      let known = known_next w acts k s.0.key s.1 run.0.there (λ q a i. within q a (after_has S (s ∷ rest) w acts q a i)) in
      let r = run_known rest (taken S w s.0.key s.1) last (acts_next S w acts s.0.key s.1) known run.3 within in (
        r.0,
        λ q. r.1 q ∙ ap (λ z. z ++ answers_by q (entries rest)) (next_verdicts w acts k s.0.key s.1 run.0.there q)
            ∙ append_assoc (verdicts (acts q)) (cond (s.0.key.receiver == q) (answers_in (made S w s.0.key s.1).entry.notes) []) (answers_by q (entries rest))
            ∙ ap (λ (z : EntryRecord). verdicts (acts q) ++ (cond (s.0.key.receiver == q) (answers_in z.notes) [] ++ answers_by q (entries rest))) (sym run.2),
      )

  opening_known : Known (opening S) (λ q. [])
  opening_known = record {
    is_world = opening_world S sound;
    each = λ p is. (subst (λ z. Local S.processes (Sent S whole) p (proposal p) [] z) (sym (R.opens p is)) (opening_fits S.processes (Sent S whole) p (proposal p)), R.opens_with p is);
    letters = λ key q y h. absurd (no_letter_first S.processes key q y h);
    nobody_else = λ p none. refl;
  }

-- at the end of the whole list
module _ {Mind : Type 0} (S : Setting Mind) (sound : IsSound S) (proposal : ℕ → ℕ) (R : RunsCoordinator S proposal) where
  pub trace_known : (trace : List EntryRecord) → IsTrace S trace → (last : World Mind) × (acts : ℕ → List Action) × Known S sound proposal R acts last acts × ((q : ℕ) → verdicts (acts q) ≡ answers_by q trace)
  trace_known trace (history, last, run, is) =
      let acts : ℕ → List Action = acts_after S history (opening S) (λ q. []) in
      let r = run_known S sound proposal R acts history (opening S) last (λ q. []) (opening_known S sound proposal R acts) run (λ q a i. i) in
      (last, acts, r.0, λ q. r.1 q ∙ ap (answers_by q) (sym is))

-- ---- all decisions of a trace have one value, some process's proposal, and each process decides at most once

-- a number is a process's or isn't
cases_process : {Mind : Type 0} (S : Setting Mind) (p : ℕ) → IsProcess S p ⊎ ¬ (IsProcess S p)
cases_process S p = elim (cases_lt 0 p) [
  | inl low ↦ elim (cases_lt S.processes p) [ inl high ↦ inr (λ own. omega (arith, own.1)) | inr high ↦ inl (omega arith, high) ]
  | inr low ↦ inr (λ own. omega (arith, own.0))
]

module _ {Mind : Type 0} (S : Setting Mind) (sound : IsSound S) (proposal : ℕ → ℕ) (R : RunsCoordinator S proposal) where
  abbrev IsValid : ℕ → Type 0
  IsValid v = (q : ℕ) × IsProcess S q × (v ≡ proposal q)

  module _ (last : World Mind) (acts : ℕ → List Action) (k : Known S sound proposal R acts last acts) where
    -- what was sent is fine
    fine : (q : ℕ) (is : IsProcess S q) (sent : (y : Payload) × (to : ℕ) × IsIn (action.Send to y) (acts q)) → IsFine S.processes (Sent S acts) q (proposal q) (k.each q is).0.past.proposed (k.each q is).0.past.acked
        (R.part (last.process q).mind).round (next_of S.processes (Sent S acts) q (proposal q) (R.part (last.process q).mind).phase (R.part (last.process q).mind).round) (action.Send sent.1 sent.0)
    fine q is sent = each_of (IsFine S.processes (Sent S acts) q (proposal q) (k.each q is).0.past.proposed (k.each q is).0.past.acked _ _) (acts q) (k.each q is).0.past.fine (action.Send sent.1 sent.0) sent.2

    facts : Facts S.processes (Sent S acts) IsValid
    facts = record {
      one_proposal = λ q r v w a b. (fine q a.0 (payload.Proposal r v, a.1, a.2)).2 ∙ sym (fine q a.0 (payload.Proposal r w, b.1, b.2)).2;
      chosen = λ q r v a. (fine q a.0 (payload.Proposal r v, a.1, a.2)).0;
      earlier = λ q r v t a. (fine q a.0 (payload.Estimate r v t, a.1, a.2)).1;
      origin = λ q r v t a. elim (fine q a.0 (payload.Estimate r v t, a.1, a.2)).0 [ inl h ↦ inl (h.0, (q, a.0, h.1)) | inr h ↦ inr h ];
      adopted = λ q l r v t a b h. (fine q a.0 (payload.Estimate r v t, b.1, b.2)).3 l (fine q a.0 (payload.Reply l true, a.1, a.2) refl) h;
    }

    -- what process p has decided
    decided : (p : ℕ) → IsProcess S p → (verdicts (acts p) ≡ []) ⊎ ((v : ℕ) × (verdicts (acts p) ≡ Some v ∷ []) × IsGood S.processes (Sent S acts) p (proposal p) v)
    decided p is = go (is_decided (R.part (last.process p).mind).phase) (k.each p is).0.past.once
      where
        go : (b : Bool) → Once (IsGood S.processes (Sent S acts) p (proposal p)) b (verdicts (acts p)) → (verdicts (acts p) ≡ []) ⊎ ((v : ℕ) × (verdicts (acts p) ≡ Some v ∷ []) × IsGood S.processes (Sent S acts) p (proposal p) v)
        go true o = inr o
        go false o = inl o

    good : (p v : ℕ) → IsProcess S p → IsIn (Some v) (verdicts (acts p)) → IsGood S.processes (Sent S acts) p (proposal p) v
    good p v is i = elim (decided p is) [
      | inl e ↦ absurd (subst (IsIn (Some v)) e i)
      | inr o ↦ elim (subst (IsIn (Some v)) o.1 i) [
        | inl e ↦ subst (IsGood S.processes (Sent S acts) p (proposal p)) (sym (same_Some v o.0 e)) o.2
        | inr none ↦ absurd none
      ]
    ]

  module _ (trace : List EntryRecord) (is_trace : IsTrace S trace) where
    known : (last : World Mind) × (acts : ℕ → List Action) × Known S sound proposal R acts last acts × ((q : ℕ) → verdicts (acts q) ≡ answers_by q trace)
    known = trace_known S sound proposal R trace is_trace

    locked : (p v : ℕ) → IsProcess S p → IsIn (Some v) (answers_by p trace) → IsGood S.processes (Sent S known.1) p (proposal p) v
    locked p v a i = good known.0 known.1 known.2 p v a (subst (IsIn (Some v)) (sym (known.3 p)) i)

    pub trace_one_value : (p q v w : ℕ) → IsProcess S p → IsProcess S q → IsIn (Some v) (answers_by p trace) → IsIn (Some w) (answers_by q trace) → v ≡ w
    trace_one_value p q v w a b i j =
        let g = locked p v a i in
        let h = locked q w b j in
        one_locked S.processes (Sent S known.1) IsValid (facts known.0 known.1 known.2) g.0 v h.0 w g.1 h.1

    pub trace_proposed : (p v : ℕ) → IsProcess S p → IsIn (Some v) (answers_by p trace) → (q : ℕ) × IsProcess S q × (v ≡ proposal q)
    trace_proposed p v a i = let g = locked p v a i in locked_valid S.processes (Sent S known.1) IsValid (facts known.0 known.1 known.2) g.0 v g.1

    pub trace_once : (p : ℕ) → (answers_by p trace ≡ []) ⊎ ((v : ℕ) × (answers_by p trace ≡ Some v ∷ []))
    trace_once p = elim (cases_process S p) [
      | inl is ↦ elim (decided known.0 known.1 known.2 p is) [ inl e ↦ inl (sym (known.3 p) ∙ e) | inr o ↦ inr (o.0, sym (known.3 p) ∙ o.1) ]
      | inr none ↦ inl (sym (known.3 p) ∙ ap verdicts (known.2.nobody_else p none))
    ]
