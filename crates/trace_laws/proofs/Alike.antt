-- Minds of two kinds that act alike make the same plain program.
use Rattle.trace_laws.proofs.Words.{◌≡◌, ℕ, zero, suc, ◌+◌, ◌++◌, refl, ap, ◌∙◌, Bool, true, false, cond, List, [], ◌∷◌, nat_eq, Answer, change, Action, Key, StepInput, Setting, has_crashed, Event, Process, Made, dead, kind_of, counted, counts_after, sent, noted, lost_by, lost, joining, added, made_by, step, puts, plain_steps, plain_left}
use Rattle.{process_api.specs.declared.action.Action.TheVariants.{Send, Wake, Note}, trace_laws.specs.World.{Pair}}

-- the same setting with minds of another kind
abbrev pub with_minds : {A B : Type 0} → Setting A → (ℕ → B) → (B → ℕ → StepInput → Answer B) → Setting B
with_minds S opening react = record {
  processes = S.processes;
  horizon = S.horizon;
  lookahead = S.lookahead;
  crash = S.crash;
  fate = S.fate;
  opening = opening;
  react = react;
  is_mind = λ p mind. true;
}

-- whatever the kinds, minds that are alike do the same, and stay alike
pub record ActAlike {A B : Type 0} (react : A → ℕ → StepInput → Answer A) (its : B → ℕ → StepInput → Answer B) (Alike : A → B → Type 0) : Type 0 where
  pub same : (a : A) (b : B) (now : ℕ) (x : StepInput) → Alike a b → (react a now x).actions ≡ (its b now x).actions
  pub stay : (a : A) (b : B) (now : ℕ) (x : StepInput) → Alike a b → Alike (react a now x).state (its b now x).state

module _ {A B : Type 0} (S : Setting A) (opening : ℕ → B) (its : B → ℕ → StepInput → Answer B) (Alike : A → B → Type 0) (alike : ActAlike S.react its Alike) where
  -- one action, and all of a step
  same_one : (p now : ℕ) (counts : ℕ → ℕ) (a : Action) → (lost_by S p now counts a ≡ lost_by (with_minds S opening its) p now counts a) × (joining S p now counts a ≡ joining (with_minds S opening its) p now counts a)
  same_one p now counts (Send to what) = (refl, refl)
  same_one p now counts (Wake pause for) = (refl, refl)
  same_one p now counts (Note note) = (refl, refl)

  same_all : (p now : ℕ) (counts : ℕ → ℕ) (actions : List Action) → (lost S p now counts actions ≡ lost (with_minds S opening its) p now counts actions) × (added S p now counts actions ≡ added (with_minds S opening its) p now counts actions)
  same_all p now counts [] = (refl, refl)
  same_all p now counts (a ∷ actions) =
      let one = same_one p now counts a in
      let rest = same_all p now (counted p counts a) actions in
      ((λ i. one.0 i + rest.0 i), (λ i. one.1 i ++ rest.1 i))

  abbrev pub AreAlike : Process A → Process B → Type 0
  AreAlike a b = Alike a.mind b.mind × (a.counts ≡ b.counts)

  -- steps of processes that are alike
  record SameMade (m : Made S) (n : Made (with_minds S opening its)) : Type 0 where
    process : AreAlike m.process n.process
    entry : m.entry ≡ n.entry
    added : m.added ≡ n.added

  same_step : (a : Process A) (b : Process B) → AreAlike a b → (key : Key) (x : StepInput) → SameMade (step S a key x) (step (with_minds S opening its) b key x)
  same_step a b same key x =
      let acts : (S.react a.mind key.tick x).actions ≡ (its b.mind key.tick x).actions = alike.same a.mind b.mind key.tick x same.0 in
      let all = same_all key.receiver key.tick b.counts (its b.mind key.tick x).actions in
      let lost_is = (λ i. lost S key.receiver key.tick (same.1 i) (acts i)) ∙ all.0 in
      elim (has_crashed (S.crash key.receiver) key.tick) as (λ down. SameMade (cond down (record { process = a; entry = dead key; added = [] }) (made_by S a key x (S.react a.mind key.tick x)))
      (cond down (record { process = b; entry = dead key; added = [] }) (made_by (with_minds S opening its) b key x (its b.mind key.tick x)))) [
        | true ↦ record { process = same; entry = refl; added = refl }
        | false ↦ record {
          process = (alike.stay a.mind b.mind key.tick x same.0, λ i. counts_after key.receiver (same.1 i) (acts i));
          entry = λ i. record { key = key; kind = kind_of x; sent = sent (acts i); lost = lost_is i; notes = noted (acts i) };
          added = (λ i. added S key.receiver key.tick (same.1 i) (acts i)) ∙ all.1;
        }
      ]

  -- the plain program of both
  pub same_plain : (n : ℕ) (processes : ℕ → Process A) (others : ℕ → Process B) → ((p : ℕ) → AreAlike (processes p) (others p)) → (es : List Event)
      → (plain_steps S n processes es ≡ plain_steps (with_minds S opening its) n others es) × (plain_left S n processes es ≡ plain_left (with_minds S opening its) n others es)
  same_plain zero processes others same es = (refl, refl)
  same_plain (suc n) processes others same [] = (refl, refl)
  same_plain (suc n) processes others same (e ∷ es) =
      let r = e.0.receiver in
      let here = same_step (processes r) (others r) (same r) e.0 e.1 in
      let later = same_plain n (change processes r (step S (processes r) e.0 e.1).process) (change others r (step (with_minds S opening its) (others r) e.0 e.1).process)
      (λ p. both (nat_eq p r) (processes p) (others p) (same p) _ _ here.process) (puts es (step S (processes r) e.0 e.1).added) in
      let rest : List Event → List Pair = plain_steps (with_minds S opening its) n (change others r (step (with_minds S opening its) (others r) e.0 e.1).process) in
      let left : List Event → List Event = plain_left (with_minds S opening its) n (change others r (step (with_minds S opening its) (others r) e.0 e.1).process) in (
        (λ i. (here.entry i, e.1) ∷ (later.0 ∙ ap (λ es2. rest (puts es es2)) here.added) i),
        later.1 ∙ ap (λ es2. left (puts es es2)) here.added,
      )
    where
      both : (b : Bool) (a : Process A) (o : Process B) → AreAlike a o → (new : Process A) (other : Process B) → AreAlike new other → AreAlike (cond b new a) (cond b other o)
      both true a o old new other is = is
      both false a o old new other is = old
