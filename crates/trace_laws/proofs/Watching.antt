-- A process that runs the time-out detector alone, with its suspects as a test, which computes: it acts as its mind does.
use Rattle.trace_laws.proofs.Words.{◌≡◌, ℕ, ◌+◌, ◌-◌, refl, sym, ap, ◌∙◌, subst, Bool, true, false, cond, not, ◌&&◌, ◌||◌, if◌then◌else◌, min, max, nat_le, nat_cmp, List, [], ◌∷◌, ◌++◌, map, filter, None, eq_by_cmp, Answer, Idle, Mind, numbers_to, change, Place, StepInput, TimeoutNumbers}
use Rattle.trace_laws.proofs.Alike.{ActAlike}
use Rattle.std.specs.FinSet as set
use Rattle.std.specs.Cmp.{nat_cmp_total}
use Rattle.process_api.specs.{React.{react, react_lower, react_algorithm}, Sets.{Processes, insert_all}, Detector.{ByTimeout, step_detector}, Timeout.{TimeoutState, watches, alive_to_others, next_beat, next_check, overdue, step_timeout}}
use Rattle.process_api.specs.declared.action.Action.TheVariants as action
use Rattle.process_api.specs.declared.action.Note.TheVariants as note
use Rattle.process_api.specs.declared.message.Payload.TheVariants as payload
use Rattle.process_api.specs.declared.message.StepInput.TheVariants as input
use Rattle.process_api.specs.declared.message.Tag.TheVariants as tag

pub record Watcher : Type 0 where
  pub place : Place
  pub numbers : TimeoutNumbers
  pub last_heard : ℕ → ℕ
  pub bound : ℕ → ℕ
  pub suspects : ℕ → Bool

abbrev with_all : (ℕ → Bool) → List ℕ → ℕ → Bool
with_all f [] = f
with_all f (q ∷ qs) = with_all (λ p. eq_by_cmp nat_cmp p q || f p) qs

module _ (w : Watcher) (now : ℕ) where
  abbrev overdue_ones : List ℕ
  overdue_ones = filter (λ q. watches w.place w.numbers q && (not (w.suspects q) && nat_le (w.bound q) (now - w.last_heard q))) (numbers_to w.place.processes)

  abbrev hear : ℕ → Answer Watcher
  hear q =
      if w.suspects q
      then record {
        state = record w {
          last_heard = change w.last_heard q now;
          bound = change w.bound q (max (w.bound q) (min (w.bound q + w.numbers.grow) w.place.horizon));
          suspects = λ p. not (eq_by_cmp nat_cmp p q) && w.suspects p;
        };
        actions = action.Note (note.Trust 1 q) ∷ [];
      }
      else record { state = record w { last_heard = change w.last_heard q now }; actions = [] }

  abbrev watch_once : StepInput → Answer Watcher
  watch_once input.Start = record { state = w; actions = alive_to_others w.place w.numbers ++ (next_beat w.place w.numbers ++ next_check w.place w.numbers) }
  watch_once (input.Wake tag.Beat) = record { state = w; actions = alive_to_others w.place w.numbers ++ next_beat w.place w.numbers }
  watch_once (input.Wake tag.Check) = record { state = record w { suspects = with_all w.suspects overdue_ones }; actions = map (λ q. action.Note (note.Suspect 1 q)) overdue_ones ++ next_check w.place w.numbers }
  watch_once (input.Letter sender payload.Alive) = if watches w.place w.numbers sender then hear sender else record { state = w; actions = [] }
  watch_once x = record { state = w; actions = [] }

abbrev pub watch : Watcher → ℕ → StepInput → Answer Watcher
watch w now x = record { state = (watch_once w now x).state; actions = (watch_once w now x).actions ++ [] }

-- the mind of a watcher, with a set of its suspects
abbrev mind_with : Watcher → Processes → Mind
mind_with w s = record {
  lower = record {
    place = w.place;
    detector = ByTimeout w.numbers (record { last_heard = w.last_heard; bound = w.bound; suspects = s });
    reduction = None;
  };
  algorithm = Idle;
}

abbrev Holds : Processes → (ℕ → Bool) → Type 0
Holds s f = (q : ℕ) → set.contains s q ≡ f q

abbrev pub IsMindOf : Mind → Watcher → Type 0
IsMindOf m w = (s : Processes) × (m ≡ mind_with w s) × Holds s w.suspects

holds_all : (qs : List ℕ) (s : Processes) (f : ℕ → Bool) → Holds s f → Holds (insert_all s qs) (with_all f qs)
holds_all [] s f h = h
holds_all (q ∷ qs) s f h = holds_all qs (set.insert s q) (λ p. eq_by_cmp nat_cmp p q || f p) (λ p. set.contains-insert nat_cmp_total s q p ∙ ap (λ b. eq_by_cmp nat_cmp p q || b) (h p))

module _ (w : Watcher) (s : Processes) (h : Holds s w.suspects) (now : ℕ) where
  abbrev before : TimeoutState
  before = record { last_heard = w.last_heard; bound = w.bound; suspects = s }

  -- what a detector's step and a watcher's have in common
  record SameStep (a : Answer TimeoutState) (b : Answer Watcher) : Type 0 where
    suspects : Processes
    state : a.state ≡ record { last_heard = b.state.last_heard; bound = b.state.bound; suspects = suspects }
    place : b.state.place ≡ w.place
    numbers : b.state.numbers ≡ w.numbers
    holds : Holds suspects b.state.suspects
    actions : a.actions ≡ b.actions

  same_overdue : overdue w.place w.numbers before now ≡ overdue_ones w now
  same_overdue = λ i. filter (λ q. watches w.place w.numbers q && (not (h q i) && nat_le (w.bound q) (now - w.last_heard q))) (numbers_to w.place.processes)

  nothing : SameStep (record { state = before; actions = [] }) (record { state = w; actions = [] })
  nothing = record { suspects = s; state = refl; place = refl; numbers = refl; holds = h; actions = refl }

  -- two steps by the same test
  same_cond : {a c : Answer TimeoutState} {b d : Answer Watcher} (test its : Bool) → test ≡ its → SameStep a b → SameStep c d → SameStep (cond test a c) (cond its b d)
  same_cond {a = a} {b = b} {d = d} true its is f g = subst (λ t. SameStep a (cond t b d)) is f
  same_cond {c = c} {b = b} {d = d} false its is f g = subst (λ t. SameStep c (cond t b d)) is g

  same_once : (x : StepInput) → SameStep (step_timeout w.place w.numbers before now x) (watch_once w now x)
  same_once input.Start = record { suspects = s; state = refl; place = refl; numbers = refl; holds = h; actions = refl }
  same_once (input.Wake tag.Beat) = record { suspects = s; state = refl; place = refl; numbers = refl; holds = h; actions = refl }
  same_once (input.Wake tag.Check) = record {
    suspects = insert_all s (overdue w.place w.numbers before now);
    state = refl;
    place = refl;
    numbers = refl;
    holds = λ q. holds_all (overdue w.place w.numbers before now) s w.suspects h q ∙ ap (λ qs. with_all w.suspects qs q) same_overdue;
    actions = ap (λ qs. map (λ q. action.Note (note.Suspect 1 q)) qs ++ next_check w.place w.numbers) same_overdue;
  }
  same_once (input.Letter sender payload.Alive) =
      same_cond (watches w.place w.numbers sender) _ refl
      (same_cond (set.contains s sender) _ (h sender)
      (record {
        suspects = set.remove s sender;
        state = refl;
        place = refl;
        numbers = refl;
        holds = λ q. set.contains-remove nat_cmp_total s sender q ∙ ap (λ b. not (eq_by_cmp nat_cmp q sender) && b) (h q);
        actions = refl;
      })
      (record { suspects = s; state = refl; place = refl; numbers = refl; holds = h; actions = refl })) nothing
  same_once x = nothing

  same_actions : (x : StepInput) → (react (mind_with w s) now x).actions ≡ (watch w now x).actions
  unfolding react react_lower react_algorithm step_detector
  same_actions x = ap (λ xs. xs ++ []) (same_once x).actions

  same_state : (x : StepInput) → IsMindOf (react (mind_with w s) now x).state (watch w now x).state
  unfolding react react_lower react_algorithm step_detector
  same_state x =
      let same = same_once x in (
        same.suspects,
        (λ i. record { lower = record { place = sym same.place i; detector = ByTimeout (sym same.numbers i) (same.state i); reduction = None }; algorithm = Idle }),
        same.holds,
      )

pub watchers_alike : ActAlike react watch IsMindOf
watchers_alike = record {
  same = λ m w now x is. subst (λ a. (react a now x).actions ≡ (watch w now x).actions) (sym is.1) (same_actions w is.0 is.2 now x);
  stay = λ m w now x is. subst (λ a. IsMindOf (react a now x).state (watch w now x).state) (sym is.1) (same_state w is.0 is.2 now x);
}
