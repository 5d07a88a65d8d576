-- A run of the list, step by step.
use Rattle.event_list.proofs.Words.{◌≡◌, ◌≢◌, ℕ, zero, suc, ◌-◌, ◌<◌, refl, sym, ap, ◌∙◌, subst, List, [], ◌∷◌, ◌++◌, append_assoc, append-nil, length, Some, arith, slice_get, slice_set, get_or, map, option_map, get_or-map, get_or-set_same, length-map, length-set, get_or_from_slice_get, slice_get-get_or, slice_get-map, slice_get_read, slice_get_within, EntryRecord, Mind, Record, place_in, setting_of, Setting, IsSound, IsProcess, HasPosted, Stands, IsStepped, Posted, posted_in, posted_along, ArePosted, Events, Process, step, World, Has, IsLeast, NoneBelow, opening, made, taken, joined, IsTrace, reached_next, reached_end, reached_longer, by_receiver, taken_world}
use Rattle.std.specs.FinMap as events
use Rattle.process_api.specs.declared.{key.Key.{Key}, message.StepInput.{StepInput}}
use Rattle.{process_api.proofs.Minds.{mind_place, same_own}, pending_events.specs.Pending.{IsEmpty}}
use Rattle.{trace_laws.specs.World.{IsReached}, trace_laws.proofs.{Runs.{again}, Steps.{step_key}, Sets.{same_Some}}}

-- ---- the letters of a run, step by step

module _ {Mind : Type 0} (S : Setting Mind) where
  -- none yet
  pub opening_posted : HasPosted S (opening S) []
  opening_posted rest last r = (rest, r, refl)

  -- one step further
  pub posted_next : (w : World Mind) (letters : List Posted) (key : Key) (input : StepInput) → IsLeast w.pending key input → key.tick < S.horizon → HasPosted S w letters → HasPosted S (taken S w key input) (letters ++ posted_in S (w.process key.receiver) key input)
  posted_next w letters key input least due was rest last r =
      let before = was (((made S w key input).entry, input) ∷ rest) last (again S S.horizon w key input least due rest last r) in
      let step = posted_in S (w.process key.receiver) key input in (
        before.0,
        before.1,
        before.2
            ∙ (ap (λ k. letters ++ (posted_in S (w.process k.receiver) k input ++ posted_along S (taken S w k input) rest)) (step_key S (w.process key.receiver) key input)
            ∙ sym (append_assoc letters step (posted_along S (taken S w key input) rest))),
      )

  -- where no event is left, these are all
  pub posted_end : (w : World Mind) (letters : List Posted) → HasPosted S w letters → NoneBelow S.horizon w.pending → ArePosted S letters
  posted_end w letters was none =
      let whole = was [] w (none, refl) in
      (whole.0, w, whole.1, sym (whole.2 ∙ append-nil letters))

-- ---- the processes and the events

-- what stands at a place where a list was changed, and at another one
set_same : {X : Type 0} (xs : List X) (i : ℕ) (v : X) → i < length xs → slice_get (slice_set xs i v) i ≡ Some v
set_same xs i v inside = slice_get-get_or (slice_set xs i v) i v (omega (arith, inside, length-set xs i v)) ∙ ap Some (get_or-set_same xs i v v inside)

set_other : {X : Type 0} (xs : List X) (i j : ℕ) (v : X) → i ≢ j → slice_get (slice_set xs i v) j ≡ slice_get xs j
set_other [] i j v apart = refl
set_other (x ∷ xs) zero zero v apart = absurd (apart refl)
set_other (x ∷ xs) zero (suc j) v apart = refl
set_other (x ∷ xs) (suc i) zero v apart = refl
set_other (x ∷ xs) (suc i) (suc j) v apart = set_other xs i j v (λ e. apart (ap suc e))

module _ (S : Setting Mind) (processes : List (Process Mind)) (before : Events) (trace : List EntryRecord) (letters : List Posted) (is : Stands S processes before trace letters) (key : Key) (input : StepInput) (first : IsLeast before key input) where
  world_least : IsLeast is.world.pending key input
  world_least = subst (λ m. IsLeast m key input) (sym is.events) first

  pub first_receiver : IsProcess S key.receiver
  first_receiver = is.is_world.received key input world_least.there

  due : key.tick < S.horizon
  due = is.is_world.below key input world_least.there

  pub first_process : slice_get processes (key.receiver - 1) ≡ Some (is.world.process key.receiver)
  first_process = is.process key.receiver first_receiver

  -- every trace is longer
  pub first_longer : (whole : List EntryRecord) → IsTrace S whole → length trace < length whole
  first_longer = reached_longer S is.world trace key input is.reached world_least due

  -- after its step
  module _ (sound : IsSound S) (long : length processes ≡ S.processes) (after : Events) (removed : after ≡ events.remove before key) (later : List (Process Mind)) (joins : Events) (entry : EntryRecord)
      (made : IsStepped {S = S} processes later after joins key entry (step S (is.world.process key.receiver) key input)) where
    next_process : (p : ℕ) → IsProcess S p → slice_get later (p - 1) ≡ Some ((taken S is.world key input).process p)
    next_process =
        by_receiver S is.world key input (λ p process. IsProcess S p → slice_get later (p - 1) ≡ Some process)
        (λ own. ap (λ ps. slice_get ps (key.receiver - 1)) made.processes ∙ set_same processes (key.receiver - 1) _ (omega (arith, long, own.0, own.1)))
        (λ p apart own.
        let other : key.receiver - 1 ≢ p - 1 = λ e. apart (omega (arith, e, own.0, first_receiver.0)) in
        ap (λ ps. slice_get ps (p - 1)) made.processes ∙ (set_other processes (key.receiver - 1) (p - 1) _ other ∙ is.process p own))

    pub stands_next : Stands S later joins (trace ++ entry ∷ []) (letters ++ posted_in S (is.world.process key.receiver) key input)
    stands_next = record {
      world = taken S is.world key input;
      is_world = taken_world S is.world key input sound is.is_world world_least.there;
      reached = subst (λ e. IsReached S (taken S is.world key input) (trace ++ e ∷ [])) (sym made.entry_is) (reached_next S is.world trace key input world_least due is.reached);
      posted = posted_next S is.world letters key input world_least due is.posted;
      process = next_process;
      events = sym (made.pending ∙ ap (λ m. joined m (step S (is.world.process key.receiver) key input).added) (removed ∙ ap (λ m. events.remove m key) (sym is.events)));
    }

-- the receiver's mind knows its number
pub first_own : (s : Record) (processes : List (Process Mind)) (before : Events) (trace : List EntryRecord) (letters : List Posted) (is : Stands (setting_of s) processes before trace letters) (key : Key) (input : StepInput) → IsLeast before key input
    → (p : Process Mind) → slice_get processes (key.receiver - 1) ≡ Some p → p.mind.lower.place.own ≡ key.receiver
first_own s processes before trace letters is key input first p there =
    let S = setting_of s in
    let own : IsProcess S key.receiver = first_receiver S processes before trace letters is key input first in
    let same : is.world.process key.receiver ≡ p = same_Some _ _ (sym (first_process S processes before trace letters is key input first) ∙ there) in
    let mind = (is.world.process key.receiver).mind in
    ap (λ (q : Process Mind). q.mind.lower.place.own) (sym same) ∙ same_own mind.lower.place (place_in s key.receiver) (mind_place (place_in s key.receiver) mind (is.is_world.minds key.receiver own))

-- where nothing is pending, the trace is whole, and so are the letters
pub stands_end : (S : Setting Mind) (processes : List (Process Mind)) (pending : Events) (trace : List EntryRecord) (letters : List Posted) → Stands S processes pending trace letters → IsEmpty pending → IsTrace S trace × ArePosted S letters
stands_end S processes pending trace letters is none = (reached_end S is.world trace is.reached no_event, posted_end S is.world letters is.posted no_event)
  where
    no_event : NoneBelow S.horizon is.world.pending
    no_event q x h = absurd (none q x (subst (λ m. Has m q x) is.events h))

-- what a list's images have at a place
pub place_is : {X Y : Type 0} (f : X → Y) (xs : List X) (i : ℕ) (d : X) (b : Y) → slice_get (map f xs) i ≡ Some b → f (get_or xs i d) ≡ b
place_is f xs i d b e =
    let inside : i < length xs = omega (arith, slice_get_within (map f xs) i b e, length-map xs f) in
    sym (get_or-map f xs i d b inside) ∙ get_or_from_slice_get (map f xs) i b b e

pub image_at : {X Y : Type 0} (f : X → Y) (xs : List X) (i : ℕ) (x : X) → i < length xs → x ≡ get_or xs i x → slice_get (map f xs) i ≡ Some (f x)
image_at f xs i x inside is = slice_get-map f xs i ∙ ap (option_map f) (slice_get_read xs (length xs) i x refl inside is)
