-- Events that a process causes in a window, as they are handed on.
use Rattle.windows.proofs.Words.{◌≡◌, ◌≢◌, ℕ, refl, ap, sym, ◌∙◌, cond, not, List, [], ◌∷◌, ◌++◌, length, eq-eqb, ne_eqb, filter-append, append-nil, Letter, Event, Events, joined, filed, all_filed, for_self, for_others, ◌+◌, ◌<◌, map, subst, length-append, arith, map-append, EntryRecord, Key, StepInput, Setting, Process, step, IsLeast, event_of, BerthStands, berth_next}
use Rattle.std.specs.FinMap as events
use Rattle.trace_laws.specs.Taken.{HaveJoined, Serves, StillServes}
use Rattle.windows.specs.{Inside.Outbox.{HandedOn, IsFor}, declared.outbox.Outbox.{Outbox}}

-- events after events
pub joined_both : (m : Events) (xs ys : List Event) → joined (joined m xs) ys ≡ joined m (xs ++ ys)
joined_both m [] ys = refl
joined_both m (x ∷ xs) ys = joined_both (events.insert m x.0 x.1) xs ys

-- what was handed on with one event more, of the process itself or of another
module _ (p : ℕ) (es : List Event) (x : Event) where
  pub own_more : x.0.receiver ≡ p → (for_self p (es ++ x ∷ []) ≡ for_self p es ++ x ∷ []) × (for_others p (es ++ x ∷ []) ≡ for_others p es)
  own_more is = let same = eq-eqb x.0.receiver p is in (
    filter-append _ es (x ∷ []) ∙ ap (λ b. for_self p es ++ cond b (x ∷ []) []) same,
    filter-append _ es (x ∷ []) ∙ (ap (λ b. for_others p es ++ cond (not b) (x ∷ []) []) same ∙ append-nil (for_others p es)),
  )

  pub other_more : x.0.receiver ≢ p → (for_self p (es ++ x ∷ []) ≡ for_self p es) × (for_others p (es ++ x ∷ []) ≡ for_others p es ++ x ∷ [])
  other_more apart = let other = ne_eqb x.0.receiver p apart in (
    filter-append _ es (x ∷ []) ∙ (ap (λ b. for_self p es ++ cond b (x ∷ []) []) other ∙ append-nil (for_self p es)),
    filter-append _ es (x ∷ []) ∙ ap (λ b. for_others p es ++ cond (not b) (x ∷ []) []) other,
  )

-- letters filed after others
pub filed_more : (lists : List (List Letter)) (xs ys : List Letter) → all_filed (all_filed lists xs) ys ≡ all_filed lists (xs ++ ys)
filed_more lists [] ys = refl
filed_more lists (x ∷ xs) ys = filed_more (filed lists x) xs ys

-- an outbox, before events were handed to it and after
module _ {R : Type 0} (old : Outbox R) where
  pub is_for : (own n : ℕ) → old.own ≡ own → length old.tray.now ≡ n → Serves IsFor old own n
  is_for own n is count = (old, record { pending = refl; tray = refl; own_is = is; count = count })

  module _ (new : Outbox R) where
    pub still_for : StillServes IsFor old new → (own n : ℕ) → old.own ≡ own → length old.tray.now ≡ n → IsFor old new own n
    unfolding is_for
    still_for still own n is count = still old own n (is_for own n is count).1

    pub all_handed : (es : List Event) → HaveJoined HandedOn old new es → HandedOn old es new
    all_handed es is = is old [] (record { own = refl; pending = refl; letters = ([], refl, refl) })

-- ---- a berth after one more step

pub one_longer : (old new : List EntryRecord) (e : EntryRecord) → new ≡ old ++ e ∷ [] → length new ≡ length old + 1
one_longer old new e more = omega (arith, ap length more, length-append old (e ∷ []))

sent_after : (q p : ℕ) (sent more : List Letter) (added : List Event) → map event_of more ≡ for_others q added → q ≡ p → map event_of (sent ++ more) ≡ map event_of sent ++ for_others p added
sent_after q p sent more added posts to_p = map-append event_of sent more ∙ (λ i. map event_of sent ++ (posts ∙ ap (λ r. for_others r added) to_p) i)

module _ {Mind : Type 0} (S : Setting Mind) (p end : ℕ) (start : Process Mind) (opened : Events) (now : Process Mind) (pending : Events) (part : List EntryRecord) (sent : List Letter)
    (was : BerthStands S p end start opened now pending part (map event_of sent)) (key : Key) (input : StepInput) (least : IsLeast pending key input) (due : key.tick < end) where
  -- it took an event, joined its own of what the step caused, and posted the letters
  pub stands_next : (next : Process Mind) (rest left : Events) (longer : List EntryRecord) (more : List Letter) → next ≡ (step S now key input).process
      → rest ≡ events.remove pending key → left ≡ joined rest (for_self key.receiver (step S now key input).added) → longer ≡ part ++ (step S now key input).entry ∷ []
      → map event_of more ≡ for_others key.receiver (step S now key input).added → BerthStands S p end start opened next left longer (map event_of (sent ++ more))
  stands_next next rest left longer more next_is rest_is left_is longer_is posts =
      let to_p : key.receiver ≡ p = was.own key input least.there in
      subst (λ ls. BerthStands S p end start opened next left longer ls) (sym (sent_after key.receiver p sent more (step S now key input).added posts to_p))
      (subst (λ es. BerthStands S p end start opened next left es (map event_of sent ++ for_others p (step S now key input).added)) (sym longer_is)
      (berth_next S p end start opened now pending part (map event_of sent) was key input least due next left (step S now key input).entry next_is
      (left_is ∙ (λ i. joined (rest_is i) (for_self (to_p i) (step S now key input).added))) refl))
