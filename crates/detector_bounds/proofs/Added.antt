-- Which wakes and letters the actions of a step add, and when they come.
use Rattle.detector_bounds.proofs.Words.{◌≡◌, ◌≢◌, ◌⊎◌, ℕ, ◌+◌, ◌≤◌, inl, inr, refl, sym, ap, ◌∙◌, subst, Bool, true, false, cond, if◌then◌else◌, List, [], ◌∷◌, ◌++◌, arith, cond_both, cases_lt, Action, Key, Payload, Tag, Beat, Check, Share, IsIn, Setting, Event, counted, joining, added, in_append, in_left, in_time_is}
use Rattle.detector_bounds.proofs.Events.{IsOf, comes_of, wake_joins, letter_joins, own_joins}
use Rattle.process_api.specs.declared.action.Action.TheVariants as action
use Rattle.process_api.specs.declared.message.StepInput.TheVariants as input
use Rattle.streams.specs.declared.fate.Fate.TheVariants as fate

-- ---- the wakes among actions

abbrev pub same_tag : Tag → Tag → Bool
same_tag Beat Beat = true
same_tag Check Check = true
same_tag Share Share = true
same_tag a b = false

pub same_tag-true : (a b : Tag) → same_tag a b ≡ true → a ≡ b
same_tag-true Beat Beat e = refl
same_tag-true Beat Check e = absurd (cc)
same_tag-true Beat Share e = absurd (cc)
same_tag-true Check Beat e = absurd (cc)
same_tag-true Check Check e = refl
same_tag-true Check Share e = absurd (cc)
same_tag-true Share Beat e = absurd (cc)
same_tag-true Share Check e = absurd (cc)
same_tag-true Share Share e = refl

pub same_tag-itself : (a : Tag) → same_tag a a ≡ true
same_tag-itself Beat = refl
same_tag-itself Check = refl
same_tag-itself Share = refl

-- the pauses of the wakes with a tag, in order
abbrev pub wakes_of : Tag → List Action → List ℕ
wakes_of tag [] = []
wakes_of tag (action.Send to what ∷ later) = wakes_of tag later
wakes_of tag (action.Wake pause for ∷ later) = if same_tag for tag then pause ∷ wakes_of tag later else wakes_of tag later
wakes_of tag (action.Note noted ∷ later) = wakes_of tag later

pub wakes_of-append : (tag : Tag) (xs ys : List Action) → wakes_of tag (xs ++ ys) ≡ wakes_of tag xs ++ wakes_of tag ys
wakes_of-append tag [] ys = refl
wakes_of-append tag (action.Send to what ∷ xs) ys = wakes_of-append tag xs ys
wakes_of-append tag (action.Wake pause for ∷ xs) ys =
    elim (same_tag for tag) as (λ b. cond b (pause ∷ wakes_of tag (xs ++ ys)) (wakes_of tag (xs ++ ys)) ≡ cond b (pause ∷ wakes_of tag xs) (wakes_of tag xs) ++ wakes_of tag ys) [
      | true ↦ ap (λ z. pause ∷ z) (wakes_of-append tag xs ys)
      | false ↦ wakes_of-append tag xs ys
    ]
wakes_of-append tag (action.Note noted ∷ xs) ys = wakes_of-append tag xs ys

-- which are those of its actions that are such wakes
wake_counts : (tag : Tag) (actions : List Action) (pause : ℕ) → IsIn (action.Wake pause tag) actions → IsIn pause (wakes_of tag actions)
wake_counts tag [] pause none = absurd none
wake_counts tag (action.Send to what ∷ actions) pause (inl e) = absurd (cc e)
wake_counts tag (action.Send to what ∷ actions) pause (inr i) = wake_counts tag actions pause i
wake_counts tag (action.Note x ∷ actions) pause (inl e) = absurd (cc e)
wake_counts tag (action.Note x ∷ actions) pause (inr i) = wake_counts tag actions pause i
wake_counts tag (action.Wake its for ∷ actions) pause (inl e) =
    let same : for ≡ tag = cc e in
    subst (λ b. IsIn pause (cond b (its ∷ wakes_of tag actions) (wakes_of tag actions))) (sym (ap (λ t. same_tag t tag) same ∙ same_tag-itself tag)) (inl (cc e))
wake_counts tag (action.Wake its for ∷ actions) pause (inr i) =
    cond_both (same_tag for tag) (its ∷ wakes_of tag actions) (wakes_of tag actions) (IsIn pause) (λ _. inr (wake_counts tag actions pause i)) (λ _. wake_counts tag actions pause i)

wake_among : (tag : Tag) (actions : List Action) (pause : ℕ) → IsIn pause (wakes_of tag actions) → IsIn (action.Wake pause tag) actions
wake_among tag [] pause none = absurd none
wake_among tag (action.Send to what ∷ actions) pause i = inr (wake_among tag actions pause i)
wake_among tag (action.Note x ∷ actions) pause i = inr (wake_among tag actions pause i)
wake_among tag (action.Wake its for ∷ actions) pause i =
    cond_both (same_tag for tag) (its ∷ wakes_of tag actions) (wakes_of tag actions) (λ z. IsIn pause z → IsIn (action.Wake pause tag) (action.Wake its for ∷ actions))
    (λ same k. elim k [ inl e ↦ inl (λ j. action.Wake (e j) (sym (same_tag-true for tag same) j)) | inr later ↦ inr (wake_among tag actions pause later) ])
    (λ _ k. inr (wake_among tag actions pause k)) i

-- process p acts at tick now
module _ {Mind : Type 0} (S : Setting Mind) (p now : ℕ) where
  -- no step adds a start
  pub added_no_start : (counts : ℕ → ℕ) (actions : List Action) (key : Key) → ¬ (IsIn (key, input.Start) (added S p now counts actions))
  added_no_start counts actions key i = let r = comes_of S p now counts actions key input.Start i in go r.0 r.2
    where
      go : (a : Action) → ¬ (IsOf S p now a key input.Start)
      go (action.Send to what) of = cc of.0
      go (action.Wake pause tag) of = cc of.0
      go (action.Note x) none = none

  -- ---- wakes

  -- a wake that comes to p after one of these pauses
  abbrev pub WakesIn : List ℕ → Key → Type 0
  WakesIn pauses key = (key.receiver ≡ p) × ((pause : ℕ) × IsIn pause pauses × (key.tick ≡ now + pause))

  pub added_wake : (counts : ℕ → ℕ) (actions : List Action) (key : Key) (tag : Tag) → IsIn (key, input.Wake tag) (added S p now counts actions) → WakesIn (wakes_of tag actions) key
  added_wake counts actions key tag i = let r = comes_of S p now counts actions key (input.Wake tag) i in go r.0 r.1 r.2
    where
      go : (a : Action) → IsIn a actions → IsOf S p now a key (input.Wake tag) → WakesIn (wakes_of tag actions) key
      go (action.Send to what) there of = absurd (cc of.0)
      go (action.Wake pause for) there of = let same : for ≡ tag = cc of.0 in (of.1, (pause, wake_counts tag actions pause (subst (λ t. IsIn (action.Wake pause t) actions) same there), of.2))
      go (action.Note x) there none = absurd none

  -- and each that is asked for comes, unless that is too late
  abbrev pub WakeComes : List Event → Tag → ℕ → Type 0
  WakeComes events tag tick = (S.horizon ≤ tick) ⊎ ((key : Key) × IsIn (key, input.Wake tag) events × (key.receiver ≡ p) × (key.tick ≡ tick))

  pub wake_comes : (counts : ℕ → ℕ) (actions : List Action) (tag : Tag) (pause : ℕ) → IsIn pause (wakes_of tag actions) → WakeComes (added S p now counts actions) tag (now + pause)
  wake_comes counts actions tag pause i = elim (cases_lt (now + pause) S.horizon) [
    | inl below ↦ let r = wake_joins S p now counts actions pause tag (wake_among tag actions pause i) below in inr (r.0, r.3, r.1, r.2)
    | inr late ↦ inl late
  ]

  -- of one that is asked for alone there is one
  no_wake : (counts : ℕ → ℕ) (actions : List Action) (key : Key) (tag : Tag) → wakes_of tag actions ≡ [] → ¬ (IsIn (key, input.Wake tag) (added S p now counts actions))
  no_wake counts actions key tag none h = let r = added_wake counts actions key tag h in subst (IsIn r.1.0) none r.1.1

  module _ (counts : ℕ → ℕ) (actions : List Action) (tag : Tag) (pause : ℕ) (k l : Key) where
    abbrev IsAmong : Action → Key → Type 0
    IsAmong a key = IsIn (key, input.Wake tag) (added S p now counts (a ∷ actions))

    behind : (a : Action) → wakes_of tag (a ∷ []) ≡ [] → (key : Key) → IsAmong a key → IsIn (key, input.Wake tag) (added S p now (counted p counts a) actions)
    behind a none key h = elim (in_append _ (joining S p now counts a) (added S p now (counted p counts a) actions) h) [
      | inl i ↦ absurd (no_wake counts (a ∷ []) key tag none (in_left _ (joining S p now counts a) [] i))
      | inr i ↦ i
    ]

    in_front : (its : ℕ) (for : Tag) (key : Key) → IsAmong (action.Wake its for) key → wakes_of tag actions ≡ [] → key ≡ record { tick = now + its; receiver = p; sender = p; number = counts p + 1 }
    in_front its for key h none = elim (in_append _ (joining S p now counts (action.Wake its for)) (added S p now (counted p counts (action.Wake its for)) actions) h) [
      | inl i ↦ ap (λ (e : Event). e.0) (in_time_is S _ (input.Wake for) (key, input.Wake tag) i).0
      | inr i ↦ absurd (no_wake (counted p counts (action.Wake its for)) actions key tag none i)
    ]

    abbrev AreSame : (counts : ℕ → ℕ) → Type 0
    AreSame counts = wakes_of tag actions ≡ pause ∷ [] → IsIn (k, input.Wake tag) (added S p now counts actions) → IsIn (l, input.Wake tag) (added S p now counts actions) → k ≡ l

    one_of : (a : Action) → ((counts : ℕ → ℕ) → AreSame counts) → wakes_of tag (a ∷ actions) ≡ pause ∷ [] → IsAmong a k → IsAmong a l → k ≡ l
    one_of (action.Send to what) rest one h g = rest _ one (behind (action.Send to what) refl k h) (behind (action.Send to what) refl l g)
    one_of (action.Note x) rest one h g = rest _ one (behind (action.Note x) refl k h) (behind (action.Note x) refl l g)
    one_of (action.Wake its for) rest one h g = by (same_tag for tag) refl
      where
        by : (b : Bool) → same_tag for tag ≡ b → k ≡ l
        by false not_it =
            let none : wakes_of tag (action.Wake its for ∷ []) ≡ [] = ap (λ b. cond b (its ∷ []) []) not_it in
            rest _ (sym (ap (λ b. cond b (its ∷ wakes_of tag actions) (wakes_of tag actions)) not_it) ∙ one) (behind (action.Wake its for) none k h) (behind (action.Wake its for) none l g)
        by true it =
            let whole : its ∷ wakes_of tag actions ≡ pause ∷ [] = sym (ap (λ b. cond b (its ∷ wakes_of tag actions) (wakes_of tag actions)) it) ∙ one in
            let none : wakes_of tag actions ≡ [] = cc in
            in_front its for k h none ∙ sym (in_front its for l g none)

  pub one_wake : (counts : ℕ → ℕ) (actions : List Action) (tag : Tag) (pause : ℕ) → wakes_of tag actions ≡ pause ∷ [] → (k l : Key)
      → IsIn (k, input.Wake tag) (added S p now counts actions) → IsIn (l, input.Wake tag) (added S p now counts actions) → k ≡ l
  one_wake counts [] tag pause one k l h g = absurd h
  one_wake counts (a ∷ actions) tag pause one k l h g = one_of counts actions tag pause k l a (λ c only. one_wake c actions tag pause only k l) one h g

  -- ---- letters

  -- a letter to another process comes as its fate says
  abbrev pub LetterCame : Key → Type 0
  LetterCame key = (number d : ℕ) × (S.fate p key.receiver number now ≡ fate.Delay d) × (key.tick ≡ now + d)

  abbrev pub CameFrom : List Action → Key → (q : ℕ) → Payload → Type 0
  CameFrom actions key q y = (q ≡ p) × IsIn (action.Send key.receiver y) actions × (key.receiver ≢ p → LetterCame key)

  pub added_letter : (counts : ℕ → ℕ) (actions : List Action) (key : Key) (q : ℕ) (y : Payload) → IsIn (key, input.Letter q y) (added S p now counts actions) → CameFrom actions key q y
  added_letter counts actions key q y i = let r = comes_of S p now counts actions key (input.Letter q y) i in go r.0 r.1 r.2
    where
      go : (a : Action) → IsIn a actions → IsOf S p now a key (input.Letter q y) → CameFrom actions key q y
      go (action.Send to what) there of =
          let is : y ≡ what = cc of.0 in (
            cc of.0,
            subst (λ a. IsIn a actions) (λ j. action.Send (sym of.1 j) (sym is j)) there,
            λ other. let c = of.2.to_another (λ e. other (of.1 ∙ e)) in (c.0, c.1, ap (λ z. S.fate p z c.0 now) of.1 ∙ c.3, c.4),
          )
      go (action.Wake pause tag) there of = absurd (cc of.0)
      go (action.Note x) there none = absurd none

  -- where none to another is lost, and each takes so many ticks at most, each comes by then, unless that is too late
  abbrev pub Delivers : (to most : ℕ) → Type 0
  Delivers to most = (number : ℕ) → (d : ℕ) × (S.fate p to number now ≡ fate.Delay d) × (d ≤ most)

  abbrev pub LetterComes : List Event → (to most : ℕ) → Payload → Type 0
  LetterComes events to most y = (S.horizon ≤ now + most) ⊎ ((key : Key) × IsIn (key, input.Letter p y) events × (key.receiver ≡ to) × (key.tick ≤ now + most))

  pub letter_comes : (to most : ℕ) → to ≢ p → Delivers to most → (counts : ℕ → ℕ) (actions : List Action) (y : Payload) → IsIn (action.Send to y) actions → LetterComes (added S p now counts actions) to most y
  letter_comes to most other delivers counts actions y i =
      let r = letter_joins S p now counts actions to y other i in
      let d = delivers r.0 in
      elim (cases_lt (now + d.0) S.horizon) [
        | inl below ↦ let m = r.2 d.0 d.1 below in inr (m.0, m.3, m.1, omega (arith, m.2, d.2))
        | inr late ↦ inl (omega (arith, late, d.2))
      ]

  -- a letter to oneself comes at the next tick
  abbrev pub OwnComes : List Event → Payload → Type 0
  OwnComes events y = (S.horizon ≤ now + 1) ⊎ ((key : Key) × IsIn (key, input.Letter p y) events × (key.receiver ≡ p) × (key.tick ≡ now + 1))

  pub own_comes : (counts : ℕ → ℕ) (actions : List Action) (y : Payload) → IsIn (action.Send p y) actions → OwnComes (added S p now counts actions) y
  own_comes counts actions y i = elim (cases_lt (now + 1) S.horizon) [
    | inl below ↦ let r = own_joins S p now counts actions y i below in inr (r.0, r.3, r.1, r.2)
    | inr late ↦ inl late
  ]
