-- Events that join, or letters that are heard, one after another.
use Rattle.trace_laws.proofs.Words.{◌≡◌, ◌++◌, ◌∷◌, [], List, refl, sym, subst, ◌∙◌, append_assoc, append-nil, Event, Events, joined}
use Rattle.std.specs.FinMap as events
use Rattle.trace_laws.specs.Taken.{HaveJoined}

-- some of all have joined, and the rest is left
pub record Joined {J E : Type 0} (grown : J → List E → J → Type 0) (old now : J) (rest all : List E) : Type 0 where
  pub done : List E
  pub whole : done ++ rest ≡ all
  pub have : HaveJoined grown old now done

module _ {J E : Type 0} (grown : J → List E → J → Type 0) where
  pub none_joined : (old : J) → HaveJoined grown old old []
  none_joined old first before had = subst (λ es. grown first es old) (sym (append-nil before)) had

  pub joined_then : (old now new : J) (xs more : List E) → HaveJoined grown old now xs → HaveJoined grown now new more → HaveJoined grown old new (xs ++ more)
  joined_then old now new xs more was is first before had = subst (λ es. grown first es new) (append_assoc before xs more) (is first (before ++ xs) (was first before had))

  -- none yet
  pub joined_init : (old : J) (all : List E) → Joined grown old old all all
  joined_init old all = record { done = []; whole = refl; have = none_joined old }

  -- one step further
  pub joined_next : (old now new : J) (xs rest left all : List E) → HaveJoined grown now new xs → (is : Joined grown old now rest all) → (is.done ++ xs) ++ left ≡ all → Joined grown old new left all
  joined_next old now new xs rest left all more is whole = record {
    done = is.done ++ xs;
    whole = whole;
    have = joined_then old now new is.done xs is.have more;
  }

  -- all have joined
  pub all_joined : (old now : J) (rest all : List E) → rest ≡ [] → Joined grown old now rest all → HaveJoined grown old now all
  all_joined old now rest all none is = subst (HaveJoined grown old now) (sym (append-nil is.done) ∙ (λ i. is.done ++ sym none i) ∙ is.whole) is.have

-- a set that has grown by one event more
pub joined_one : (set : Events) (es : List Event) (e : Event) → joined set (es ++ e ∷ []) ≡ events.insert (joined set es) e.0 e.1
joined_one set [] e = refl
joined_one set (x ∷ es) e = joined_one (events.insert set x.0 x.1) es e
