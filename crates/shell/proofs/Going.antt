-- What went out is what was wanted, by another name.
use Rattle.shell.proofs.Basics.{◌≡◌, sym, subst, inl, inr, ℕ, List, Option, Result, Ok, Err, IfErr, OnOk, Wrote, WrotePart, End, Goes, LeftAt, MayHaveGone, Puts, Tells, Went, WentPart, begun, cut, untouched, GoesForWords}

module _ {O : Type 0} (told : O → Option (List ℕ)) (failed : O → ℕ) (old new : O) where
  module _ (P Q : List ℕ → Type 0) (f : (piece : List ℕ) → P piece → Q piece) where
    pub went_as : Went told failed old new P → Went told failed old new Q
    went_as went = record { piece = went.piece; is_wanted = f went.piece went.is_wanted; written = went.written }

    pub part_as : WentPart told failed old new P → WentPart told failed old new Q
    part_as part = record { piece = part.piece; is_wanted = f part.piece part.is_wanted; written = part.written }

    pub tells_as : Tells told failed old new P → Tells told failed old new Q
    tells_as (inl went) = inl (went_as went)
    tells_as (inr part) = inr (part_as part)

    pub left_as : MayHaveGone told failed old new P → MayHaveGone told failed old new Q
    left_as (inl nothing) = inl nothing
    left_as (inr went) = inr (went_as went)

  module _ (P Q L M : List ℕ → Type 0) (f : (piece : List ℕ) → P piece → Q piece) (g : (piece : List ℕ) → L piece → M piece) where
    at_end_as : (end : End) → LeftAt told failed old new P L end → LeftAt told failed old new Q M end
    at_end_as untouched left = left
    at_end_as begun left = left_as L M g left
    at_end_as cut left = part_as P Q f left

  pub goes_as : (W X P Q L M : List ℕ → Type 0) → ((piece : List ℕ) → W piece → X piece) → ((piece : List ℕ) → P piece → Q piece)
      → ((piece : List ℕ) → L piece → M piece) → {A F : Type 0} (end_of : F → End) (r : Result A F)
      → Goes end_of told failed old new W P L r → Goes end_of told failed old new X Q M r
  goes_as W X P Q L M e f g end_of (Ok a) goes = went_as W X e goes
  goes_as W X P Q L M e f g end_of (Err failure) goes = at_end_as P Q L M f g (end_of failure) goes

  -- words that state an order go as it does, and words that ask for help as that does
  module _ {A F Order : Type 0} (end_of : F → End) (r : Result A F) (States : Order → Type 0) (IsHelp : List ℕ → Type 0)
      (Answers Writes Leaves : Order → List ℕ → Type 0) where
    abbrev Whole : Type 0
    Whole = GoesForWords States IsHelp Answers Writes Leaves told failed old new end_of r

    pub for_order : (asked : Order) → States asked
        → Goes end_of told failed old new (Answers asked) (Writes asked) (Leaves asked) r → Whole
    for_order asked stated =
        goes_as _ _ _ _ _ _ (λ piece is. inl (asked, stated, is)) (λ piece is. inl (asked, stated, is))
        (λ piece is. (asked, stated, is)) end_of r

    pub for_help : (IsTold : List ℕ → Type 0) → ((piece : List ℕ) → IsTold piece → IsHelp piece)
        → Puts end_of told failed old new IsTold r → Whole
    for_help IsTold help =
        goes_as _ _ _ _ _ _ (λ piece is. inr (help piece is)) (λ piece is. inr (help piece is)) (λ piece is. absurd is)
        end_of r

  -- a piece that is wanted is put
  pub put_goes : (IsWanted : List ℕ → Type 0) {A F : Type 0} (end_of : F → End) (unwritten : F) → end_of unwritten ≡ cut → (r : Result A F) (piece : List ℕ)
      → IsWanted piece → OnOk r (Wrote told failed old new piece) → IfErr r (λ failure. (failure ≡ unwritten) × WrotePart told failed old new piece)
      → Puts end_of told failed old new IsWanted r
  put_goes IsWanted end_of unwritten is (Ok a) piece wanted whole part = record { piece = piece; is_wanted = wanted; written = whole }
  put_goes IsWanted end_of unwritten is (Err failure) piece wanted whole part =
      let Left : End → Type 0 = LeftAt told failed old new IsWanted (λ _. ⊥) in
      subst (λ f. Left (end_of f)) (sym part.0) (subst Left (sym is) (record { piece = piece; is_wanted = wanted; written = part.1 }))
