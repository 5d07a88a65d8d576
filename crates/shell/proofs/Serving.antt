-- How a run for words that state an order or are refused ends, where it ended as `ended` says.
use Rattle.shell.proofs.{Basics.{◌≡◌, ◌⊎◌, sym, subst, inl, inr, ℕ, List, Option, Result, Ok, Err, IfErr, OnOk, arith, WroteNothing, End, HasStatus, IsWhy, Tells, Ends, GoesForWords, IsAsked, IsOfOrder, IsReason, Serves}, Going.{tells_as}}
use Rattle.shell.proofs.Leaving.{left_four, left_low, left_three, one_to_four}

-- the failure of which a status other than 0 is
pub failure_of : {F : Type 0} (status_of : F → ℕ) (line_of : F → List ℕ)
    {E : Type 0} (told_of : E → Option (List ℕ)) (failed_of : E → ℕ) (before after : E) (Holds : F → Type 0) (n : ℕ)
    → Tells told_of failed_of before after (IsWhy status_of line_of Holds n)
    → (failure : F) × (n ≡ status_of failure) × Holds failure
failure_of status_of line_of told_of failed_of before after Holds n (inl went) =
    let why = went.is_wanted in (why.failure, why.status_is, why.reason)
failure_of status_of line_of told_of failed_of before after Holds n (inr part) =
    let why = part.is_wanted in (why.failure, why.status_is, why.reason)

module _ {F : Type 0} (status_of : F → ℕ) (end_of : F → End)
    (statuses : (failure : F) → HasStatus (end_of failure) (status_of failure)) where
  -- with 0 there is none, and what stands of a run that is done does
  pub at_zero : {A : Type 0} (n : ℕ) (Done : Type 0) (Told : F → Type 0) (r : Result A F) → OnOk r Done
      → IfErr r (λ failure. (n ≡ status_of failure) × Told failure) → n ≡ 0 → Done
  at_zero n Done Told (Ok a) done failed zero = done
  at_zero n Done Told (Err failure) done failed zero =
      absurd (omega (arith, zero, failed.0, one_to_four (end_of failure) (status_of failure) (statuses failure)))

  module _ {Order Refusal : Type 0} (States : Order → Type 0) (Explains : Refusal → Type 0)
      (TellsOf : Refusal → F → Type 0) (Stops : Order → F → Type 0)
      (unasked : (reason : Refusal) (failure : F) → TellsOf reason failure
      → (status_of failure ≡ 2) ⊎ (status_of failure ≡ 4)) (line_of : F → List ℕ) where
    abbrev Holds : F → Type 0
    Holds = IsReason States Explains TellsOf Stops

    -- words that state no order end with 2 or 4, so 1 and 3 come of an order alone
    asked_at : (failure : F) → Holds failure → (status_of failure ≡ 1) ⊎ (status_of failure ≡ 3) → IsAsked States
    asked_at failure (inr stopped) at = (stopped.asked, stopped.stated)
    asked_at failure (inl refused) at = absurd (omega (arith, at, unasked refused.reason failure refused.tells))

    module _ (IsHelp : List ℕ → Type 0) (Answers Writes Leaves : Order → List ℕ → Type 0)
        {O : Type 0} (told : O → Option (List ℕ)) (failed : O → ℕ) (old new : O)
        {E : Type 0} (told_of : E → Option (List ℕ)) (failed_of : E → ℕ) (before after : E) (n : ℕ) where
      abbrev Ended : Type 0
      Ended =
          Ends States IsHelp Answers Writes Leaves told failed old new status_of line_of Holds told_of failed_of before
          after n

      pub ends : {A : Type 0} (r : Result A F) → OnOk r ((n ≡ 0) × WroteNothing told_of failed_of before after)
          → IfErr r (λ failure. (n ≡ status_of failure)
          × Tells told_of failed_of before after (λ line. line ≡ line_of failure))
          → GoesForWords States IsHelp Answers Writes Leaves told failed old new end_of r → IfErr r Holds → Ended
      ends (Ok a) ok err went reason = record {
        few = omega arith;
        done = λ zero. went;
        broken = λ four. absurd (omega arith);
        refused = λ low. absurd (omega arith);
        left = λ three. absurd (omega arith);
        asked = λ at. absurd (omega arith);
        silent = λ zero. ok.1;
        why = λ other. absurd (other ok.0);
      }
      ends (Err failure) ok err left reason =
          let end = end_of failure in
          let has : HasStatus end n = subst (HasStatus end) (sym err.0) (statuses failure) in
          let Written = Serves States IsHelp Writes in
          let Left = IsOfOrder States Leaves in
          let At : ℕ → Type 0 = λ m. (m ≡ 1) ⊎ (m ≡ 3) in
          record {
            few = (one_to_four end n has).1;
            done = λ zero. absurd (omega (arith, one_to_four end n has));
            broken = left_four told failed old new Written Left n end has left;
            refused = left_low told failed old new Written Left n end has left;
            left = left_three told failed old new Written Left n end has left;
            asked = λ at. asked_at failure reason (subst At err.0 at);
            silent = λ zero. absurd (omega (arith, one_to_four end n has));
            why = λ other.
                tells_as told_of failed_of before after (λ line. line ≡ line_of failure)
                (IsWhy status_of line_of Holds n)
                (λ line is. record { failure = failure; reason = reason; status_is = err.0; line_is = is }) err.1;
          }
