-- What stands where a run of the program stops.
use Rattle.study_commands.proofs.Words.{◌≡◌, ◌⊎◌, ap, inl, inr, refl, ℕ, List, Option, None, Some, Result, Ok, Err, IfErr, OnOk, Answers, GoesFor, IsNoSweep, Writes, end_of, status_of, StopsFor, Fault, Words, WordsMemory, Write, Wrote, WrotePart, goes_as, put_goes, Puts, AsksHelp, AsksVersion, Explains}
use Rattle.study_commands.specs.{Serve.{AreAnswered, TellsLine, TellsOf}, Inside.Private.{IsNoFault}}
use Rattle.study_line.specs.declared.order.{Order.{Order}, WordsError.{WordsError}}
use Rattle.study_line.specs.declared.order.Order.TheVariants as order
use Rattle.study_line.specs.declared.order.WordsError.TheVariants as refusal

module _ {O : Type 0} (told : O → Option (List ℕ)) (failed : O → ℕ) (old new : O) where
  -- a text that an order asks for is put
  pub text_goes : (input : Option (List ℕ)) (asked : Order) → IsNoSweep asked → {A : Type 0} (r : Result A Fault)
      (piece : List ℕ) → Answers input asked piece → OnOk r (Wrote told failed old new piece)
      → IfErr r (λ fault. (fault ≡ Write) × WrotePart told failed old new piece)
      → GoesFor told failed old new input asked r
  text_goes input asked no_sweep r piece wanted whole part =
      goes_as told failed old new _ _ _ _ _ _ (λ piece is. is) (written input asked no_sweep) (λ piece is. absurd is)
      end_of r (put_goes told failed old new (Answers input asked) end_of Write refl r piece wanted whole part)
    where
      written : (input : Option (List ℕ)) (asked : Order) → IsNoSweep asked → (piece : List ℕ)
          → Answers input asked piece → Writes input asked piece
      written input (order.Sweep path study) no_sweep piece is = absurd no_sweep
      written input _ no_sweep piece is = is

pub no_sweep : (asked : Order)
    → ((path : _) (study : _) → asked ≡ order.Sweep path study → ⊥) → IsNoSweep asked
no_sweep (order.Sweep path study) other = absurd (other path study refl)
no_sweep _ other = tt

-- any order stops at a failed write
pub stops_at_write : (input : Option (List ℕ)) (asked : Order) → StopsFor input asked Write
stops_at_write input (order.Check path None) = tt
stops_at_write input (order.Check path (Some study)) = tt
stops_at_write input _ = tt

-- help and the version are told only where they were asked for
pub answered : (words : List (List ℕ)) (reason : WordsError) → Explains words reason → (piece : List ℕ)
    → IsNoFault reason piece → AreAnswered words piece
answered words (refusal.Help text) explains piece is = inl explains
answered words refusal.Version explains piece is = inr (explains, is)
answered words _ explains piece is = absurd is

asked_for : (words : List (List ℕ)) (piece : List ℕ) → AreAnswered words piece → AsksHelp words ⊎ AsksVersion words
asked_for words piece (inl help) = inl help
asked_for words piece (inr version) = inr version.0

-- so words of which that was told asked for it
pub telling_asked : {O A : Type 0} (told : O → Option (List ℕ)) (failed : O → ℕ) (old new : O) (words : List (List ℕ))
    (r : Result A Fault) (reason : WordsError) → Explains words reason
    → Puts end_of told failed old new (IsNoFault reason) r → OnOk r (AsksHelp words ⊎ AsksVersion words)
telling_asked told failed old new words (Ok a) reason explains put =
    asked_for words put.piece (answered words reason explains put.piece put.is_wanted)
telling_asked told failed old new words (Err fault) reason explains put = tt

-- words that state no order end with 2, or with 4 where help or the version can't be written
line_status : (text : List ℕ) (f : Fault) → TellsLine text f → status_of f ≡ 2
line_status text (Words line) is = refl
line_status text WordsMemory is = refl
line_status text _ is = absurd is

pub unasked_status : (reason : WordsError) (f : Fault) → TellsOf reason f → (status_of f ≡ 2) ⊎ (status_of f ≡ 4)
unasked_status (refusal.Help text) f is = inr (ap status_of is)
unasked_status refusal.Version f is = inr (ap status_of is)
unasked_status refusal.Form f is = inl (ap status_of is)
unasked_status refusal.Memory f is = inl (ap status_of is)
unasked_status _ f is = inl (line_status _ f is)
