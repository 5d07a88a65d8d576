-- What clap's matches say of a number.
use Rattle.command_line.proofs.Basics.{rules, ◌≡◌, ◌≢◌, inl, inr, ◌∙◌, ap, sym, subst, codes, [], ℕ, List, Option, Some, None, Result, Ok, Err, IfSome, IsNone, refl, true, false, App, Row, Text, HasKind, HasMatchesOf, IsAmong, ReadsOne, app_of, fault_of, is_simple, is_simple_and_free, kind_of, subcommand_of, subcommand_rows_of, Command, IsCommand, Prints, app_with}
use Rattle.clap.specs.declared.{error.{Error.{Error}, kind.ErrorKind.TheVariants.{DisplayHelp, OutOfMemory}}, parser.matches.ArgMatches.{ArgMatches}}
use Rattle.clap.proofs.OnLiterals.{clap_on_literals}
use Rattle.command_line.specs.{Order.{AsksHelp, IsMistaken, IsNumberAt, States, StatesNothing, StatesCheck, StatesCompare, StatesIn, StatesList, StatesNothingIn, StatesRun}, declared.order.Order.{Order}}
use Rattle.command_line.specs.declared.order.Order.TheVariants as order

-- a number that was read is that of a text that is there
pub read_one : {E : Type 0} (gives : Text → Result ℕ E → Type 0) (o : Option Text) (r : Option ℕ) → (o ≡ None → r ≡ None)
    → ((t : Text) → o ≡ Some t → ReadsOne gives t r) → IfSome r (λ n. (t : Text) × (o ≡ Some t) × gives t (Ok n))
read_one gives o None none value = tt
read_one gives None (Some n) none value = let bad : Some n ≡ None = none refl in cc
read_one gives (Some t) (Some n) none value = (t, refl, value t refl)

-- where none was read, a text that is there is no number
pub none_read : {E : Type 0} (gives : Text → Result ℕ E → Type 0) (o : Option Text) (r : Option ℕ)
    → ((t : Text) → o ≡ Some t → ReadsOne gives t r) → IsNone r → (t : Text) → o ≡ Some t → (e : E) × gives t (Err e)
none_read gives o None value none t there = value t there
none_read gives o (Some n) value none t there = let bad : true ≡ false = none in cc

module _ (rows : List Row) where
  -- without its workers `run` or `compare` asks for nothing, nor without its window
  pub lacks_workers : ((n : ℕ) → IsNumberAt (codes "workers") rows n → ⊥) → (asked : Order) → (StatesRun rows asked → ⊥) × (StatesCompare rows asked → ⊥)
  lacks_workers none (order.Run path workers window print) = (λ h. none workers h.1, λ h. h)
  lacks_workers none (order.Compare path workers window) = (λ h. h, λ h. none workers h.1)
  lacks_workers none _ = (λ h. h, λ h. h)

  pub lacks_window : ((n : ℕ) → IsNumberAt (codes "window") rows n → ⊥) → (asked : Order) → (StatesRun rows asked → ⊥) × (StatesCompare rows asked → ⊥)
  lacks_window none (order.Run path workers window print) = (λ h. none window h.2, λ h. h)
  lacks_window none (order.Compare path workers window) = (λ h. h, λ h. none window h.2)
  lacks_window none _ = (λ h. h, λ h. h)

  module _ (name : Text) where
    pub check_asks_nothing : name ≡ codes "check" → ((asked : Order) → StatesCheck rows asked → ⊥) → StatesNothingIn name rows
    check_asks_nothing is nothing (order.Check path) h = nothing (order.Check path) h.1
    check_asks_nothing is nothing _ h = let bad = sym is ∙ h.0 in search rules

    pub list_asks_nothing : name ≡ codes "list" → ((asked : Order) → StatesList rows asked → ⊥) → StatesNothingIn name rows
    list_asks_nothing is nothing (order.List path print) h = nothing (order.List path print) h.1
    list_asks_nothing is nothing _ h = let bad = sym is ∙ h.0 in search rules

    pub run_asks_nothing : name ≡ codes "run" → ((asked : Order) → StatesRun rows asked → ⊥) → StatesNothingIn name rows
    run_asks_nothing is nothing (order.Run path workers window print) h = nothing (order.Run path workers window print) h.1
    run_asks_nothing is nothing _ h = let bad = sym is ∙ h.0 in search rules

    pub compare_asks_nothing : name ≡ codes "compare" → ((asked : Order) → StatesCompare rows asked → ⊥) → StatesNothingIn name rows
    compare_asks_nothing is nothing (order.Compare path workers window) h = nothing (order.Compare path workers window) h.1
    compare_asks_nothing is nothing _ h = let bad = sym is ∙ h.0 in search rules

simple : (prints : Prints) → is_simple (app_with prints) ≡ true
unfolding clap_on_literals
simple prints = refl

free : (prints : Prints) → is_simple_and_free (app_with prints) ≡ true
unfolding clap_on_literals
free prints = refl

module _ (c : Command) (words : List Text) (is : IsCommand c) where
  free_here : is_simple_and_free (app_of c) ≡ true
  free_here = ap is_simple_and_free is.app ∙ free is.prints

  met_here : (m : ArgMatches) → HasMatchesOf (app_of c) words m → subcommand_rows_of m ≡ subcommand_of (app_with is.prints) words
  met_here m has = (has (ap is_simple is.app ∙ simple is.prints)).1 ∙ ap (λ (a : App). subcommand_of a words) is.app

  -- an order that the matches state is stated by the words
  pub stated_by_words : (m : ArgMatches) → HasMatchesOf (app_of c) words m → (asked : Order)
      → (found : Text × List Row) × (subcommand_rows_of m ≡ Some found) × StatesIn found.0 found.1 asked → States words asked
  stated_by_words m has asked read = record {
    prints = is.prints;
    found = read.0;
    met = sym (met_here m has) ∙ read.1;
    stated = read.2;
  }

  -- where the matches state none, the words don't
  pub nothing_by_words : (m : ArgMatches) → HasMatchesOf (app_of c) words m
      → (is_simple_and_free (app_of c) ≡ true → fault_of (app_of c) words ≡ [])
      → ((found : Text × List Row) → subcommand_rows_of m ≡ Some found → StatesNothingIn found.0 found.1) → StatesNothing words
  nothing_by_words m has taken nothing = record {
    prints = is.prints;
    taken = sym (ap (λ (a : App). fault_of a words) is.app) ∙ taken free_here;
    nothing = λ found met. nothing found (met_here m has ∙ met);
  }

  -- the kind of clap's error is one that the words call for
  pub kind_by_words : (error : Error)
      → (is_simple_and_free (app_of c) ≡ true → HasKind (fault_of (app_of c) words) error)
      → HasKind (fault_of (app_with is.prints) words) error
  kind_by_words error kinds = subst (λ (a : App). HasKind (fault_of a words) error) is.app (kinds free_here)

-- what is told of an error of clap's stands where its kind is one that the words call for
module _ (prints : Prints) (words : List Text) (error : Error) where
  pub asks_help : HasKind (fault_of (app_with prints) words) error → kind_of error ≡ DisplayHelp → AsksHelp words
  asks_help (inl memory) is = absurd (cc (memory, is))
  asks_help (inr called_for) is =
      record { prints = prints; help = subst (λ k. IsAmong k (fault_of (app_with prints) words)) is called_for }

  pub is_mistaken : HasKind (fault_of (app_with prints) words) error → kind_of error ≢ OutOfMemory
      → kind_of error ≢ DisplayHelp → IsMistaken words
  is_mistaken (inl memory) other no_help = absurd (other memory)
  is_mistaken (inr called_for) other no_help =
      record { prints = prints; kind = kind_of error; other = no_help; called_for = called_for }
