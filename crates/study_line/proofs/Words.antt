-- What clap's matches say.
use Rattle.study_line.proofs.Basics.{rules, ◌≡◌, ◌∙◌, ap, sym, subst, refl, true, codes, [], map, ℕ, List, Option, Some, None, Result, Ok, Err, IfOk, IfErr, option_map, App, Row, Text, HasKind, HasMatchesOf, ReadsOne, app_of, fault_of, found_of, is_simple, is_simple_and_free, one_of, one_text, rows_of, subcommand_of, subcommand_rows_of, first_value-rows, one_text-rows, whole_app, Explains, IsNumberAt, Lacks, MayBeUnsignedAt, States, StatesFound, StatesIn}
use Rattle.std.proofs.lemmas.Option.{same_Some}
use Rattle.std.specs.{Borrow.{Bor}, Option.{option_map_or, unwrap_or}, Str.Parse.{ParsesUnsigned, ExplainsUnsignedError, HasUnsignedDigitsIfOk}, declared.num.ParseIntError.{ParseIntError}}
use Rattle.clap.specs.declared.{builder.command.Command.{Command}, error.Error.{Error}, parser.matches.ArgMatches.{ArgMatches}}
use Rattle.clap.proofs.OnLiterals.{clap_on_literals}
use Rattle.study_line.specs.declared.order.{Order.{Order}, WordsError.{WordsError}}
use Rattle.study_line.specs.declared.order.Order.TheVariants as order
use Rattle.study_line.specs.declared.order.WordsError.TheVariants as refusal

-- the text of an argument as the rows have it
pub ruleset in_rows = (first_value-rows)

-- how a number of so many bits is read
abbrev gives : (bits : ℕ) → Text → Result ℕ ParseIntError → Type 0
gives bits text r = ParsesUnsigned bits 10 text r × ExplainsUnsignedError 10 text r × HasUnsignedDigitsIfOk text r

-- what was read is the number of the text that is there; where nothing was, there is none
number_of_text : (bits : ℕ) (id : Text) (rows : List Row) (there : Option Text) → there ≡ one_of id rows
    → (r : Option ℕ) → (there ≡ None → r ≡ None) → ((t : Text) → there ≡ Some t → ReadsOne (gives bits) t r)
    → MayBeUnsignedAt bits id rows r
number_of_text bits id rows (Some t) at (Some n) none value = (t, sym at, (value t refl).0)
number_of_text bits id rows None at (Some n) none value = let bad : Some n ≡ None = none refl in cc
number_of_text bits id rows (Some t) at None none value = λ n stated.
    let same : t ≡ stated.0 = same_Some t stated.0 (at ∙ stated.1) in
    let parses = subst (λ s. ParsesUnsigned {E = ParseIntError} bits 10 s (Ok n)) (sym same) stated.2 in
    (value t refl).1.0 parses.0
number_of_text bits id rows None at None none value = λ n stated. let bad : None ≡ Some stated.0 = at ∙ stated.1 in cc

pub read_number : (bits : ℕ) (m : ArgMatches) (id : Text) (r : Option ℕ) → (one_text (found_of m) id ≡ None → r ≡ None)
    → ((t : Text) → one_text (found_of m) id ≡ Some t → ReadsOne (gives bits) t r)
    → MayBeUnsignedAt bits id (rows_of (found_of m)) r
read_number bits m id =
    number_of_text bits id (rows_of (found_of m)) (one_text (found_of m) id) (one_text-rows (found_of m) id)

-- the texts of all uses of an argument, of which there may be none
pub all_texts : (found : Option (Bor (List (Bor Text)))) (all : Option (List Text)) (none : Bor (List (Bor Text)))
    → none.now ≡ [] → option_map (λ s. map (λ v. v.now) s.now) found ≡ all
    → map (λ t. t.now) (unwrap_or found none).now ≡ option_map_or (λ ts. ts) all []
all_texts None all none is at = ap (map (λ (t : Bor Text). t.now)) is ∙ ap (λ o. option_map_or (λ ts. ts) o []) at
all_texts (Some s) all none is at = ap (λ o. option_map_or (λ ts. ts) o []) at

-- what lacks a part isn't there
pub lacks_part : {X Y : Type 0} (Part : X → Type 0) (Whole : Y → Type 0)
    → ((y : Y) → Whole y → (x : X) × Part x) → (e : WordsError) → Lacks Part e → Lacks Whole e
lacks_part Part Whole parts (refusal.Help text) h = h
lacks_part Part Whole parts refusal.Version h = h
lacks_part Part Whole parts (refusal.Mistake text) h = h
lacks_part Part Whole parts refusal.Memory h = tt
lacks_part Part Whole parts _ h = λ y whole. let part = parts y whole in h part.0 part.1

pub show_has_numbers : (rows : List Row) (asked : Order) → StatesIn (codes "show") rows asked
    → ((n : ℕ) × IsNumberAt (codes "point") rows n) × ((n : ℕ) × IsNumberAt (codes "run") rows n)
show_has_numbers rows (order.Show path grid point run) h = ((point, h.3), (run, h.4))
show_has_numbers rows _ h = let bad = h.0 in search rules

simple : is_simple whole_app ≡ true
unfolding clap_on_literals
simple = refl

free : is_simple_and_free whole_app ≡ true
unfolding clap_on_literals
free = refl

module _ (c : Command) (words : List Text) (is : app_of c ≡ whole_app) where
  free_here : is_simple_and_free (app_of c) ≡ true
  free_here = ap is_simple_and_free is ∙ free

  met_here : (m : ArgMatches) → HasMatchesOf (app_of c) words m → subcommand_rows_of m ≡ subcommand_of whole_app words
  met_here m has = (has (ap is_simple is ∙ simple)).1 ∙ ap (λ (a : App). subcommand_of a words) is

  -- an order that the matches state is stated by the words
  pub stated_by_words : (m : ArgMatches) → HasMatchesOf (app_of c) words m → (r : Result Order WordsError)
      → IfOk r (StatesFound (subcommand_rows_of m)) → IfOk r (States words)
  stated_by_words m has r h = subst (λ met. IfOk r (StatesFound met)) (met_here m has) h

  -- where the matches state none, the words don't
  pub nothing_by_words : (m : ArgMatches) → HasMatchesOf (app_of c) words m
      → (is_simple_and_free (app_of c) ≡ true → fault_of (app_of c) words ≡ []) → (r : Result Order WordsError)
      → IfErr r (Lacks (StatesFound (subcommand_rows_of m))) → IfErr r (Explains words)
  nothing_by_words m has taken (Ok asked) h = tt
  nothing_by_words m has taken (Err (refusal.Help text)) h = absurd h
  nothing_by_words m has taken (Err refusal.Version) h = absurd h
  nothing_by_words m has taken (Err (refusal.Mistake text)) h = absurd h
  nothing_by_words m has taken (Err refusal.Memory) h = tt
  nothing_by_words m has taken (Err _) h = record {
    taken = sym (ap (λ (a : App). fault_of a words) is) ∙ taken free_here;
    nothing = λ asked stated. h asked (subst (λ met. StatesFound met asked) (sym (met_here m has)) stated);
  }

  -- the kind of clap's error is one that the words call for
  pub kind_by_words : (error : Error)
      → (is_simple_and_free (app_of c) ≡ true → HasKind (fault_of (app_of c) words) error)
      → HasKind (fault_of whole_app words) error
  kind_by_words error kinds = subst (λ (a : App). HasKind (fault_of a words) error) is (kinds free_here)
