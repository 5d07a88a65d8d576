-- Files of which one at most is standard input.
use Rattle.study_commands.proofs.Words.{◌≡◌, ◌≢◌, ◌⊎◌, inl, inr, ap, refl, sym, subst, ℕ, List, Bool, true, false, Option, None, Some, String, Global, Members, AreBytes, MayBeTable, NameInputTwice, network_path, FileRefusal, IsNoNetwork, IsOfFiles, IsOfNetwork, IsRightOfTable, absent, broken, too_long, unreadable, Fault, Memory, Refused, SourceTexts}
use Rattle.{std.proofs.lemmas.Slice.Eq.{bytes_eq-Decides}, std.specs.Str.{bytes_eq}}
use Rattle.shell.specs.Ending.{TakesAtMost, input_path}

by_test : (a b : List ℕ) (r : Bool) → bytes_eq a b ≡ r → (a ≡ b) ⊎ (a ≢ b)
by_test a b true told = inl ((bytes_eq-Decides a b).0 told)
by_test a b false told = inr (λ same. absurd (cc (told, (bytes_eq-Decides a b).1 same)))

named_or_not : (a b : List ℕ) → (a ≡ b) ⊎ (a ≢ b)
named_or_not a b = by_test a b (bytes_eq a b) refl

-- what is known of the bytes at another path doesn't rest on the input
bytes_elsewhere : (i j : Option (List ℕ)) (path bytes : List ℕ) → path ≢ input_path → AreBytes j path bytes
    → AreBytes i path bytes
bytes_elsewhere i j path bytes other are =
    record { is_short = are.is_short; is_input = λ named. absurd (other named) }

right_elsewhere : (i j : Option (List ℕ)) (path : List ℕ) (r : FileRefusal) → path ≢ input_path
    → IsRightOfTable j path r → IsRightOfTable i path r
right_elsewhere i j path absent other right = right
right_elsewhere i j path unreadable other right = right
right_elsewhere i j path too_long other right = λ named. absurd (other named)
right_elsewhere i j path (broken r) other right =
    (right.0, bytes_elsewhere i j path right.0 other right.1, right.2, right.3)

module _ (i j : Option (List ℕ)) where
  table_elsewhere : (path : Option (List ℕ)) (t : Option Members) → path ≢ Some input_path → MayBeTable j path t
      → MayBeTable i path t
  table_elsewhere None None other is = tt
  table_elsewhere (Some path) (Some t) other is = record {
    bytes = is.bytes;
    are_bytes = bytes_elsewhere i j path is.bytes (λ named. other (ap Some named)) is.are_bytes;
    is_document = is.is_document;
  }
  table_elsewhere None (Some t) other is = absurd is
  table_elsewhere (Some path) None other is = absurd is

  none_elsewhere : (path : Option (List ℕ)) (line : Option (String Global)) → path ≢ Some input_path
      → IsNoNetwork j path line → IsNoNetwork i path line
  none_elsewhere None line other none = absurd none
  none_elsewhere (Some path) line other none = record {
    refusal = none.refusal;
    right = right_elsewhere i j path none.refusal (λ named. other (ap Some named)) none.right;
    says = none.says;
  }

-- the input stays as it is while the one file is read, or while the other is
pub StaysOnce : {T : Type 0} (texts : SourceTexts) (old mid new : T) → Type 0
StaysOnce texts old mid new =
    ((texts.path.now ≢ input_path) × (mid ≡ old)) ⊎ ((network_path texts ≢ Some input_path) × (new ≡ mid))

module _ {T : Type 0} (remaining : T → Option (List ℕ)) (texts : SourceTexts) (old mid new : T) where
  pub stays_once : ¬ NameInputTwice texts → (texts.path.now ≢ input_path → mid ≡ old)
      → (network_path texts ≢ Some input_path → new ≡ mid) → StaysOnce texts old mid new
  unfolding StaysOnce
  stays_once once first second = by (named_or_not texts.path.now input_path)
    where
      by : (texts.path.now ≡ input_path) ⊎ (texts.path.now ≢ input_path)
          → ((texts.path.now ≢ input_path) × (mid ≡ old)) ⊎ ((network_path texts ≢ Some input_path) × (new ≡ mid))
      by (inl named) = inr ((λ also. once (named, also)), second (λ also. once (named, also)))
      by (inr other) = inl (other, first other)

  pub taken_once : (n : ℕ) → StaysOnce texts old mid new → TakesAtMost n (remaining old) (remaining mid)
      → TakesAtMost n (remaining mid) (remaining new) → TakesAtMost n (remaining old) (remaining new)
  unfolding StaysOnce
  taken_once n (inl stays) first second = subst (λ x. TakesAtMost n (remaining x) (remaining new)) stays.1 second
  taken_once n (inr stays) first second = subst (λ x. TakesAtMost n (remaining old) (remaining x)) (sym stays.1) first

  pub network_read : (t : Option Members) → StaysOnce texts old mid new
      → MayBeTable (remaining mid) (network_path texts) t → MayBeTable (remaining old) (network_path texts) t
  unfolding StaysOnce
  network_read t (inl stays) is = subst (λ x. MayBeTable (remaining x) (network_path texts) t) stays.1 is
  network_read t (inr stays) is = table_elsewhere (remaining old) (remaining mid) (network_path texts) t stays.0 is

  none_read : (line : Option (String Global)) → StaysOnce texts old mid new
      → IsNoNetwork (remaining mid) (network_path texts) line → IsNoNetwork (remaining old) (network_path texts) line
  unfolding StaysOnce
  none_read line (inl stays) is = subst (λ x. IsNoNetwork (remaining x) (network_path texts) line) stays.1 is
  none_read line (inr stays) is = none_elsewhere (remaining old) (remaining mid) (network_path texts) line stays.0 is

  pub network_refused : (f : Fault) → StaysOnce texts old mid new → IsOfNetwork (remaining mid) (network_path texts) f
      → IsOfFiles (remaining old) texts f
  network_refused (Refused line) stays is = inr (none_read line stays is)
  network_refused Memory stays is = tt
  network_refused _ stays is = absurd is
