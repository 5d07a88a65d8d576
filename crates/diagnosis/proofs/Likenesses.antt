-- Edits, as they are counted, and the nearest of a table's keys, as a loop finds it.
use Rattle.std.proofs.Common.{Bor, ◌≡◌, ◌≢◌, ℕ, ◌+◌, ◌<◌, ◌≤◌, List, [], ◌∷◌, length, get_or, take, nat_eq, Bool, true, false, Option, Some, None, Result, Ok, Err, IfOk, refl, sym, ap, ◌∙◌, rules, arith}
use Rattle.std.proofs.lemmas.{List.{take_all, Elements.{All-nil, All-more, All-weaker, All-map, All-contains}}, Slice.Eq.{bytes_eq-Decides}}
use Rattle.{std.specs.{List.{All, Contains}, Str.{chars}}, strsim.specs.Edits.{damerau}}
use Rattle.scenario.specs.{Table.{Field, same_text}, Parts.{field_of, fields_of}, declared.field.Kind.TheVariants.{Number}}
use Rattle.scenario.specs.declared.field.Field as code
use Rattle.{diagnosis.specs.Diagnosis.{edits, edits_of, most_edits, IsMeant}, scenario.proofs.Elements.{contains_image}}

ok_value : {E : Type 0} (d e : ℕ) → ◌≡◌ {A = Result ℕ E} (Ok d) (Ok e) → d ≡ e
ok_value d e is = search (rules, is)

pub counted : {E : Type 0} (a b : List ℕ) (r : Result ℕ E) → (a ≡ b → r ≡ Ok 0) → (chars a ≡ [] → IfOk r (λ d. d ≡ length (chars b))) → (chars b ≡ [] → IfOk r (λ d. d ≡ length (chars a)))
    → (a ≢ b → chars a ≢ [] → chars b ≢ [] → IfOk r (λ d. d ≡ damerau nat_eq (chars a) (chars b))) → IfOk r (λ d. d ≡ edits a b)
counted a b (Err e) same first second value = tt
counted a b (Ok d) same first second value = by (same_text a b) refl (chars a) refl (chars b) refl
  where
    by : (t : Bool) → same_text a b ≡ t → (xs : List ℕ) → chars a ≡ xs → (ys : List ℕ) → chars b ≡ ys → d ≡ edits_of t xs ys
    by true e xs p ys q = ok_value d 0 (same ((bytes_eq-Decides a b).0 e))
    by false e [] p ys q = first p ∙ ap length q
    by false e (x ∷ xs) p [] q = second q ∙ ap length p
    by false e (x ∷ xs) p (y ∷ ys) q =
        value (λ is. search (rules, sym e ∙ (bytes_eq-Decides a b).1 is)) (λ is. search (rules, sym p ∙ is)) (λ is. search (rules, sym q ∙ is)) ∙ rw (p, q) refl

-- ---- the loop over a table's keys

abbrev pub no_field : code.Field
no_field = record { key = record { ref_ptr = (0, 0); now = [] }; kind = Number; needed = false }

-- what is known of the nearest so far, if one is near enough
abbrev pub IsBest : List Field → List ℕ → Option (Bor (List ℕ)) → ℕ → Type 0
IsBest fields key None least = least ≡ most_edits key + 1
IsBest fields key (Some near) least =
    ((field : Field) × Contains fields field × (field.key ≡ near.now)) × (least ≡ edits key near.now) × (least ≤ most_edits key)

pub record IsSoFar (fields : List code.Field) (i : ℕ) (key : List ℕ) (best : Option (Bor (List ℕ))) (least : ℕ) : Type 0 where
  pub best_is : IsBest (fields_of fields) key best least
  pub least_is : All (λ f. least ≤ edits key f.key.now) (take i fields)

at_most : (fields : List Field) (key : List ℕ) (best : Option (Bor (List ℕ))) (least : ℕ) → IsBest fields key best least → least ≤ most_edits key + 1
at_most fields key None least is = omega (arith, is)
at_most fields key (Some near) least is = omega (arith, is.2)

pub begun : (fields : List code.Field) (key : List ℕ) → IsSoFar fields 0 key None (most_edits key + 1)
begun fields key = record { best_is = refl; least_is = All-nil (λ f. most_edits key + 1 ≤ edits key f.key.now) }

-- one key more, which is nearer
pub nearer : (fields : List code.Field) (i : ℕ) (key : List ℕ) (best : Option (Bor (List ℕ))) (least e : ℕ) → i < length fields → e ≡ edits key (get_or fields i no_field).key.now → e < least → IsSoFar fields i key best least → IsSoFar fields (i + 1) key (Some (get_or fields i no_field).key) e
nearer fields i key best least e within is less so = record {
  best_is = ((field_of (get_or fields i no_field), contains_image field_of fields i no_field within, refl), is, omega (arith, less, at_most (fields_of fields) key best least so.best_is));
  least_is = All-more (λ f. e ≤ edits key f.key.now) fields i no_field within
      (All-weaker (λ f. least ≤ edits key f.key.now) (λ f. e ≤ edits key f.key.now) (λ f le. omega arith) (take i fields) so.least_is) (omega arith);
}

-- one key more, which isn't
pub farther : (fields : List code.Field) (i : ℕ) (key : List ℕ) (best : Option (Bor (List ℕ))) (least e : ℕ) → i < length fields → e ≡ edits key (get_or fields i no_field).key.now → least ≤ e → IsSoFar fields i key best least → IsSoFar fields (i + 1) key best least
farther fields i key best least e within is far so = record {
  best_is = so.best_is;
  least_is = All-more (λ f. least ≤ edits key f.key.now) fields i no_field within so.least_is (omega arith);
}

pub ended : (fields : List code.Field) (i : ℕ) (key : List ℕ) (best : Option (Bor (List ℕ))) (least : ℕ) → length fields ≤ i → IsSoFar fields i key best least → IsMeant (fields_of fields) key best
ended fields i key best least past so = by best so.best_is
  where
    each : (other : Field) → Contains (fields_of fields) other → least ≤ edits key other.key
    each other = All-contains (λ f. least ≤ edits key f.key) (fields_of fields) other (All-map (λ f. least ≤ edits key f.key) field_of fields (rw (take_all i fields past) at so.least_is))

    by : (b : Option (Bor (List ℕ))) → IsBest (fields_of fields) key b least → IsMeant (fields_of fields) key b
    by None is = λ other listed. omega (arith, is, each other listed)
    by (Some near) is = record {
      field = is.0.0;
      listed = is.0.1;
      named = is.0.2;
      near_enough = rw (← is.1) is.2;
      nearest = λ other listed. rw (← is.1) (each other listed);
    }
