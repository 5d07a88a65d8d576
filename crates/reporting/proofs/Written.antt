-- Texts that went out one after the other.
use Rattle.reporting.proofs.Words.{◌≡◌, ℕ, ◌+◌, refl, sym, ap, ◌∙◌, subst, arith, Option, List, [], ◌∷◌, ◌++◌, length, append-nil, Appends-nil, Appends-trans, flat_map-append, take-append-add, Appends, EntryRecord, row_of, Wrote, WrotePart}
use Rattle.{std.proofs.lemmas.List.{take-append-le, length-append}, reporting.specs.TraceText.{fields_of, rows_text}}

pub rows_both : (xs ys : List EntryRecord) → rows_text (xs ++ ys) ≡ rows_text xs ++ rows_text ys
rows_both xs ys = flat_map-append (λ e. row_of (fields_of e)) xs ys

pub rows_one : (e : EntryRecord) → rows_text (e ∷ []) ≡ row_of (fields_of e)
rows_one e = append-nil (row_of (fields_of e))

module _ {O : Type 0} (told : O → Option (List ℕ)) (failed : O → ℕ) where
  pub wrote_nothing : (a : O) → Wrote told failed a a []
  wrote_nothing a = record { bytes = Appends-nil (told a); failures = refl }

  module _ (a b c : O) (x y : List ℕ) where
    pub wrote_both : Wrote told failed a b x → Wrote told failed b c y → Wrote told failed a c (x ++ y)
    wrote_both p q = record { bytes = Appends-trans _ _ _ x y p.bytes q.bytes; failures = q.failures ∙ p.failures }

    pub wrote_then_part : Wrote told failed a b x → WrotePart told failed b c y → WrotePart told failed a c (x ++ y)
    wrote_then_part p q =
        let n = q.bytes.0 in record {
          bytes = (
            length x + n,
            omega (arith, length-append x y, q.bytes.1),
            subst (Appends (told a) (told c)) (sym (take-append-add x y n)) (Appends-trans _ _ _ x _ p.bytes q.bytes.2),
          );
          failures = q.failures ∙ ap (λ k. k + 1) p.failures;
        }

  -- a front part of a text is one of a longer text
  pub part_of_more : (a b : O) (x y : List ℕ) → WrotePart told failed a b x → WrotePart told failed a b (x ++ y)
  part_of_more a b x y p =
      let n = p.bytes.0 in record {
        bytes = (n, omega (arith, length-append x y, p.bytes.1), subst (Appends (told a) (told b)) (sym (take-append-le n x y p.bytes.1)) p.bytes.2);
        failures = p.failures;
      }
